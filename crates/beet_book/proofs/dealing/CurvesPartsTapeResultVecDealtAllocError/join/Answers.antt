use Rattle.beet_book.proofs.Parts.{over-parts}
use Rattle.beet_book.proofs.dealing.CurvesPartsTapeResultVecDealtAllocError.join.Goals as goal

pub returns : goal.returns
returns c = λ from count more front front_left back back_left can _ few rest.
    over-parts (λ v. v.items) c.args.self.now.grid.now c.args.self.now.curves.now from count more front front_left back back_left
    c.args.few c.args.rest c.joined.result can few rest c.joined.ensures
