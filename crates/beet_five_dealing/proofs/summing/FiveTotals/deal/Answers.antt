use Rattle.std.proofs.Common.{◌≡◌, ◌*◌, ◌∙◌, ap, take}
use Rattle.beet_words.specs.Words.{accepted}
use Rattle.beet_book.specs.Dealing.{quantities}
use Rattle.beet_five_dealing.specs.FiveTotals.{FiveTotals, added_to_each}
use Rattle.beet_five_dealing.proofs.FiveSums.{deals-one}
use Rattle.beet_five_dealing.proofs.summing.FiveTotals.deal.Goals as goal

pub returns : goal.returns
returns c =
    let prices : c.self.inside.prices ≡ c.args.self.now.prices = ap (λ (t : FiveTotals). t.prices) c.self.view_is in
    deals-one c.args.curve.now c.args.words.now c.deref.result.now c.args.self.now _ prices
    (c.deref.ensures.value ∙ c.draw_first.ensures
    ∙ ap (λ n. take n (accepted c.args.words.now)) (c.self.invariant.1 ∙ ap (λ n. 2 * (2 * n)) prices))
    (c.add.ensures.sums
    ∙ ap (added_to_each (quantities c.args.curve.now) c.deref.result.now) (ap (λ (t : FiveTotals). t.sums) c.self.view_is))
