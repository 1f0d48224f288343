use Rattle.std.proofs.Common.{◌≡◌, arith, ap, ◌∙◌}
use Rattle.std.proofs.lemmas.List.{take_all}
use Rattle.beet_book.specs.Totals.{all_added}
use Rattle.beet_book.proofs.Blocks.{adds-block, all-values}
use Rattle.beet_book.proofs.summing.Totals.add_block.Goals as goal

-- the whole block was added
whole : (c : goal.After-loop-dealt) →
    c.loop-dealt.self ≡ record c.args.self.now { points = all_added c.args.self.now.points c.args.block.now }
whole c =
    c.loop-dealt.invariant
    ∙ ap (λ block. record c.args.self.now { points = all_added c.args.self.now.points block })
    (take_all c.loop-dealt.dealt-index c.args.block.now (omega arith))

pub returns-clause-values : goal.returns-clause-values
returns-clause-values c = all-values c.args.self.now.points c.args.block.now _ (ap (λ t. t.points) (whole c))

pub returns-clause-block : goal.returns-clause-block
returns-clause-block c = adds-block c.args.self.now c.loop-dealt.self c.args.block.now c.requires.lengths (whole c)
