use Rattle.std.proofs.Common.{ℕ, ap, ◌+◌}
use Rattle.beet_gates.specs.Batches.{mul_batch}
use Rattle.beet_gates.specs.Levels.{wire_of}
use Rattle.beet_gates.specs.declared.levels.LevelItems.{LevelItems}
use Rattle.beet_gates.proofs.LevelRuns.{pairs-same, wire_of-plain}
use Rattle.beet_mask.specs.Mask.{level_wire}
use Rattle.beet_mask.proofs.set_level.Goals as goal

pub returns : goal.returns
returns g c =
    let pair : ℕ → ℕ → ℕ × ℕ = λ left right. (left, right) in
    let items : LevelItems = record { start = c.args.start; step = 1; results = c.args.results; carried = c.args.bits + 60 } in
    rw c.products_in_pairs.ensures
    (ap (mul_batch c.args.batch.now.lets.items)
    (pairs-same pair (wire_of items) (level_wire c.args.bits c.args.start c.args.results) g.row.K
    (λ k l. wire_of-plain c.args.start c.args.results (c.args.bits + 60) k)))
