use Rattle.std.proofs.Common.{◌≡◌, ◌++◌}
use Rattle.beet_gates.specs.Draws.{draws_in}
use Rattle.beet_gates.specs.Each.{each}
use Rattle.beet_coalition_map.specs.Steps.{dealing, product_by, run_of}
use Rattle.beet_coalition_map.proofs.stage.Stage.append_products.Given as goal

abbrev pub invariant-loop-k : goal.invariant-loop-k
invariant-loop-k l = record {
  given : l.given.items ≡ l.initial.given.items ++ each (product_by (dealing l.masks l.numbers) (run_of l.self) l.act) l.k;
  end : l.k-end ≡ draws_in l.act;
}
