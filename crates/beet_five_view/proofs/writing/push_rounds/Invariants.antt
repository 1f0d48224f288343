use Rattle.std.proofs.Common.{◌≡◌, ◌++◌}
use Rattle.std.specs.List.{flat_map}
use Rattle.beet_gates.specs.Each.{each}
use Rattle.beet_five_view.specs.CoreViews.{round_received}
use Rattle.beet_five_view.specs.JointViews.{round_bytes}
use Rattle.beet_five_view.proofs.writing.push_rounds.Given as goal

abbrev pub invariant-loop-round : goal.invariant-loop-round
invariant-loop-round l = l.file.items ≡ l.fn.file.items ++ flat_map round_bytes (each (round_received l.core) l.round)
