use Rattle.std.proofs.Common.{◌≡◌, ◌-◌}
use Rattle.beet_gates.specs.Scripts.{bounds_of}
use Rattle.beet_gates.specs.Deals.{deals_of}
use Rattle.beet_gates.proofs.ClearFacts.{Underway}
use Rattle.beet_gates.proofs.clear.clear_run.Given as goal

abbrev pub invariant-loop-done : goal.invariant-loop-done
invariant-loop-done g l =
    let script = g.S.Script in
    record {
      end : l.rounds ≡ script.rounds_of l.script;
      underway : Underway (script.batch_of l.script) (deals_of l.masks)
          (bounds_of (script.wires_of l.script) (script.masks_of l.script) (script.secrets_of l.script))
          l.inputs (l.rounds - l.done) l.done l.run;
      placed : script.is_at l.script l.done l.run.opened l.place;
    }
