use Rattle.std.proofs.Common.{◌≡◌, ◌≤◌, drop, vec_capacity}
use Rattle.beet_five_run.proofs.FiveStarts.{HaveBegun}
use Rattle.beet_five_run.proofs.running.start_five.Given as goal

abbrev pub invariant-loop-k : goal.invariant-loop-k
invariant-loop-k g l = record {
  within : l.k ≤ 5;
  inputs : l.inputs.items ≡ drop l.k l.fn.inputs.items;
  masks : l.masks.items ≡ drop l.k l.fn.masks.items;
  coefficients : l.coefficients.items ≡ drop l.k l.fn.coefficients.items;
  begun : HaveBegun g.S.Script.batch_of g.S.Script.rounds_of l.fn.script l.fn.inputs.items l.fn.masks.items
      l.fn.coefficients.items l.k l.cores.items;
  room : 5 ≤ vec_capacity l.cores;
}
