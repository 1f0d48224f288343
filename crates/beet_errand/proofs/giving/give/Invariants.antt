use Rattle.std.proofs.Common.{◌≡◌, drop}
use Rattle.beet_store.specs.Desks.{DeskTold, Done}
use Rattle.beet_errand.specs.Runs.{GivesAll}
use Rattle.beet_errand.proofs.giving.give.Given as goal

abbrev pub invariant-loop-file : goal.invariant-loop-file
invariant-loop-file g l = record {
  taken : (g.K.Desk.seen l.desk).faults ≡ (g.K.Desk.seen l.fn.desk).faults;
  given : (now : DeskTold) (done : Done) →
      GivesAll (g.K.Desk.seen l.desk).told now (drop l.file-index l.files) l.text done →
      GivesAll (g.K.Desk.seen l.fn.desk).told now l.files l.text done;
}
