use Rattle.beet_counterexample_laws.proofs.DoneRuns.{audit, clear, five, five_worlds, opened, recorded, rehearse, seal, tally, trial}
use Rattle.beet_counterexample_laws.proofs.DoneRuns.{watch, witness, worlds}
use Rattle.beet_counterexample_laws.proofs.done.what_is_right_has_a_run.Goals as goal

pub returns-clause-tally : goal.returns-clause-tally
returns-clause-tally c = tally

pub returns-clause-clear : goal.returns-clause-clear
returns-clause-clear c = clear

pub returns-clause-watch : goal.returns-clause-watch
returns-clause-watch c = watch

pub returns-clause-five : goal.returns-clause-five
returns-clause-five c = five

pub returns-clause-rehearse : goal.returns-clause-rehearse
returns-clause-rehearse c = rehearse

pub returns-clause-recorded : goal.returns-clause-recorded
returns-clause-recorded c = recorded

pub returns-clause-seal : goal.returns-clause-seal
returns-clause-seal c = seal

pub returns-clause-opened : goal.returns-clause-opened
returns-clause-opened c = opened

pub returns-clause-witness : goal.returns-clause-witness
returns-clause-witness c = witness

pub returns-clause-trial : goal.returns-clause-trial
returns-clause-trial c = trial

pub returns-clause-worlds : goal.returns-clause-worlds
returns-clause-worlds c = worlds

pub returns-clause-five_worlds : goal.returns-clause-five_worlds
returns-clause-five_worlds c = five_worlds

pub returns-clause-audit : goal.returns-clause-audit
returns-clause-audit c = audit
