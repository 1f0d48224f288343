use Rattle.beet_completeness_laws.proofs.Jobs.{audit, clear, five, five_worlds, opened, recorded, rehearse, seal, tally, trial, watch}
use Rattle.beet_completeness_laws.proofs.Jobs.{witness, worlds}
use Rattle.beet_completeness_laws.proofs.Rehearsals.{said}
use Rattle.beet_completeness_laws.proofs.what_is_right_is_done.Goals as goal

pub returns-clause-tally : goal.returns-clause-tally
returns-clause-tally c = λ files auction list call w can. tally files call auction list w can

pub returns-clause-clear : goal.returns-clause-clear
returns-clause-clear c = λ files auction servers list call w can. clear files call auction servers list w can

pub returns-clause-watch : goal.returns-clause-watch
returns-clause-watch c = λ files auction servers list call w can. watch files call auction servers list w can

pub returns-clause-five : goal.returns-clause-five
returns-clause-five c = λ files auction servers list call w can. five files call auction servers list w can

pub returns-clause-rehearse : goal.returns-clause-rehearse
returns-clause-rehearse c = λ files auction servers list name loaded schedule call w can.
    rehearse files call auction servers list name loaded schedule w can

pub returns-clause-all_name_the_outcome : goal.returns-clause-all_name_the_outcome
returns-clause-all_name_the_outcome c = λ files auction servers list name loaded schedule call w can none zero.
    said files call auction servers list name loaded schedule can w none zero

pub returns-clause-recorded : goal.returns-clause-recorded
returns-clause-recorded c = λ files auction servers list out call w can. recorded files call auction servers list out w can

pub returns-clause-seal : goal.returns-clause-seal
returns-clause-seal c = λ files auction bid source out call w can. seal files call auction bid source out w can

pub returns-clause-opened : goal.returns-clause-opened
returns-clause-opened c = λ files auction servers list call w can. opened files call auction servers list w can

pub returns-clause-witness : goal.returns-clause-witness
returns-clause-witness c = λ files auction servers list out call w can. witness files call auction servers list out w can

pub returns-clause-trial : goal.returns-clause-trial
returns-clause-trial c = λ files first second call w can. trial files call first second w can

pub returns-clause-worlds : goal.returns-clause-worlds
returns-clause-worlds c = λ files auction servers list1 list2 server out call w can.
    worlds files call auction servers list1 list2 server out w can

pub returns-clause-five_worlds : goal.returns-clause-five_worlds
returns-clause-five_worlds c = λ files auction servers list1 list2 one other out call w can.
    five_worlds files call auction servers list1 list2 one other out w can

pub returns-clause-audit : goal.returns-clause-audit
returns-clause-audit c = λ files auction one two three call w can. audit files call auction one two three w can
