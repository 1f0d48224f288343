use Rattle.beet_audit.proofs.RunAgainFacts.{enough, many, ran}
use Rattle.beet_audit.proofs.running.run_again.Goals as goal

pub start_servers-requires-clause-enough : goal.start_servers-requires-clause-enough
start_servers-requires-clause-enough c =
    enough c.args.grid.now c.args.views.now c.inputs.result c.args.totals c.inputs.ensures.points
    c.requires.sums c.in_ok-words.words c.in_ok-words.ensures.words
    c.requires.enough

pub start_servers-requires-clause-inputs : goal.start_servers-requires-clause-inputs
start_servers-requires-clause-inputs c =
    many c.args.grid.now c.args.views.now c.inputs.result c.args.totals c.inputs.ensures.points
    c.requires.sums c.in_ok-words.words c.in_ok-words.ensures.words

pub returns-clause-ran : goal.returns-clause-ran
returns-clause-ran c =
    ran c.args.grid.now c.args.views.now c.inputs.result c.args.totals c.inputs.ensures.points
    c.requires.sums c.in_ok-words.words c.in_ok-words.ensures.words
    c.in-Ok.cores c.lockstep.result c.in-Ok.ensures.starts c.lockstep.ensures
