use Rattle.std.proofs.Common.{◌∙◌}
use Rattle.beet_job_trial.proofs.Curves.{curve-at}
use Rattle.beet_job_trial.proofs.rules.curve_at.Goals as goal

pub returns : goal.returns
returns c = λ grid e. c.index-curves-i.is ∙ curve-at grid c.args.curves.now c.args.i c.index-curves-i.result e
