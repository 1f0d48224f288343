use Rattle.beet_job_envelopes.proofs.TextAfter.{stripped}
use Rattle.beet_job_envelopes.proofs.source_word.after.Goals as goal

pub returns : goal.returns
returns c = stripped c.args.front.now c.args.text.now c.strip_prefix.result c.strip_prefix.ensures.cases
