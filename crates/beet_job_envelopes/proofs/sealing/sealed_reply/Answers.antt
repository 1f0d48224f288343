use Rattle.std.proofs.Common.{◌∙◌}
use Rattle.beet_job_envelopes.proofs.SealSteps.{files-sealed, answer-sealed}
use Rattle.beet_job_envelopes.proofs.sealing.sealed_reply.Goals as goal

pub returns : goal.returns
returns c =
    let grid = c.args.grid.now in
    let curve = c.args.curve.now in
    let tape = c.args.tape.now in
    let files = files-sealed grid c.args.out.now curve tape _ c.in_ok-envelopes.envelopes c.requires.fresh
    c.in_ok-envelopes.ensures.servers c.in_ok-envelopes.ensures.dealt in
    answer-sealed grid c.args.out.now curve tape.words _ _ _
    (c.in_ok-files.ensures ∙ files) c.in_ok-sealed_line.ensures c.prices.ensures.value
