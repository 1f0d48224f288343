use Rattle.std.proofs.Common.{refl, ap, ◌∙◌}
use Rattle.std.proofs.lemmas.Result.{IfOk-weaker}
use Rattle.beet_view.specs.Transcripts.{view_bytes}
use Rattle.beet_view.proofs.running.transcript_of.Goals as goal

pub returns : goal.returns
returns g c =
    let run = rw c.in_ok-bidders.ensures.1 at c.run_view.ensures.core in
    IfOk-weaker c.into_transcript-file.result _ _
    (λ file is. is ∙ ap view_bytes (rw (c.me.ensures, c.in_ok-bidders.ensures.0, run) refl))
    c.into_transcript-file.ensures
