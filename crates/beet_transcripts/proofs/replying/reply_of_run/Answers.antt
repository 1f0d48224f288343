use Rattle.std.proofs.Common.{List, ap, ◌∙◌}
use Rattle.beet_field.specs.Trio.{member}
use Rattle.beet_field.specs.declared.trio.Trio.{Trio}
use Rattle.beet_field.specs.declared.point.Point.TheVariants.{One, Two, Three}
use Rattle.beet_errand.specs.Errands.{Answer}
use Rattle.beet_view.specs.Transcripts.{view_bytes}
use Rattle.beet_view.specs.declared.view.Seen.{Seen}
use Rattle.beet_run.proofs.Ending.{has-ended-run}
use Rattle.beet_transcripts.specs.RunsOn.{view_on}
use Rattle.beet_transcripts.proofs.RunsOnFacts.{all-files, answer-on, ends-so, transcript-on}
use Rattle.beet_transcripts.proofs.replying.reply_of_run.Goals as goal

pub finish_at-finish-requires : goal.finish_at-finish-requires
finish_at-finish-requires g c =
    let ran = c.requires.run.2 in
    has-ended-run c.args.grid.now _ _ _ ran.starts c.args.cores ran.ended

pub returns : goal.returns
returns g c = λ inputs words finish rounds h.
    let grid = c.args.grid.now in
    let seen = c.args.seen in
    let cores = c.args.cores in
    let texts = c.in_ok-transcripts.transcripts in
    let same = ends-so grid inputs words cores h.ran _ finish _ rounds c.finish_at-finish.ensures c.round-rounds.ensures h.ends in
    ap (λ (a : Answer). record a { files = c.in_ok-files.files.items }) c.reply.view_is
    ∙ answer-on c.args.out.now grid inputs words seen _ finish _ rounds _ _ texts same.0 same.1 c.in_ok-reply.ensures
    (all-files texts (λ s. view_bytes (view_on grid inputs words (member seen s) s))
    (transcript-on grid inputs words cores h.ran One _ _ _ (ap (λ (each : Trio (List Seen)). each.one) c.into_parts.ensures)
    c.in_ok-transcripts.ensures.one)
    (transcript-on grid inputs words cores h.ran Two _ _ _ (ap (λ (each : Trio (List Seen)). each.two) c.into_parts.ensures)
    c.in_ok-transcripts.ensures.two)
    (transcript-on grid inputs words cores h.ran Three _ _ _ (ap (λ (each : Trio (List Seen)). each.three) c.into_parts.ensures)
    c.in_ok-transcripts.ensures.three))
    c.in_ok-files.ensures
