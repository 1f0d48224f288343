use Rattle.std.proofs.Common.{◌≡◌, ap, subst, ◌∙◌}
use Rattle.beet_delivery.proofs.ThreeServers.{same_self}
use Rattle.beet_plan.specs.Auction.{Auction}
use Rattle.beet_server.specs.Cores.{Core}
use Rattle.beet_view.specs.RunViews.{core_transcript}
use Rattle.beet_view.specs.Transcripts.{view_bytes}
use Rattle.beet_transcripts.proofs.BookRuns.{ends-book, inputs-enough, tapes-enough, view-for}
use Rattle.beet_transcripts.proofs.RunsOnFacts.{ends-so, transcript-on}
use Rattle.beet_run.proofs.Ending.{has-ended-run, have-run}
use Rattle.beet_transcripts.proofs.running.see_whole.Goals as goal

pub start_servers-requires-clause-enough : goal.start_servers-requires-clause-enough
start_servers-requires-clause-enough g c =
    let h = c.in_ok-begun.ensures in
    tapes-enough c.args.book.now c.args.words.now h.book c.requires _ h.grid _ h.inputs _ h.tapes

pub start_servers-requires-clause-inputs : goal.start_servers-requires-clause-inputs
start_servers-requires-clause-inputs g c =
    let h = c.in_ok-begun.ensures in
    inputs-enough c.args.book.now c.args.words.now h.book c.requires _ h.grid _ h.inputs _ h.tapes

pub finish_at-finish-requires : goal.finish_at-finish-requires
finish_at-finish-requires g c =
    has-ended-run c.in_ok-begun.begun.grid _ _ _ c.in_ok-start_servers.ensures.starts _ c.lockstep-cores.ensures

pub returns-clause-transcript : goal.returns-clause-transcript
returns-clause-transcript g c =
    let h = c.in_ok-begun.ensures in
    let shown = h.seen c.args.at (same_self c.args.at) in
    let ran = have-run c.in_ok-begun.begun.grid _ _ _ c.in_ok-start_servers.ensures.starts _ c.lockstep-cores.ensures in
    transcript-on _ _ _ _ ran c.args.at _ _ _ c.into_one-seen.ensures
    (subst (λ (core : Core Auction). c.in_ok-transcript.field-0.items
    ≡ core_transcript core c.in_ok-begun.begun.grid c.into_one-seen.result) c.get.ensures
    c.in_ok-transcript.ensures)
    ∙ ap view_bytes (view-for c.args.book.now c.args.words.now h.book c.requires _ h.grid _ h.inputs _ h.tapes c.args.at _ shown)

pub returns-clause-finish : goal.returns-clause-finish
returns-clause-finish g c =
    let h = c.in_ok-begun.ensures in
    let ran = have-run c.in_ok-begun.begun.grid _ _ _ c.in_ok-start_servers.ensures.starts _ c.lockstep-cores.ensures in
    (ends-so _ _ _ _ ran _ _ _ _ c.finish_at-finish.ensures c.round-rounds.ensures
    (ends-book c.args.book.now c.args.words.now h.book c.requires _ h.grid _ h.inputs _ h.tapes ran.starts.are_masks)).0

pub returns-clause-rounds : goal.returns-clause-rounds
returns-clause-rounds g c =
    let h = c.in_ok-begun.ensures in
    let ran = have-run c.in_ok-begun.begun.grid _ _ _ c.in_ok-start_servers.ensures.starts _ c.lockstep-cores.ensures in
    (ends-so _ _ _ _ ran _ _ _ _ c.finish_at-finish.ensures c.round-rounds.ensures
    (ends-book c.args.book.now c.args.words.now h.book c.requires _ h.grid _ h.inputs _ h.tapes ran.starts.are_masks)).1
