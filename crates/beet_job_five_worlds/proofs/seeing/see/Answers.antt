use Rattle.std.proofs.Common.{◌-◌, length, arith, refl, sym, ◌∙◌}
use Rattle.std.proofs.lemmas.Option.{same_Some, slice_get_read}
use Rattle.beet_weights.specs.Quadratics.{IsServer}
use Rattle.beet_coalition.specs.Lists.{at_server}
use Rattle.beet_plan.specs.FivePlan.{five_over}
use Rattle.beet_five_auction.specs.FiveEndings.{book_finish}
use Rattle.beet_five_dealing.specs.FiveInputs.{setup_of}
use Rattle.beet_five_run.proofs.FiveEnding.{EndsAt, ends-at}
use Rattle.beet_five_view.specs.JointBooks.{joint_transcript}
use Rattle.beet_job_five_worlds.proofs.SeenCores.{outcome-known}
use Rattle.beet_job_five_worlds.proofs.seeing.see.Goals.{After-round}
use Rattle.beet_job_five_worlds.proofs.seeing.see.Goals as goal

lower-server : (c : After-round) → IsServer c.args.two.a
lower-server c = (c.args.two.lowest, omega (arith, c.args.two.order, c.args.two.highest))

-- what the lower server has seen
lower : (c : After-round) →
    EndsAt (setup_of c.args.book.now c.args.words.now) (five_over c.args.book.now.grid) c.args.two.a c.index-cores-two.result
lower c =
    let cores = c.args.cores.now in
    let count = c.requires.ended.stand.count in
    ends-at _ _ cores c.args.two.a c.index-cores-two.result (lower-server c) c.requires.ended
    (slice_get_read cores (length cores) (c.args.two.a - 1) c.index-cores-two.result refl
    (omega (arith, count, c.args.two.lowest, c.args.two.order, c.args.two.highest)) c.index-cores-two.is)

-- and the higher
higher : (c : After-round) →
    EndsAt (setup_of c.args.book.now c.args.words.now) (five_over c.args.book.now.grid) c.args.two.b c.index-cores-two-2.result
higher c =
    let cores = c.args.cores.now in
    let count = c.requires.ended.stand.count in
    let server : IsServer c.args.two.b = (omega (arith, c.args.two.lowest, c.args.two.order), c.args.two.highest) in
    ends-at _ _ cores c.args.two.b c.index-cores-two-2.result server c.requires.ended
    (slice_get_read cores (length cores) (c.args.two.b - 1) c.index-cores-two-2.result refl
    (omega (arith, count, c.args.two.lowest, c.args.two.order, c.args.two.highest)) c.index-cores-two-2.is)

pub returns-clause-finish : goal.returns-clause-finish
returns-clause-finish c =
    let book = c.args.book.now in
    let words = c.args.words.now in
    let known = outcome-known book words c.args.two.a c.index-cores-two.result c.finish_at.result c.grid-grid.ensures.limits c.requires.runs
    (lower-server c) (lower c) c.finish_at.ensures.outcome in
    same_Some c.in-Some.finish (book_finish book (at_server words.masks)) (sym c.in-Some.is ∙ known.0)

pub returns-clause-rounds : goal.returns-clause-rounds
returns-clause-rounds c =
    let known = outcome-known c.args.book.now c.args.words.now c.args.two.a c.index-cores-two.result c.finish_at.result
    c.grid-grid.ensures.limits c.requires.runs (lower-server c) (lower c) c.finish_at.ensures.outcome in
    c.round.ensures.value ∙ known.1

pub returns-clause-transcript : goal.returns-clause-transcript
returns-clause-transcript c =
    let one = lower c in
    let other = higher c in
    c.in_ok-transcript.ensures one.x other.x c.requires.chains c.requires.runs one.fits other.fits
    ∙ (λ j. joint_transcript (one.name j) (other.name j) c.args.book.now c.args.words.now)
