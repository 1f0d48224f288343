-- Where every message is delivered, the three servers have ended alike.
use Rattle.std.proofs.Common.{◌≡◌, ℕ, refl}
use Rattle.beet_field.specs.declared.point.Point.{Point}
use Rattle.beet_field.specs.declared.point.Point.TheVariants.{One, Two, Three}
use Rattle.beet_plan.specs.declared.Finish.{Finish}
use Rattle.beet_delivery.specs.Events.{Delivered, passed, undelivered}
use Rattle.beet_delivery.proofs.ThreeServers.{three-is}
use Rattle.beet_delivery.proofs.Undelivered.{passed_all}
use Rattle.beet_job_rehearse.specs.Standings.{ended_alike, rehearsal_of, standing_of}
use Rattle.beet_job_rehearse.proofs.ServerStands.{is_same}
use Rattle.beet_job_rehearse.specs.declared.standing.Standing.TheVariants.{Ended}

stands : (finish : Finish) (rounds : ℕ) (x : Delivered) (s : Point) → passed rounds x s ≡ rounds →
    standing_of finish rounds x s ≡ Ended finish
stands finish rounds x s e = rw (is_same (passed rounds x s) rounds e) refl

pub all-ended : (finish : Finish) (rounds : ℕ) (x : Delivered) → undelivered rounds x ≡ 0 →
    rehearsal_of finish rounds x ≡ ended_alike finish
all-ended finish rounds x h =
    let one = stands finish rounds x One (passed_all three-is rounds x h One) in
    let two = stands finish rounds x Two (passed_all three-is rounds x h Two) in
    let three = stands finish rounds x Three (passed_all three-is rounds x h Three) in
    rw (one, two, three, h) refl
