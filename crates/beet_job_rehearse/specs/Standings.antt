-- How three servers stand once messages are delivered, by the end of their run alone: no message and no share is in it.
use Rattle.std.specs.Prelude.{ℕ, ◌==◌, if◌then◌else◌}
use Rattle.beet_field.specs.declared.point.Point.{Point}
use Rattle.beet_plan.specs.declared.Finish.{Finish}
use Rattle.beet_delivery.specs.Events.{Delivered, passed, undelivered}
use Rattle.beet_field.specs.Trio.{trio_of}
use Rattle.beet_job_rehearse.specs.declared.standing.Standing.{Standing}
use Rattle.beet_job_rehearse.specs.declared.standing.Standing.TheVariants.{Waiting, Ended}
use Rattle.beet_job_rehearse.specs.declared.standing.Rehearsal.{Rehearsal}

-- a server has ended once it has passed all rounds, and before that it waits
abbrev pub standing_of : Finish → ℕ → Delivered → Point → Standing
standing_of finish rounds x s = if passed rounds x s == rounds then Ended finish else Waiting (passed rounds x s)

-- the three servers, and how many messages are sent and not delivered
abbrev pub rehearsal_of : Finish → ℕ → Delivered → Rehearsal
rehearsal_of finish rounds x = record {
  servers = trio_of (standing_of finish rounds x);
  undelivered = undelivered rounds x;
}

-- all three have ended with this finish, and nothing is undelivered
abbrev pub ended_alike : Finish → Rehearsal
ended_alike finish = record { servers = trio_of (λ s. Ended finish); undelivered = 0 }
