-- Where nothing is undelivered, all three servers end alike.
use Rattle.std.proofs.Common.{◌≡◌, ◌==◌, ℕ, List}
use Rattle.std.proofs.lemmas.Bool.{cond-true, eq-eqb}
use Rattle.std.specs.Prelude.{Option}
use Rattle.beet_field.specs.declared.point.Point.{Point}
use Rattle.beet_delivery.specs.Events.{Delivered, passed, undelivered}
use Rattle.beet_sharing.specs.Runs.{Setup, shared_at}
use Rattle.beet_server.specs.Endings.{Waits, Ends, ending_of}
use Rattle.beet_delivery.proofs.ThreeServers.{three-is}
use Rattle.beet_delivery.proofs.Undelivered.{passed_all}

-- each has ended with what the script names after the opened numbers of the run
pub ended_alike : {F : Type 0} (finish : List ℕ → Option F) (o : Setup) (rounds : ℕ) (x : Delivered) → undelivered rounds x ≡ 0
    → (s : Point) → ending_of finish o rounds x s ≡ Ends (finish (shared_at o rounds).opened)
ended_alike finish o rounds x none s =
    cond-true (passed rounds x s == rounds) (Ends (finish (shared_at o rounds).opened)) (Waits (passed rounds x s))
    (eq-eqb (passed rounds x s) rounds (passed_all three-is rounds x none s))
