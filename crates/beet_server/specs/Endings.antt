-- How a server ends.
use Rattle.std.specs.Prelude.{◌==◌, ℕ, List, Option, if◌then◌else◌}
use Rattle.beet_field.specs.declared.point.Point.{Point}
use Rattle.beet_sharing.specs.Runs.{Setup, shared_at}
use Rattle.beet_delivery.specs.Events.{Delivered, passed}

-- a server waits in a round, or has ended with what the script names after the opened numbers
pub data Ending (F : Type 0) : Type 0 where
  Waits : ℕ → Ending F
  Ends : Option F → Ending F

-- the end of a server in a run of so many rounds, with these messages delivered
abbrev pub ending_of : {F : Type 0} → (List ℕ → Option F) → Setup → ℕ → Delivered → Point → Ending F
ending_of finish o rounds x s =
    if passed rounds x s == rounds then Ends (finish (shared_at o rounds).opened) else Waits (passed rounds x s)
