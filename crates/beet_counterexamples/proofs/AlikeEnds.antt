-- Two servers that have ended have ended alike, by the definition of an end.
use Rattle.std.proofs.Common.{◌≡◌, ◌==◌, ℕ, List, Option, Bool, true, false, sym, ◌∙◌}
use Rattle.std.specs.Prelude.{if◌then◌else◌}
use Rattle.beet_field.specs.declared.point.Point.{Point}
use Rattle.beet_plan.specs.declared.Finish.{Finish}
use Rattle.beet_sharing.specs.Runs.{Setup, shared_at}
use Rattle.beet_delivery.specs.Events.{Delivered, passed}
use Rattle.beet_server.specs.Endings.{Ends, Waits, ending_of}

ends-with : (b : Bool) (n : Option Finish) (t : ℕ) (a : Option Finish) → (if b then Ends n else Waits t) ≡ Ends a →
    n ≡ a
ends-with true n t a e = cc e
ends-with false n t a e = cc e

pub ends-alike : (named : List ℕ → Option Finish) (o : Setup) (rounds : ℕ) (x y : Delivered) (s t : Point)
    (one other : Option Finish) →
    ending_of named o rounds x s ≡ Ends one → ending_of named o rounds y t ≡ Ends other → one ≡ other
ends-alike named o rounds x y s t one other e f =
    let end : Option Finish = named (shared_at o rounds).opened in
    sym (ends-with (passed rounds x s == rounds) end (passed rounds x s) one e)
    ∙ ends-with (passed rounds y t == rounds) end (passed rounds y t) other f
