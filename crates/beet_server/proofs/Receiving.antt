-- The messages of the passed rounds.
use Rattle.std.proofs.Common.{◌≡◌, ◌≤◌, ℕ, length, None, refl, arith}
use Rattle.beet_field.specs.declared.point.Point.{Point}
use Rattle.beet_gates.proofs.EachFacts.{get-past}
use Rattle.beet_server.specs.Cores.{Core}
use Rattle.beet_server.specs.Steps.{received_from}

-- nothing of a round that is not passed
pub none-received : {S : Type 0} (c : Core S) (round : ℕ) (sender : Point) → length c.received ≡ c.round →
    c.round ≤ round → None ≡ received_from c round sender
none-received c round sender count h = rw (get-past c.received round (omega (arith, count, h))) refl
