-- Five servers, 1 to 5, each of which hears the other four.
use Rattle.std.specs.Prelude.{ℕ, ◌-◌, ◌==◌, ◌&&◌, not, nat_le, nat_lt, if◌then◌else◌, filter, List, Bool}
use Rattle.beet_delivery.specs.Networks.{Network}
use Rattle.beet_weights.specs.Quadratics.{servers}

-- whether a number is that of a server
abbrev pub is_server : ℕ → Bool
is_server i = nat_le 1 i && nat_le i 5

-- whether one server sends another
abbrev pub sends_to : ℕ → ℕ → Bool
sends_to from to = is_server from && is_server to && not (from == to)

-- the other servers, in rising order
abbrev pub peers : ℕ → List ℕ
peers s = filter (λ j. sends_to j s) servers

-- the place of a peer among the four of a server, in rising order
abbrev pub rank : ℕ → ℕ → ℕ
rank from to = if nat_lt to from then to - 1 else to - 2

abbrev pub five : Network ℕ
five = record { servers = servers; peers = peers; same = λ a b. a == b; sends = sends_to }
