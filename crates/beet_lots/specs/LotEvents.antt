-- Events in several lots: each lot has its own set of messages that were delivered.
use Rattle.std.specs.Prelude.{ℕ, ◌==◌, if◌then◌else◌, List, [], ◌∷◌}
use Rattle.beet_delivery.specs.Events.{Delivered, Triple, deliver}

-- a message of a lot
pub record LotTriple : Type 0 where
  pub lot : ℕ
  pub triple : Triple

-- an event changes the set of its lot as it does if there is that lot alone, and no other; the run of each lot has
-- so many rounds
abbrev pub deliver_in : (ℕ → ℕ) → (ℕ → Delivered) → LotTriple → ℕ → Delivered
deliver_in rounds x e lot = if lot == e.lot then deliver (rounds lot) (x lot) e.triple else x lot

-- the sets after a list of events, from sets on
abbrev pub after_in : (ℕ → ℕ) → (ℕ → Delivered) → List LotTriple → ℕ → Delivered
after_in rounds x [] = x
after_in rounds x (e ∷ es) = after_in rounds (deliver_in rounds x e) es

-- the messages of one lot alone
abbrev pub of_lot : ℕ → List LotTriple → List Triple
of_lot lot [] = []
of_lot lot (e ∷ es) = if lot == e.lot then e.triple ∷ of_lot lot es else of_lot lot es
