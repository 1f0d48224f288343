-- What a sale keeps of the bids so far, and the numbers that it compares on the way.
use Rattle.std.specs.Prelude.{◌+◌, ℕ, zero, suc, List, [], ◌∷◌, min, max, nat_le, if◌then◌else◌}

-- the greatest bid so far, its bidder, and the second greatest bid
pub record Kept : Type 0 where
  pub best : ℕ
  pub who : ℕ
  pub next : ℕ

-- after the first bid
abbrev pub kept_first : (ℕ → ℕ) → Kept
kept_first bid = record { best = bid 0; who = 1; next = 0 }

-- after one more bid, of the bidder with this number
abbrev pub kept_after : Kept → ℕ → ℕ → Kept
kept_after k bid bidder =
    if nat_le bid k.best then record { best = k.best; who = k.who; next = max k.next bid }
    else record { best = bid; who = bidder; next = max k.next k.best }

-- the pairs that are compared for so many more bids: the greatest bid so far and the next bid, and then the second
-- greatest and the lesser of the two
abbrev pub compared_from : (ℕ → ℕ) → ℕ → ℕ → Kept → List (ℕ × ℕ)
compared_from bid zero j k = []
compared_from bid (suc n) j k =
    (k.best, bid j) ∷ (k.next, min k.best (bid j)) ∷ compared_from bid n (j + 1) (kept_after k (bid j) (j + 1))

-- the pairs that are compared for a first bid and so many further ones
abbrev pub compared_of : (ℕ → ℕ) → ℕ → List (ℕ × ℕ)
compared_of bid further = compared_from bid further 1 (kept_first bid)
