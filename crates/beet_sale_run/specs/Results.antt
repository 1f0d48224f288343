-- Who wins a sale, and for how much.
use Rattle.std.specs.Prelude.{ℕ, ◌+◌, ◌==◌, max, List, [], ◌∷◌, ◌++◌, length, slice_index, take, drop, find, unwrap_or}
use Rattle.std.specs.List.{range_with_len}

-- the greatest of bids
abbrev pub greatest : List ℕ → ℕ
greatest [] = 0
greatest (bid ∷ bids) = max bid (greatest bids)

-- the first place at which it stands
abbrev pub winning_place : List ℕ → ℕ
winning_place bids = unwrap_or (find (λ n. slice_index bids n == greatest bids) (range_with_len 0 (length bids))) 0

-- all bids but that at a place
abbrev pub all_but : ℕ → List ℕ → List ℕ
all_but place bids = take place bids ++ drop (place + 1) bids

-- the bidder that wins, counted from 1
abbrev pub winner_of : List ℕ → ℕ
winner_of bids = winning_place bids + 1

-- the price that it pays: the greatest bid of the others
abbrev pub price_of : List ℕ → ℕ
price_of bids = greatest (all_but (winning_place bids) bids)
