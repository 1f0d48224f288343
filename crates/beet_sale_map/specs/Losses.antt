-- What the numbers that are compared in a sale lose from one world to another.
use Rattle.std.specs.Prelude.{ℕ, List, map, slice_index}
use Rattle.std.specs.List.{zip}
use Rattle.beet_field.specs.Field.{sub_of}
use Rattle.beet_compare.specs.Compare.{doubled}
use Rattle.beet_sale_plan.specs.Kept.{compared_of}

-- two pairs that are compared, one in each world: by how much twice the difference of the first is more than that of
-- the second, modulo p
abbrev pub lost : (ℕ × ℕ) × (ℕ × ℕ) → ℕ
lost pairs = sub_of (doubled pairs.0.0 pairs.0.1) (doubled pairs.1.0 pairs.1.1)

-- the pairs that are compared in the sales of two lists of bids, of a first bidder and so many further ones
abbrev pub compared_both : ℕ → List ℕ → List ℕ → List ((ℕ × ℕ) × (ℕ × ℕ))
compared_both further bids bids' =
    zip (compared_of (slice_index bids) further) (compared_of (slice_index bids') further)

-- what each comparison loses, in their order
abbrev pub losses_of : ℕ → List ℕ → List ℕ → List ℕ
losses_of further bids bids' = map lost (compared_both further bids bids')
