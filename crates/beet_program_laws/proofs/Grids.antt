-- The grid that an auction file reads as is within its limits.
use Rattle.std.proofs.Common.{◌≡◌, ◌≤◌, ◌==◌, ◌&&◌, ℕ, List, ◌∷◌, length, slice_get, slice_index, drop, nat_lt, not}
use Rattle.std.proofs.Common.{Bool, true, false, Option, Some, None, Ok, Err, if◌then◌else◌, refl, subst}
use Rattle.std.specs.Prelude.{codes}
use Rattle.std.specs.Char.{is_ascii_digit}
use Rattle.std.specs.List.{list_all}
use Rattle.std.proofs.lemmas.Bool.{leb-true, ltb-false}
use Rattle.beet_forms.specs.Faults.{Fault, first_fault, reading_of}
use Rattle.beet_forms.specs.Numbers.{decimal_value, number_of}
use Rattle.beet_forms.specs.Rows.{rows_of}
use Rattle.beet_forms.specs.declared.decimals.NumberFault.TheVariants.{Empty, NotDigit, LeadingZero, TooLarge}
use Rattle.beet_gates.specs.declared.Gates.TheVariants.{Chain}
use Rattle.beet_bids.specs.AuctionFiles.{auction_of, gates_named, is_from, last_reasons, name_reason, named_in}
use Rattle.beet_bids.specs.AuctionFiles.{number_in, number_reason, policy_in, tells_policy, value_of, version_reason}
use Rattle.beet_bids.specs.Grids.{Grid, IsGrid}
use Rattle.beet_bids.specs.declared.auction_file.TheConstants.{BAD_VALUE}
use Rattle.beet_bids.specs.declared.grid.TheConstants.{LARGEST_BASE, LARGEST_TICK, MOST_PRICES}

-- a number that is read is no less than the lowest and no more than the highest
from-read : (low high value : ℕ) (empty other leading large : Bool) → nat_lt high value ≡ large →
    is_from low (if empty then Err Empty else if other then Err NotDigit else if leading then Err LeadingZero
    else if large then Err TooLarge else Ok value) ≡ true →
    (low ≤ value) × (value ≤ high)
from-read low high value true other leading large is e = absurd cc
from-read low high value false true leading large is e = absurd cc
from-read low high value false false true large is e = absurd cc
from-read low high value false false false true is e = absurd cc
from-read low high value false false false false is e = (leb-true low value e, ltb-false high value is)

passed : (b : Bool) (reason : ℕ) → (if b then None else Some reason) ≡ None → b ≡ true
passed true reason e = refl
passed false reason e = absurd cc

-- the number of a row is within its limits
number-within : (low high : ℕ) (value : Option (List ℕ)) → number_reason low high value ≡ None →
    (low ≤ number_in value) × (number_in value ≤ high)
number-within low high None e = absurd cc
number-within low high (Some digits) e =
    from-read low high (decimal_value digits) (length digits == 0) (not (list_all is_ascii_digit digits))
    (nat_lt 1 (length digits) && (slice_index digits 0 == 48))
    (nat_lt high (decimal_value digits)) refl (passed (is_from low (number_of digits high)) BAD_VALUE e)

-- of rows that are read none is refused
no-reasons : (version base tick prices : Option ℕ) (rest : List (Option ℕ)) (value read : Grid) →
    reading_of (first_fault 1 (version ∷ base ∷ tick ∷ prices ∷ rest)) value ≡ Ok read →
    (base ≡ None) × (tick ≡ None) × (prices ≡ None) × (value ≡ read)
no-reasons (Some reason) base tick prices rest value read e = absurd cc
no-reasons None (Some reason) tick prices rest value read e = absurd cc
no-reasons None None (Some reason) prices rest value read e = absurd cc
no-reasons None None None (Some reason) rest value read e = absurd cc
no-reasons None None None None rest value read e = (refl, refl, refl, last (first_fault 5 rest) e) where
  last : (fault : Option Fault) → reading_of fault value ≡ Ok read → value ≡ read
  last None e = cc
  last (Some fault) e = absurd cc

-- a grid that is read is within its limits
pub grid-is : (bytes : List ℕ) (grid : Grid) → auction_of bytes ≡ Ok grid → IsGrid grid
grid-is bytes grid e =
    let rows = rows_of bytes in
    let version = value_of (codes "beet-auction") (slice_get rows 0) in
    let base = value_of (codes "base") (slice_get rows 1) in
    let tick = value_of (codes "tick") (slice_get rows 2) in
    let prices = value_of (codes "prices") (slice_get rows 3) in
    let gates = value_of (codes "gates") (slice_get rows 4) in
    let none = no-reasons (version_reason version) (number_reason 0 LARGEST_BASE base)
    (number_reason 1 LARGEST_TICK tick) (number_reason 1 MOST_PRICES prices)
    (name_reason gates_named gates ∷ last_reasons (tells_policy version) (drop 5 rows))
    (record {
      base = number_in base;
      tick = number_in tick;
      prices = number_in prices;
      gates = named_in gates_named Chain gates;
      policy = policy_in (tells_policy version) (drop 5 rows);
    }) grid e in
    let b = number-within 0 LARGEST_BASE base none.0 in
    let t = number-within 1 LARGEST_TICK tick none.1 in
    let n = number-within 1 MOST_PRICES prices none.2 in
    subst IsGrid none.3
    (record { base_limit = b.1; tick_some = t.0; tick_limit = t.1; prices_some = n.0; prices_limit = n.1 })
