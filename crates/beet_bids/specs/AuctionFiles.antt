-- The auction file: a header, and four rows of a key and a value; in version 2 a fifth one says what is opened.
use Rattle.std.specs.Prelude.{ℕ, Bool, true, false, ◌||◌, if◌then◌else◌, List, [], ◌∷◌, Option, None, Some, Result, Ok}
use Rattle.std.specs.Prelude.{Err, is_some, nat_le, drop, slice_get, option_and_then, unwrap_or, bytes_eq, codes}
use Rattle.beet_forms.specs.Faults.{Reading, first_fault, reading_of}
use Rattle.beet_forms.specs.Numbers.{number_of, decimal_value}
use Rattle.beet_forms.specs.Rows.{rows_of, two_of}
use Rattle.beet_forms.specs.declared.decimals.NumberFault.{NumberFault}
use Rattle.beet_forms.specs.declared.row.Row.{Row}
use Rattle.beet_gates.specs.declared.Gates.{Gates}
use Rattle.beet_gates.specs.declared.Gates.TheVariants.{Chain, Tree}
use Rattle.beet_bids.specs.declared.outcomes.Policy.{Policy}
use Rattle.beet_bids.specs.declared.outcomes.Policy.TheVariants.{Price, Volume, Full}
use Rattle.beet_forms.specs.declared.faults.TheConstants.{BAD_HEADER}
use Rattle.beet_bids.specs.declared.auction_file.TheConstants.{BAD_KEY, BAD_VALUE, WRONG_VERSION}
use Rattle.beet_bids.specs.declared.grid.TheConstants.{LARGEST_BASE, LARGEST_TICK, MOST_PRICES}
use Rattle.beet_bids.specs.Grids.{Grid}

-- the second of two fields, if the first is the key
abbrev pub value_in : List ℕ → Option (List ℕ × List ℕ) → Option (List ℕ)
value_in key None = None
value_in key (Some fields) = if bytes_eq fields.0 key then Some fields.1 else None

-- the value of a row that is there, has two fields and has the key
abbrev pub value_of : List ℕ → Option Row → Option (List ℕ)
value_of key row = value_in key (option_and_then two_of row)

-- row 1: no such row, or another version
abbrev pub version_reason : Option (List ℕ) → Option ℕ
version_reason None = Some BAD_HEADER
version_reason (Some version) =
    if bytes_eq version (codes "1") || bytes_eq version (codes "2") then None else Some WRONG_VERSION

-- whether it is version 2, whose last row says what is opened
abbrev pub tells_policy : Option (List ℕ) → Bool
tells_policy None = false
tells_policy (Some version) = bytes_eq version (codes "2")

-- whether there is a number that is not below this one
abbrev pub is_from : ℕ → Result ℕ NumberFault → Bool
is_from low (Ok n) = nat_le low n
is_from low (Err fault) = false

-- the row of a number: no such row, or no number within its limits
abbrev pub number_reason : ℕ → ℕ → Option (List ℕ) → Option ℕ
number_reason low high None = Some BAD_KEY
number_reason low high (Some digits) = if is_from low (number_of digits high) then None else Some BAD_VALUE

-- the kind of gates of this name
abbrev pub gates_named : List ℕ → Option Gates
gates_named name =
    if bytes_eq name (codes "chain") then Some Chain else if bytes_eq name (codes "tree") then Some Tree else None

-- what is opened by this name
abbrev pub policy_named : List ℕ → Option Policy
policy_named name =
    if bytes_eq name (codes "price") then Some Price
    else if bytes_eq name (codes "volume") then Some Volume
    else if bytes_eq name (codes "full") then Some Full
    else None

-- the row of a name: no such row, or nothing has this name
abbrev pub name_reason : {A : Type 0} → (List ℕ → Option A) → Option (List ℕ) → Option ℕ
name_reason named None = Some BAD_KEY
name_reason named (Some name) = if is_some (named name) then None else Some BAD_VALUE

-- a row after the last one
abbrev pub extra_reason : Option Row → Option ℕ
extra_reason None = None
extra_reason (Some row) = Some BAD_KEY

-- the number of a row's value
abbrev pub number_in : Option (List ℕ) → ℕ
number_in value = decimal_value (unwrap_or value [])

-- what a row's value names; if the file is refused, anything
abbrev pub named_in : {A : Type 0} → (List ℕ → Option A) → A → Option (List ℕ) → A
named_in named other value = unwrap_or (option_and_then named value) other

-- the rows behind the gates: in version 2 the row that says what is opened, and none after it
abbrev pub last_reasons : Bool → List Row → List (Option ℕ)
last_reasons false rows = extra_reason (slice_get rows 0) ∷ []
last_reasons true rows =
    name_reason policy_named (value_of (codes "opens") (slice_get rows 0)) ∷ extra_reason (slice_get rows 1) ∷ []

-- what is opened; in version 1 it is the volume
abbrev pub policy_in : Bool → List Row → Policy
policy_in false rows = Volume
policy_in true rows = named_in policy_named Volume (value_of (codes "opens") (slice_get rows 0))

-- the grid of the rows, or the first row that is refused
abbrev pub auction_in : List Row → Reading Grid
auction_in rows =
    let version = value_of (codes "beet-auction") (slice_get rows 0) in
    let base = value_of (codes "base") (slice_get rows 1) in
    let tick = value_of (codes "tick") (slice_get rows 2) in
    let prices = value_of (codes "prices") (slice_get rows 3) in
    let gates = value_of (codes "gates") (slice_get rows 4) in
    reading_of
    (first_fault 1
    (version_reason version
    ∷ number_reason 0 LARGEST_BASE base
    ∷ number_reason 1 LARGEST_TICK tick
    ∷ number_reason 1 MOST_PRICES prices
    ∷ name_reason gates_named gates
    ∷ last_reasons (tells_policy version) (drop 5 rows)))
    (record {
      base = number_in base;
      tick = number_in tick;
      prices = number_in prices;
      gates = named_in gates_named Chain gates;
      policy = policy_in (tells_policy version) (drop 5 rows);
    })

-- what an auction file reads as
abbrev pub auction_of : List ℕ → Reading Grid
auction_of bytes = auction_in (rows_of bytes)
