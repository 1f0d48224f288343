-- The row of a bidder in a book: NAME,KNOWN,BID,KIND,SOURCE.
use Rattle.std.specs.Prelude.{ℕ, if◌then◌else◌, List, Option, Some, None, option_map, Result, Err, bytes_eq, codes}
use Rattle.std.specs.Option.{ok_or}
use Rattle.beet_field.specs.declared.point.Point.{Point}
use Rattle.beet_field.specs.Point.{server_of}
use Rattle.beet_forms.specs.declared.row.Row.{Row}
use Rattle.beet_forms.specs.Names.{is_name_of}
use Rattle.beet_forms.specs.Rows.{five_of}
use Rattle.beet_words.specs.Seeds.{seed_of}
use Rattle.beet_forms.specs.declared.faults.TheConstants.{BAD_ROW}
use Rattle.beet_book.specs.declared.entries.TheConstants.{BAD_SOURCE}
use Rattle.beet_book.specs.declared.entries.Entry.{Entry}
use Rattle.beet_book.specs.declared.entries.BidderSource.{BidderSource}
use Rattle.beet_book.specs.declared.entries.BidderSource.TheVariants.{Seed, Tape}

-- the name of these bytes, or none if they are no name
abbrev pub name_of : List ℕ → Option (List ℕ)
name_of text = if is_name_of text then Some text else None

-- which server knows the bidder: none for 0, else that of the digit; and no answer if the text is neither
abbrev pub known_of : List ℕ → Option (Option Point)
known_of text = if bytes_eq text (codes "0") then Some None else option_map Some (server_of text)

-- where a bidder's words come from, by the kind and the text; or none if the kind is unknown or the text is not of
-- it
abbrev pub source_of : List ℕ → List ℕ → Option BidderSource
source_of kind text =
    if bytes_eq kind (codes "seed") then option_map Seed (seed_of text)
    else if bytes_eq kind (codes "tape") then option_map Tape (name_of text)
    else None

-- the entry of the parts of a row, or the reason against them
abbrev pub entry_of : Option (List ℕ) → Option (Option Point) → Option (List ℕ) → Option BidderSource → Result Entry ℕ
entry_of (Some name) (Some known) (Some bid) source =
    ok_or (option_map (λ source. record { name = name; known = known; bid = bid; source = source }) source) BAD_SOURCE
entry_of _ _ _ _ = Err BAD_ROW

-- the entry of a row's five fields, or the reason against them; a row of another width has none
abbrev pub entry_of_fields : Option (List ℕ × List ℕ × List ℕ × List ℕ × List ℕ) → Result Entry ℕ
entry_of_fields None = Err BAD_ROW
entry_of_fields (Some (name, known, bid, kind, source)) =
    entry_of (name_of name) (known_of known) (name_of bid) (source_of kind source)

-- the entry of a bidder's row, or the reason against the row
abbrev pub entry_in : Row → Result Entry ℕ
entry_in row = entry_of_fields (five_of row)
