-- The bids of a sale file are within their limit.
use Rattle.std.proofs.Common.{◌≡◌, ℕ, List, [], ◌∷◌}
use Rattle.std.proofs.Common.{All, Option, Some, None, Result, Ok, Err, refl, ap, subst}
use Rattle.std.specs.List.{cons_option, filter_map}
use Rattle.std.specs.Result.{result_ok}
use Rattle.std.proofs.lemmas.List.Elements.{All-nil, All-cons}
use Rattle.beet_field.specs.declared.point.Point.{Point}
use Rattle.beet_forms.specs.declared.decimals.NumberFault.{NumberFault}
use Rattle.beet_forms.specs.declared.row.Row.{Row}
use Rattle.beet_forms.specs.Faults.{Fault, reading_of}
use Rattle.beet_forms.specs.Numbers.{number_of}
use Rattle.beet_forms.specs.Rows.{five_of}
use Rattle.beet_forms.proofs.RoundTrip.{number-within}
use Rattle.beet_book.specs.declared.entries.BidderSource.{BidderSource}
use Rattle.beet_book.specs.Entries.{known_of, name_of, source_of}
use Rattle.beet_book.specs.NamedRows.{named_rows}
use Rattle.beet_sale_plan.specs.Outcome.{IsBid}
use Rattle.beet_sale_plan.specs.declared.TheConstants.{LARGEST_BID}
use Rattle.beet_sale_file.specs.declared.rows.SaleRow.{SaleRow}
use Rattle.beet_sale_file.specs.SaleRows.{bid_in, row_in, row_of, row_of_fields}

-- the bid of a bidder is the one among its parts
bid-there : (name : Option (List ℕ)) (known : Option (Option Point)) (bid : Option ℕ) (source : Option BidderSource)
    (row : SaleRow) → row_of name known bid source ≡ Ok row → bid ≡ Some row.bid.bid
bid-there None known bid source row e = cc e
bid-there (Some name) None bid source row e = cc e
bid-there (Some name) (Some known) None source row e = cc e
bid-there (Some name) (Some known) (Some bid) None row e = cc e
bid-there (Some name) (Some known) (Some bid) (Some source) row e =
    let same : record { name = name; bid = record { known = known; bid = bid }; source = source } ≡ row = cc e in
    ap (λ (r : SaleRow). Some r.bid.bid) same

bid-read : (text : List ℕ) (r : Result ℕ NumberFault) (bid : ℕ) → number_of text LARGEST_BID ≡ r → result_ok r ≡ Some bid → IsBid bid
bid-read text (Ok n) bid is e =
    let same : n ≡ bid = cc e in subst IsBid same (number-within text LARGEST_BID n is)
bid-read text (Err fault) bid is e = cc e

fields-within : (fields : Option (List ℕ × List ℕ × List ℕ × List ℕ × List ℕ)) (row : SaleRow) →
    row_of_fields fields ≡ Ok row → IsBid row.bid.bid
fields-within None row e = cc e
fields-within (Some (name, known, bid, kind, source)) row e =
    bid-read bid (number_of bid LARGEST_BID) row.bid.bid refl
    (bid-there (name_of name) (known_of known) (bid_in bid) (source_of kind source) row e)

-- with a value that is read, or without one
one-more : (r : Result SaleRow ℕ) (rows : List SaleRow) → ((row : SaleRow) → r ≡ Ok row → IsBid row.bid.bid) →
    All (λ (row : SaleRow). IsBid row.bid.bid) rows → All (λ (row : SaleRow). IsBid row.bid.bid) (cons_option (result_ok r) rows)
one-more (Ok row) rows one all = All-cons (λ (row : SaleRow). IsBid row.bid.bid) row rows (one row refl) all
one-more (Err reason) rows one all = all

all-within : (rows : List Row) →
    All (λ (row : SaleRow). IsBid row.bid.bid) (filter_map (λ row. result_ok (row_in row)) rows)
all-within [] = All-nil _
all-within (row ∷ rows) =
    one-more (row_in row) (filter_map (λ row. result_ok (row_in row)) rows) (fields-within (five_of row)) (all-within rows)

read-is : (fault : Option Fault) (values read : List SaleRow) → reading_of fault values ≡ Ok read → values ≡ read
read-is None values read e = cc e
read-is (Some fault) values read e = cc e

-- the bidders that are read bid within the limit
pub bids-within : (first one_too_many : ℕ) (rows : List Row) (bidders : List SaleRow) →
    named_rows row_in first one_too_many rows ≡ Ok bidders → All (λ (bidder : SaleRow). IsBid bidder.bid.bid) bidders
bids-within first one_too_many rows bidders e =
    subst (All (λ (bidder : SaleRow). IsBid bidder.bid.bid)) (read-is _ _ bidders e) (all-within rows)
