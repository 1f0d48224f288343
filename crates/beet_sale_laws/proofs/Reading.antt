-- What the files of sales are read as: bids within their limits, and words with which their sale can be run.
use Rattle.std.proofs.Common.{◌≡◌, ◌+◌, ℕ, List, [], ◌∷◌, ◌++◌, length, nat_lt, drop, slice_get, Bool, true, false, true≢false}
use Rattle.std.proofs.Common.{Option, Some, None, Ok, Err, if◌then◌else◌, refl, sym, subst, arith, length-append}
use Rattle.std.specs.Prelude.{All, codes, option_and_then}
use Rattle.std.proofs.lemmas.Bool.{ltb-false}
use Rattle.std.proofs.lemmas.List.Elements.{All-append, All-cons, All-nil}
use Rattle.beet_field.specs.declared.trio.Trio.{Trio}
use Rattle.beet_store.specs.Files.{File}
use Rattle.beet_forms.specs.Faults.{Reading, at_row}
use Rattle.beet_forms.specs.Rows.{begins_with, rows_of}
use Rattle.beet_forms.specs.declared.faults.TheConstants.{BAD_HEADER, BAD_ROW}
use Rattle.beet_forms.specs.declared.row.Row.{Row}
use Rattle.beet_words.specs.Bundles.{AreWords, Words}
use Rattle.beet_gates.specs.declared.Gates.{Gates}
use Rattle.beet_gates.specs.declared.Gates.TheVariants.{Chain, Tree}
use Rattle.beet_book.specs.NamedRows.{named_rows}
use Rattle.beet_book.specs.ServerFiles.{servers_of}
use Rattle.beet_book.specs.declared.server_file.TheConstants.{SERVERS_LIMIT}
use Rattle.beet_book.specs.declared.sources.Servers.{Servers}
use Rattle.beet_sale_plan.specs.Outcome.{IsBid}
use Rattle.beet_sale_plan.specs.Sale.{IsSaleSize}
use Rattle.beet_sale_plan.specs.declared.TheConstants.{FEWEST_SALE_BIDDERS}
use Rattle.beet_sale_file.specs.SaleFiles.{bidders_in, enough_of, gates_in, sale_from, sale_of, sale_with}
use Rattle.beet_sale_file.specs.SaleRows.{row_in}
use Rattle.beet_sale_file.specs.Sales.{IsSaleRecord, SaleRecord}
use Rattle.beet_sale_file.specs.declared.rows.SaleBid.{SaleBid}
use Rattle.beet_sale_file.specs.declared.rows.SaleRow.{SaleRow}
use Rattle.beet_sale_file.specs.declared.sale_file.TheConstants.{ONE_SALE_BIDDER_TOO_MANY, SALE_LIMIT}
use Rattle.beet_sale_file.proofs.SaleBids.{bids-within}
use Rattle.beet_sale_map.specs.Bids.{AreSaleBids}
use Rattle.beet_highbid.specs.SalePairs.{CanSell}
use Rattle.beet_highbid.proofs.SaleRows.{are-sale-bids}
use Rattle.beet_errand.specs.Errands.{gives, reads}
use Rattle.beet_errand.specs.Overs.{ReadsTo}
use Rattle.beet_load.specs.declared.wanted.Wanted.{Wanted}
use Rattle.beet_load.specs.Farmers.{bidder_errand, list_at}
use Rattle.beet_load.specs.Servers.{ServerWords, all_words_errand}
use Rattle.beet_load.specs.Wholes.{all_words}
use Rattle.beet_sale_load.specs.SaleLoading.{CanStart, SaleRead, lists_errand, sale_errand, words_errand}
use Rattle.beet_sale_load.specs.SaleWants.{wanted_of}
use Rattle.beet_sale_load.proofs.Starting.{can-start}
use Rattle.beet_job_sale_pair.specs.Reading.{Both, both_errand, same_gates, second_errand, with_gates}
use Rattle.beet_job_sale_pair.specs.declared.reading.TheConstants.{OTHER_GATES}
use Rattle.beet_app_laws.proofs.Telling.{AreAlike, IsTold, part, told-each, told-gates, told-list, told-number, told-option}
use Rattle.beet_app_laws.proofs.Telling.{told-server, told-trio}
use Rattle.beet_program_laws.proofs.Compared.{alike-right}
use Rattle.beet_program_laws.proofs.Files.{named-rows-few}
use Rattle.beet_program_laws.proofs.Read.{AreLists, AreServed, CanServeAll, IsDealt, all-words-yield, bidder-yield, list-has, one-more}
use Rattle.beet_program_laws.proofs.Steps.{Yields, any-yield, gives-yield, reads-yield, then-both, then-yields, weaker-yield}
use Rattle.beet_sale_laws.specs.Commands.{bids_in, second_bids}

-- ---- a file

-- bidders that are read: as many as a sale may have, each with a bid within the limit
abbrev AreRows : List SaleRow → Type 0
AreRows rows = IsSaleSize (length rows) × All (λ (row : SaleRow). IsBid row.bid.bid) rows

counted-rows : (short : Bool) (bidders read : List SaleRow) (rows : List Row) →
    nat_lt (length bidders) FEWEST_SALE_BIDDERS ≡ short → named_rows row_in 3 ONE_SALE_BIDDER_TOO_MANY rows ≡ Ok bidders →
    (if short then Err (at_row (3 + length bidders) BAD_ROW) else Ok bidders) ≡ Ok read → AreRows read
counted-rows true bidders read rows some named e = absurd cc
counted-rows false bidders read rows some named e =
    let same : bidders ≡ read = cc e in
    let few = named-rows-few row_in 3 ONE_SALE_BIDDER_TOO_MANY rows bidders (omega arith) named in
    subst AreRows same (
      record { some = ltb-false (length bidders) FEWEST_SALE_BIDDERS some; few = omega (arith, few) },
      bids-within 3 ONE_SALE_BIDDER_TOO_MANY rows bidders named,
    )

rows-are : (rows : List Row) (reading : Reading (List SaleRow)) (read : List SaleRow) →
    named_rows row_in 3 ONE_SALE_BIDDER_TOO_MANY rows ≡ reading → enough_of reading ≡ Ok read → AreRows read
rows-are rows (Ok bidders) read named e =
    counted-rows (nat_lt (length bidders) FEWEST_SALE_BIDDERS) bidders read rows refl named e
rows-are rows (Err fault) read named e = absurd cc

with-are : (gates : Gates) (rows : List Row) (reading : Reading (List SaleRow)) (sale : SaleRecord) →
    bidders_in rows ≡ reading → sale_with gates reading ≡ Ok sale → IsSaleRecord sale
with-are gates rows (Ok bidders) sale is e =
    let are = rows-are rows (named_rows row_in 3 ONE_SALE_BIDDER_TOO_MANY rows) bidders refl is in
    let whole : IsSaleRecord (record { gates = gates; rows = bidders }) = record { size = are.0; bids = are.1 } in
    let same : record { gates = gates; rows = bidders } ≡ sale = cc e in
    subst IsSaleRecord same whole
with-are gates rows (Err fault) sale is e = absurd cc

from-are : (gates : Option Gates) (rows : List Row) (sale : SaleRecord) → sale_from gates rows ≡ Ok sale → IsSaleRecord sale
from-are None rows sale e = absurd cc
from-are (Some gates) rows sale e = with-are gates rows (bidders_in rows) sale refl e

headed-are : (headed : Bool) (rows : List Row) (sale : SaleRecord) →
    (if headed then sale_from (option_and_then gates_in (slice_get rows 1)) (drop 2 rows) else Err (at_row 1 BAD_HEADER)) ≡ Ok sale →
    IsSaleRecord sale
headed-are true rows sale e = from-are (option_and_then gates_in (slice_get rows 1)) (drop 2 rows) sale e
headed-are false rows sale e = absurd cc

sale-is : (bytes : List ℕ) (sale : SaleRecord) → sale_of bytes ≡ Ok sale → IsSaleRecord sale
sale-is bytes sale e =
    let rows = rows_of bytes in
    headed-are (begins_with rows (codes "beet-sale" ∷ codes "1" ∷ [])) rows sale e

-- the second sale has the gates of the first besides
same-are : (gates gates' : Gates) → same_gates gates gates' ≡ true → gates' ≡ gates
same-are Chain Chain e = refl
same-are Tree Tree e = refl
same-are Chain Tree e = absurd (true≢false (sym e))
same-are Tree Chain e = absurd (true≢false (sym e))

abbrev IsSecond : Gates → SaleRecord → Type 0
IsSecond gates sale = IsSaleRecord sale × (sale.gates ≡ gates)

chosen-is : (same : Bool) (gates : Gates) (sale read : SaleRecord) → same_gates gates sale.gates ≡ same → IsSaleRecord sale →
    (if same then Ok sale else Err (at_row 2 OTHER_GATES)) ≡ Ok read → IsSecond gates read
chosen-is true gates sale read same is e =
    let whole : sale ≡ read = cc e in subst (IsSecond gates) whole (is, same-are gates sale.gates same)
chosen-is false gates sale read same is e = absurd cc

second-is : (gates : Gates) (bytes : List ℕ) (reading : Reading SaleRecord) (read : SaleRecord) → sale_of bytes ≡ reading →
    with_gates gates reading ≡ Ok read → IsSecond gates read
second-is gates bytes (Ok sale) read is e =
    chosen-is (same_gates gates sale.gates) gates sale read refl (sale-is bytes sale is) e
second-is gates bytes (Err fault) read is e = absurd cc

-- ---- words

-- the lists of bidders that are read
abbrev AreDealt : Wanted → ℕ → List (List ℕ) → Type 0
AreDealt wanted count lists = All (IsDealt wanted.counts) lists × (length lists ≡ count)

-- the words of a sale: the servers can begin with them, and each is a word
record AreSaleWords (sale : SaleRecord) (words : Words) : Type 0 where
  starts : CanStart (record { sale = sale; words = words })
  are_words : AreWords words

served-words : (sale : SaleRecord) (servers : Trio ServerWords) (lists : List (List ℕ)) →
    CanServeAll (wanted_of sale.rows).counts servers → AreDealt (wanted_of sale.rows) (length sale.rows) lists →
    AreSaleWords sale (all_words servers lists)
served-words sale servers lists all dealt = record {
  starts = can-start sale servers lists (all_words servers lists) refl
      (record { one = all.one.enough; two = all.two.enough; three = all.three.enough })
      (record { one = all.one.kept.cut; two = all.two.kept.cut; three = all.three.kept.cut })
      dealt.1 (λ k d lt. (dealt.0 k d lt).1);
  are_words = record {
    masks = (all.one.kept.masks, all.two.kept.masks, all.three.kept.masks);
    coefficients = (all.one.kept.coefficients, all.two.kept.coefficients, all.three.kept.coefficients);
    bidders = λ k d lt. (dealt.0 k d lt).0;
  };
}

-- ---- what is right

-- bids within their limits, and words with which their sale can be run
pub record CanBeHeld (bids : List SaleBid) (words : Words) : Type 0 where
  pub are_bids : AreSaleBids bids
  pub can_sell : CanSell bids words

abbrev pub IsHeldSale : SaleRead → Type 0
IsHeldSale read = CanBeHeld (bids_in read) read.words

-- two sales that are read, with the words of the first
pub record AreHeldSales (first : List SaleBid) (words : Words) (gates : Gates) (second : List SaleBid)
    (gates' : Gates) : Type 0 where
  pub one : CanBeHeld first words
  pub other : AreSaleBids second
  pub same : gates' ≡ gates

abbrev pub IsBoth : Both → Type 0
IsBoth both =
    AreHeldSales (bids_in both.first) both.first.words both.first.sale.gates (second_bids both) both.second.gates

told-bid : IsTold SaleBid
told-bid a b h =
    let known = part (told-option told-server) (λ (x : SaleBid). x.known) a b h in
    let bid = part told-number (λ (x : SaleBid). x.bid) a b h in
    λ i. record { known = known i; bid = bid i }

told-words : IsTold Words
told-words a b h =
    let masks = part (told-trio told-list) (λ (x : Words). x.masks) a b h in
    let coefficients = part (told-trio told-list) (λ (x : Words). x.coefficients) a b h in
    let bidders = part (told-each told-list) (λ (x : Words). x.bidders) a b h in
    λ i. record { masks = masks i; coefficients = coefficients i; bidders = bidders i }

both-alike : (a b : Both) → AreAlike a b → IsBoth a → IsBoth b
both-alike a b h is =
    let first = part (told-each told-bid) (λ (x : Both). bids_in x.first) a b h in
    let words = part told-words (λ (x : Both). x.first.words) a b h in
    let gates = part told-gates (λ (x : Both). x.first.sale.gates) a b h in
    let second = part (told-each told-bid) second_bids a b h in
    let gates' = part told-gates (λ (x : Both). x.second.gates) a b h in
    subst (λ (g : Gates). AreHeldSales (bids_in b.first) b.first.words b.first.sale.gates (second_bids b) g) gates'
    (subst (λ (l : List SaleBid). AreHeldSales (bids_in b.first) b.first.words b.first.sale.gates l a.second.gates) second
    (subst (λ (g : Gates). AreHeldSales (bids_in b.first) b.first.words g (second_bids a) a.second.gates) gates
    (subst (λ (w : Words). AreHeldSales (bids_in b.first) w a.first.sale.gates (second_bids a) a.second.gates) words
    (subst (λ (l : List SaleBid). AreHeldSales l a.first.words a.first.sale.gates (second_bids a) a.second.gates) first is))))

-- ---- reading

module _ (files : List File) where
  lists-yield : (wanted : Wanted) (given : Option (List (List ℕ))) → AreLists given → (read : List (List ℕ)) →
      All (IsDealt wanted.counts) read → (rows : List SaleRow) →
      Yields files (lists_errand wanted given read rows) (AreDealt wanted (length read + length rows))
  lists-yield wanted given all read are [] =
      gives-yield files (AreDealt wanted (length read + 0)) read (are, omega arith)
  lists-yield wanted given all read are (row ∷ rows) =
      let P = IsDealt wanted.counts in
      then-yields files (bidder_errand wanted (list_at given (length read)) (length read + 1) row.source)
      (λ words. lists_errand wanted given (read ++ words ∷ []) rows) P (AreDealt wanted (length read + length (row ∷ rows)))
      (bidder-yield files wanted (list_at given (length read)) (list-has given (length read) all) (length read + 1) row.source)
      (λ words dealt.
      let long : length (read ++ words ∷ []) ≡ length read + 1 = length-append read (words ∷ []) in
      weaker-yield files (lists_errand wanted given (read ++ words ∷ []) rows)
      (AreDealt wanted (length (read ++ words ∷ []) + length rows)) (AreDealt wanted (length read + length (row ∷ rows)))
      (λ lists h. (h.0, one-more (length lists) (length (read ++ words ∷ [])) (length read) (length rows) h.1 long))
      (lists-yield wanted given all (read ++ words ∷ []) (All-append P read (words ∷ []) are (All-cons P words [] dealt (All-nil P)))
      rows))

  words-yield : (sale : SaleRecord) (sources : Servers) → Yields files (words_errand sale.rows sources) (AreSaleWords sale)
  unfolding words_errand
  words-yield sale sources =
      let wanted = wanted_of sale.rows in
      let count = length sale.rows in
      then-yields files (all_words_errand wanted (Some count) sources)
      (λ words next. lists_errand wanted words.bidders [] sale.rows (λ lists. next (all_words words.servers lists)))
      (AreServed wanted.counts) (AreSaleWords sale) (all-words-yield files wanted (Some count) sources) (λ words served.
      then-yields files (lists_errand wanted words.bidders [] sale.rows) (λ lists. gives (all_words words.servers lists))
      (AreDealt wanted (0 + count)) (AreSaleWords sale)
      (lists-yield wanted words.bidders served.1 [] (All-nil (IsDealt wanted.counts)) sale.rows) (λ lists dealt.
      gives-yield files (AreSaleWords sale) (all_words words.servers lists)
      (served-words sale words.servers lists served.0 (dealt.0, omega (arith, dealt.1)))))

  -- ---- a sale

  pub sale-yield : (sale servers : List ℕ) → Yields files (sale_errand sale servers) IsHeldSale
  unfolding sale_errand
  sale-yield name servers =
      then-yields files (reads name SALE_LIMIT sale_of) _ IsSaleRecord IsHeldSale
      (reads-yield files name SALE_LIMIT sale_of IsSaleRecord sale-is) (λ sale is.
      then-yields files (reads servers SERVERS_LIMIT servers_of) _ (λ sources. Unit {0}) IsHeldSale
      (any-yield files servers SERVERS_LIMIT servers_of) (λ sources any.
      then-yields files (words_errand sale.rows sources) (λ words. gives (record { sale = sale; words = words }))
      (AreSaleWords sale) IsHeldSale (words-yield sale sources) (λ words right.
      gives-yield files IsHeldSale (record { sale = sale; words = words }) (record {
        are_bids = are-sale-bids sale is;
        can_sell = record { are_words = right.are_words; enough = right.starts.enough };
      }))))

  -- ---- two sales

  pub both-yield : (sale1 sale2 servers : List ℕ) → Yields files (both_errand sale1 sale2 servers) IsBoth
  unfolding both_errand
  both-yield sale1 sale2 servers =
      then-both files (sale_errand sale1 servers) (λ first. second_errand sale2 first.sale.gates)
      (λ first second. record { first = first; second = second }) IsHeldSale (λ first. IsSecond first.sale.gates) IsBoth
      (sale-yield sale1 servers) (λ first.
      reads-yield files sale2 SALE_LIMIT (λ bytes. with_gates first.sale.gates (sale_of bytes)) (IsSecond first.sale.gates)
      (λ bytes second e. second-is first.sale.gates bytes (sale_of bytes) second refl e))
      (λ first second held is. record { one = held; other = are-sale-bids second is.0; same = is.1 })

  -- what is read of two sales is right
  pub is-both : (sale1 sale2 servers : List ℕ) (both : Both) → ReadsTo files (both_errand sale1 sale2 servers) both → IsBoth both
  is-both sale1 sale2 servers =
      alike-right (both_errand sale1 sale2 servers) files IsBoth (both-yield sale1 sale2 servers) both-alike
