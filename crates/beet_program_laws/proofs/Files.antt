-- What a file reads as is within the limits of its kind.
use Rattle.std.proofs.Common.{◌≡◌, ◌≢◌, ◌<◌, ◌≤◌, ◌+◌, ◌-◌, ◌%◌, ◌^◌, ◌==◌, ℕ, Bool, true, false, List, [], ◌∷◌, length}
use Rattle.std.proofs.Common.{map, take, drop, get_or, nat_lt, Option, Some, None, Ok, Err, IfOk, option_map, unwrap_or}
use Rattle.std.proofs.Common.{refl, sym, ap, subst, ◌∙◌, arith, eq-eqb}
use Rattle.std.specs.Prelude.{All, if◌then◌else◌, codes, Result}
use Rattle.std.specs.List.{cons_option, filter_map, range_with_len}
use Rattle.std.specs.Option.{option_or}
use Rattle.std.specs.Result.{result_err, result_ok}
use Rattle.std.proofs.lemmas.Bool.{ltb-true}
use Rattle.std.proofs.lemmas.List.Elements.{All-cons, All-map, All-nil, All-take}
use Rattle.std.proofs.lemmas.Result.{IfOk-at_ok, IfOk-weaker}
use Rattle.beet_forms.specs.Faults.{Fault, Reading, at_row, first_fault, first_row_fault, reading_of}
use Rattle.beet_forms.specs.Rows.{begins_with, rows_of}
use Rattle.beet_forms.specs.declared.row.Row.{Row}
use Rattle.beet_words.specs.Bundles.{AreWords, Words, bundle_of, list_at, magic, server_at, up_to, word_at, words_at}
use Rattle.beet_words.specs.Fields.{◌>>=◌, Part, after_magic, counted_at, ended, number_at, times}
use Rattle.beet_words.specs.Seeds.{seed_word, seed_words}
use Rattle.beet_words.specs.TapeFiles.{lines_of, number_in, reason_against as line_reason_against, reason_of_number}
use Rattle.beet_words.specs.TapeFiles.{tape_of, word_in}
use Rattle.beet_words.specs.Words.{IsWord, ones}
use Rattle.beet_words.specs.declared.bundle.TheConstants.{BAD_MAGIC, MOST_BIDDERS, MOST_WORDS, TRAILING}
use Rattle.beet_words.specs.declared.fields.Allowed.{Allowed}
use Rattle.beet_words.specs.declared.tape_file.TheConstants.{WORD_TOO_LARGE}
use Rattle.beet_bids.specs.BidFiles.{bid_of, curve_in, header_reason, bid_line_of, line_reasons}
use Rattle.beet_bids.specs.Curves.{Curve, IsCurve, IsOfGrid}
use Rattle.beet_bids.specs.Grids.{Grid}
use Rattle.beet_bids.proofs.HeldFacts.{curve_in-is, curve_in-of_grid}
use Rattle.beet_bids.proofs.LineFacts.{rows_accepted}
use Rattle.beet_book.specs.BookFiles.{book_of}
use Rattle.beet_book.specs.Entries.{entry_in}
use Rattle.beet_book.specs.NamedRows.{first_field, has_name, named_file, named_in, named_rows, reason_against}
use Rattle.beet_book.specs.declared.entries.Entry.{Entry}
use Rattle.beet_book.specs.declared.named_file.TheConstants.{ONE_TOO_MANY, TOO_MANY}
use Rattle.beet_farmer.specs.Lists.{entry_in as list_entry_in, list_of}
use Rattle.beet_farmer.specs.declared.list_file.ListEntry.{ListEntry}
use Rattle.beet_view.proofs.ReadFacts.{counted_at-all, number_at-within, times-all}
use Rattle.beet_load.proofs.Cuts.{take-few}

-- a value that is read has no fault
read-is : {A : Type 0} (fault : Option Fault) (value read : A) → reading_of fault value ≡ Ok read →
    (fault ≡ None) × (value ≡ read)
read-is None value read e = (refl, cc)
read-is (Some fault) value read e = absurd cc

-- no row is refused where the first is not and no later one is
none-later : (number : ℕ) (reason : Option ℕ) (rest : Option Fault) →
    option_or (option_map (at_row number) reason) rest ≡ None → rest ≡ None
none-later number None rest e = e
none-later number (Some reason) rest e = absurd cc

none-here : (number : ℕ) (reason : Option ℕ) (rest : Option Fault) →
    option_or (option_map (at_row number) reason) rest ≡ None → reason ≡ None
none-here number None rest e = refl
none-here number (Some reason) rest e = absurd cc

-- a bid is a curve of its grid
pub bid-is : (grid : Grid) (bytes : List ℕ) (curve : Curve) → bid_of grid bytes ≡ Ok curve →
    IsCurve curve × IsOfGrid grid curve
bid-is grid bytes curve e =
    let rows = drop 1 (rows_of bytes) in
    let lines = filter_map bid_line_of rows in
    let reasons = line_reasons grid (map bid_line_of rows) in
    let read = read-is (first_fault 1 (header_reason (rows_of bytes) ∷ reasons)) (curve_in grid lines) curve e in
    let none = none-later 1 (header_reason (rows_of bytes)) (first_fault 2 reasons) read.0 in
    let is : IsCurve (curve_in grid lines) × IsOfGrid grid (curve_in grid lines) =
    (curve_in-is grid lines (rows_accepted grid rows none), curve_in-of_grid grid lines) in
    subst (λ (c : Curve). IsCurve c × IsOfGrid grid c) read.1 is

-- the row that is one too many is refused
too-many : {A : Type 0} (value_in : Row → Result A ℕ) (most : ℕ) (taken : Bool) (number : ℕ) (row : Row) → number ≡ most →
    result_err (named_in value_in most taken number row) ≢ None
too-many value_in most taken number row e none =
    let at : (number == most) ≡ true = eq-eqb number most e in
    let refused : result_err (named_in value_in most taken number row) ≡ Some TOO_MANY = rw at refl in
    cc

few-rows : (judge : ℕ → Row → Option ℕ) (most number : ℕ) (rows : List Row) → ((row : Row) → judge most row ≢ None) →
    number ≤ most → first_row_fault judge number rows ≡ None → number + length rows ≤ most
few-rows judge most number [] all low e = omega (arith, low)
few-rows judge most number (row ∷ rows) all low e =
    let here = none-here number (judge number row) (first_row_fault judge (number + 1) rows) e in
    let later = none-later number (judge number row) (first_row_fault judge (number + 1) rows) e in
    let apart : number ≢ most = λ same. all row (ap (λ n. judge n row) (sym same) ∙ here) in
    omega (arith, few-rows judge most (number + 1) rows all (omega (arith, low, apart)) later)

cons-few : {B : Type 0} (o : Option B) (ys : List B) (n : ℕ) → length ys ≤ n → length (cons_option o ys) ≤ n + 1
cons-few None ys n h = omega (arith, h)
cons-few (Some y) ys n h = omega (arith, h)

fewer : {A B : Type 0} (f : A → Option B) (xs : List A) → length (filter_map f xs) ≤ length xs
fewer f [] = omega arith
fewer f (x ∷ xs) = omega (arith, cons-few (f x) (filter_map f xs) (length xs) (fewer f xs))

-- named rows end before the one that is one too many
module _ {A : Type 0} (value_in : Row → Result A ℕ) where
  pub named-rows-few : (first most : ℕ) (rows : List Row) (values : List A) → first ≤ most →
      named_rows value_in first most rows ≡ Ok values → first + length values ≤ most
  named-rows-few first most rows values low e =
      let judge = reason_against value_in first most rows in
      let all = filter_map (λ row. result_ok (value_in row)) rows in
      let read = read-is (first_row_fault judge first rows) all values e in
      let few = few-rows judge most first rows (λ row none. too-many value_in most
      (has_name (first_field row) (take (most - first) rows)) most row refl none) low read.0 in
      omega (arith, few, fewer (λ (row : Row). result_ok (value_in row)) rows, ap (λ (l : List A). length l) read.1)

  chosen-few : (b : Bool) (rows : List Row) (values : List A) (fault : Fault) →
      (if b then named_rows value_in 2 ONE_TOO_MANY rows else Err fault) ≡ Ok values → length values ≤ MOST_BIDDERS
  chosen-few true rows values fault e = omega (arith, named-rows-few 2 ONE_TOO_MANY rows values (omega arith) e)
  chosen-few false rows values fault e = absurd cc

  named-few : (header : Row) (rows : List Row) (values : List A) → named_file value_in ONE_TOO_MANY header rows ≡ Ok values →
      length values ≤ MOST_BIDDERS
  named-few header rows values e = chosen-few (begins_with rows header) (drop 1 rows) values _ e

pub book-few : (bytes : List ℕ) (entries : List Entry) → book_of bytes ≡ Ok entries → length entries ≤ MOST_BIDDERS
book-few bytes entries e = named-few entry_in (codes "beet-book" ∷ codes "1" ∷ []) (rows_of bytes) entries e

pub list-few : (bytes : List ℕ) (entries : List ListEntry) → list_of bytes ≡ Ok entries → length entries ≤ MOST_BIDDERS
list-few bytes entries e = named-few list_entry_in (codes "beet-list" ∷ codes "1" ∷ []) (rows_of bytes) entries e

pub seed-are : (seed : List ℕ) (stream n : ℕ) → All IsWord (seed_words seed stream n)
seed-are seed stream n = All-map IsWord (seed_word seed stream) (range_with_len 0 n)
    (λ k d lt. below (get_or (range_with_len 0 n) k d)) where
      rest-below : (m : ℕ) → m % 2 ^ 61 < 2 ^ 61
      rest-below m = omega arith

      below : (k : ℕ) → IsWord (seed_word seed stream k)
      below k = rest-below _

-- the words of a tape
number-is : (n : Option ℕ) → reason_of_number n ≡ None → IsWord (unwrap_or n 0)
number-is None e = absurd cc
number-is (Some n) e = go (nat_lt n (2 ^ 61)) refl e where
  go : (b : Bool) → nat_lt n (2 ^ 61) ≡ b → (if b then None else Some WORD_TOO_LARGE) ≡ None → IsWord n
  go true is none = ltb-true n (2 ^ 61) is
  go false is none = absurd cc

line-is : (number : ℕ) (line : List ℕ) (lines : List (List ℕ)) (reason : Option ℕ) → line_reason_against line ≡ reason →
    first_fault number (reason ∷ map line_reason_against lines) ≡ None →
    (first_fault (number + 1) (map line_reason_against lines) ≡ None → All IsWord (map word_in lines)) →
    All IsWord (map word_in (line ∷ lines))
line-is number line lines None is e rest =
    All-cons IsWord (word_in line) (map word_in lines) (number-is (number_in line) is) (rest e)
line-is number line lines (Some reason) is e rest = absurd cc

lines-are : (number : ℕ) (lines : List (List ℕ)) → first_fault number (map line_reason_against lines) ≡ None →
    All IsWord (map word_in lines)
lines-are number [] e = All-nil IsWord
lines-are number (line ∷ lines) e =
    line-is number line lines (line_reason_against line) refl e (λ later. lines-are (number + 1) lines later)

-- words, of which there are at most so many
abbrev pub AreFew : ℕ → List ℕ → Type 0
AreFew most words = All IsWord words × (length words ≤ most)

pub tape-are : (bytes : List ℕ) (keep : ℕ) (words : List ℕ) → tape_of bytes keep ≡ Ok words → AreFew keep words
tape-are bytes keep words e =
    let lines = lines_of bytes in
    let read = read-is (first_fault 1 (map line_reason_against lines)) (take keep (map word_in lines)) words e in
    let are : All IsWord (take keep (map word_in lines)) × (length (take keep (map word_in lines)) ≤ keep) =
    (All-take IsWord keep (map word_in lines) (lines-are 1 lines read.0), take-few keep (map word_in lines)) in
    subst (λ (l : List ℕ). All IsWord l × (length l ≤ keep)) read.1 are

-- ---- binary files

-- a reading, and then the next, where the first gives P
pub then-reads : {A B : Type 0} (reading : Reading A) (next : A → Reading B) (P : A → Type 0) (Q : B → Type 0) →
    IfOk reading P →
    ((a : A) → P a → IfOk (next a) Q) → IfOk (reading >>= next) Q
then-reads (Ok a) next P Q h k = k a h
then-reads (Err fault) next P Q h k = tt

-- wherever the part begins, its value has this property
abbrev pub Reads : {A : Type 0} → Part A → (A → Type 0) → Type 0
Reads part P = (at : ℕ) → IfOk (part at) (λ read. P read.0)

-- each value that a reading has is one of which P holds
pub has-each : {A : Type 0} (P : A → Type 0) (reading : Reading A) → ((a : A) → reading ≡ Ok a → P a) → IfOk reading P
has-each P (Ok a) h = h a refl
has-each P (Err fault) h = tt

-- so many parts
pub times-are : {A : Type 0} (part : Part A) (P : A → Type 0) (n : ℕ) → Reads part P →
    Reads (times n part) (λ values. All P values × (length values ≡ n))
times-are part P n h at =
    has-each (λ read. All P read.0 × (length read.0 ≡ n)) (times n part at) (λ read e.
    let all = times-all part P n at read (λ offset one is. IfOk-at_ok (λ r. P r.0) is (h offset)) e in
    (all.each, all.many))

pub counted-are : {A : Type 0} (bytes : List ℕ) (allowed : Allowed) (part : Part A) (P : A → Type 0) → Reads part P →
    Reads (counted_at bytes allowed part) (λ values. All P values × (length values ≤ allowed.high))
counted-are bytes allowed part P h at =
    has-each (λ read. All P read.0 × (length read.0 ≤ allowed.high)) (counted_at bytes allowed part at) (λ read e.
    let all = counted_at-all bytes allowed part P at read (λ offset one is. IfOk-at_ok (λ r. P r.0) is (h offset)) e in
    (all.each, all.high))

word-is : (bytes : List ℕ) → Reads (word_at bytes) IsWord
word-is bytes at =
    has-each (λ read. IsWord read.0) (word_at bytes at)
    (λ read e. (let within = number_at-within bytes (up_to ones) at read e in omega (arith, within.1)))

pub words-are : (bytes : List ℕ) (most : ℕ) → Reads (words_at bytes most) (AreFew most)
words-are bytes most = counted-are bytes (up_to most) (word_at bytes) IsWord (word-is bytes)

list-is : (bytes : List ℕ) → Reads (list_at bytes) (λ words. All IsWord words)
list-is bytes at = IfOk-weaker (list_at bytes at) (λ read. AreFew MOST_WORDS read.0) (λ read. All IsWord read.0)
    (λ read few. few.0) (words-are bytes MOST_WORDS at)

server-is : (bytes : List ℕ) → Reads (server_at bytes) (λ server. All IsWord server.0 × All IsWord server.1)
unfolding server_at
server-is bytes at =
    then-reads (list_at bytes at)
    (λ masks. list_at bytes masks.1 >>= λ coefficients. Ok ((masks.0, coefficients.0), coefficients.1))
    (λ read. All IsWord read.0) (λ read. All IsWord read.0.0 × All IsWord read.0.1) (list-is bytes at) (λ masks h.
    then-reads (list_at bytes masks.1) (λ coefficients. Ok ((masks.0, coefficients.0), coefficients.1))
    (λ read. All IsWord read.0)
    (λ read. All IsWord read.0.0 × All IsWord read.0.1) (list-is bytes masks.1) (λ coefficients k. (h, k)))

-- a reading of which nothing is wanted
pub any-reads : {A : Type 0} (reading : Reading A) → IfOk reading (λ a. Unit {0})
any-reads (Ok a) = tt
any-reads (Err fault) = tt

bundle-reads : (bytes : List ℕ) → IfOk (bundle_of bytes) AreWords
unfolding bundle_of
bundle-reads bytes =
    then-reads (after_magic bytes magic BAD_MAGIC) _ (λ start. Unit {0}) AreWords
    (any-reads (after_magic bytes magic BAD_MAGIC)) (λ start done.
    then-reads (number_at bytes (up_to MOST_BIDDERS) start) _ (λ read. Unit {0}) AreWords
    (any-reads (number_at bytes (up_to MOST_BIDDERS) start)) (λ count done.
    then-reads (server_at bytes count.1) _ (λ read. All IsWord read.0.0 × All IsWord read.0.1) AreWords
    (server-is bytes count.1) (λ one h1.
    then-reads (server_at bytes one.1) _ (λ read. All IsWord read.0.0 × All IsWord read.0.1) AreWords
    (server-is bytes one.1) (λ two h2.
    then-reads (server_at bytes two.1) _ (λ read. All IsWord read.0.0 × All IsWord read.0.1) AreWords
    (server-is bytes two.1) (λ three h3.
    then-reads (times count.0 (list_at bytes) three.1) _
    (λ read. All (λ list. All IsWord list) read.0 × (length read.0 ≡ count.0)) AreWords
    (times-are (list_at bytes) (λ list. All IsWord list) count.0 (list-is bytes) three.1) (λ bidders h4.
    then-reads (ended bytes TRAILING bidders.1) _ (λ done. Unit {0}) AreWords
    (any-reads (ended bytes TRAILING bidders.1)) (λ done all.
    record { masks = (h1.0, h2.0, h3.0); coefficients = (h1.1, h2.1, h3.1); bidders = h4.0 })))))))

pub bundle-are : (bytes : List ℕ) (words : Words) → bundle_of bytes ≡ Ok words → AreWords words
bundle-are bytes words e = subst (λ (r : Reading Words). IfOk r AreWords) e (bundle-reads bytes)
