-- Which lines are accepted, and what is known of them.
use Rattle.std.proofs.Common.{append_assoc, codes, ◌++◌, drop, ◌≡◌, ℕ, ◌+◌, ◌-◌, ◌<◌, ◌≤◌, ◌==◌, min, not, Bool, true}
use Rattle.std.proofs.Common.{false, nat_lt, nat_le, is_none, is_some, IsTrue, if◌then◌else◌, List, [], ◌∷◌, map, zip}
use Rattle.std.proofs.Common.{filter_map, length, All, AllPairs, Option, Some, None, Ok, Err, option_map, refl, ap, sym}
use Rattle.std.proofs.Common.{subst, ◌∙◌, arith, inl, inr}
use Rattle.std.specs.Option.{option_or}
use Rattle.std.specs.List.{cons_option}
use Rattle.std.proofs.lemmas.Bool.{cases_lt, ltb-false, leb-false, eqb-true, lt-ltb, or_parts, not-false, true≢false, or_right}
use Rattle.std.proofs.lemmas.Nat.{mul-le}
use Rattle.std.proofs.lemmas.List.Elements.{All-nil, All-cons, All-weaker}
use Rattle.std.proofs.lemmas.List.Kept.{AllPairs-cons}
use Rattle.beet_forms.specs.Faults.{Answers, Fault, Reading, at_row, first_fault, reading_of, row_reading}
use Rattle.beet_forms.specs.declared.faults.ReadFault.{ReadFault}
use Rattle.beet_forms.specs.declared.faults.ReadFault.TheVariants.{Bad, OutOfMemory}
use Rattle.beet_forms.specs.declared.row.Row.{Row}
use Rattle.beet_bids.specs.Grids.{Grid, price_of, place_of}
use Rattle.beet_forms.specs.Rows.{begins_with}
use Rattle.beet_bids.specs.declared.curve.TheConstants.{LARGEST_QUANTITY}
use Rattle.beet_bids.specs.Curves.{Curve}
use Rattle.beet_bids.specs.declared.lines.TheConstants.{OFF_GRID, NOT_ASCENDING, BUY_RISES, SELL_FALLS, QUANTITY_TOO_LARGE, NO_BASE}
use Rattle.beet_bids.specs.Lines.{cut_line, Precedes, AreLines}
use Rattle.beet_bids.specs.BidFiles.{bid_in, curve_in, first_reason, next_reason, line_reason, line_reasons, bid_line_of, is_large}
use Rattle.beet_bids.specs.declared.lines.Line.{Line}
use Rattle.beet_bids.proofs.GridFacts.{place_of-none}

-- ---- cut lines

-- a price above the last one is no price of the grid
off_above : (grid : Grid) (price : ℕ) → price_of grid (grid.prices - 1) < price → place_of grid price ≡ None
off_above grid price high =
    place_of-none grid price (λ k h e. absurd (omega (arith, mul-le k grid.tick (grid.prices - 1) grid.tick (omega arith) (omega arith))))

reason_off : (grid : Grid) (before : Option Line) (line : Line) → place_of grid line.price ≡ None →
    line_reason grid before (Some line) ≡ Some OFF_GRID
reason_off grid None line off = rw off refl
reason_off grid (Some before) line off = rw off refl

reason_large : (grid : Grid) (before : Option Line) (price a b c d : ℕ) →
    is_large (record { price = price; buy = a; sell = b }) ≡ true → is_large (record { price = price; buy = c; sell = d }) ≡ true →
    line_reason grid before (Some (record { price = price; buy = a; sell = b }))
    ≡ line_reason grid before (Some (record { price = price; buy = c; sell = d }))
reason_large grid None price a b c d one other = rw (one, other) refl
reason_large grid (Some before) price a b c d one other = rw (one, other) refl

large_buy : (price a b : ℕ) → LARGEST_QUANTITY < a → is_large (record { price = price; buy = a; sell = b }) ≡ true
large_buy price a b h = rw (lt-ltb LARGEST_QUANTITY a h) refl

large_sell : (price a b : ℕ) → LARGEST_QUANTITY < b → is_large (record { price = price; buy = a; sell = b }) ≡ true
large_sell price a b h = or_right (nat_lt LARGEST_QUANTITY a) _ (lt-ltb LARGEST_QUANTITY b h)

-- a line of these numbers
abbrev line_with : ℕ → ℕ → ℕ → Line
line_with price buy sell = record { price = price; buy = buy; sell = sell }

line_is : (p q : Line) → p.price ≡ q.price → p.buy ≡ q.buy → p.sell ≡ q.sell → p ≡ q
line_is p q e f g =
    ap (λ (n : ℕ). line_with n p.buy p.sell) e
    ∙ (ap (λ (n : ℕ). line_with q.price n p.sell) f ∙ ap (λ (n : ℕ). line_with q.price q.buy n) g)

-- where the price is not cut, a quantity that is cut is too large either way
cut_quantities : (grid : Grid) (before : Option Line) (line : Line) → (cut_line grid line).price ≡ line.price →
    line_reason grid before (Some (cut_line grid line)) ≡ line_reason grid before (Some line)
cut_quantities grid before line same =
    let price : cut_line grid line ≡ line_with line.price (cut_line grid line).buy (cut_line grid line).sell = line_is _ _ same refl refl in
    elim (cases_lt LARGEST_QUANTITY line.buy) [
      | inl large ↦ ap (λ (l : Line). line_reason grid before (Some l)) price
          ∙ reason_large grid before line.price _ _ line.buy line.sell (large_buy line.price
          (min line.buy (LARGEST_QUANTITY + 1)) (min line.sell (LARGEST_QUANTITY + 1)) (omega arith))
          (large_buy line.price line.buy line.sell large)
      | inr some ↦ elim (cases_lt LARGEST_QUANTITY line.sell) [
        | inl large ↦ ap (λ (l : Line). line_reason grid before (Some l)) price
            ∙ reason_large grid before line.price _ _ line.buy line.sell (large_sell line.price
            (min line.buy (LARGEST_QUANTITY + 1)) (min line.sell (LARGEST_QUANTITY + 1)) (omega arith))
            (large_sell line.price line.buy line.sell large)
        | inr few ↦ ap (λ (l : Line). line_reason grid before (Some l)) (line_is (cut_line grid line) line same (omega arith) (omega arith))
      ]
    ]

-- a cut line is refused as the whole line is
pub line_reason-cut : (grid : Grid) (before : Option Line) (line : Line) →
    line_reason grid before (Some (cut_line grid line)) ≡ line_reason grid before (Some line)
line_reason-cut grid before line =
    elim (cases_lt (price_of grid (grid.prices - 1)) line.price) [
      | inl high ↦ reason_off grid before (cut_line grid line) (off_above grid (cut_line grid line).price (omega arith))
          ∙ sym (reason_off grid before line (off_above grid line.price high))
      | inr low ↦ cut_quantities grid before line (omega arith)
    ]

-- ---- accepted lines

not_refused : (b : Bool) (reason : ℕ) (more : Option ℕ) → (if b then Some reason else more) ≡ None → (b ≡ false) × (more ≡ None)
not_refused true reason more e = absurd (cc)
not_refused false reason more e = (refl, e)

record IsAccepted (grid : Grid) (line : Line) : Type 0 where
  on_grid : is_none (place_of grid line.price) ≡ false
  buy : line.buy ≤ LARGEST_QUANTITY
  sell : line.sell ≤ LARGEST_QUANTITY

-- a line on the grid that is not large
accepted_from : (grid : Grid) (line : Line) → is_none (place_of grid line.price) ≡ false → is_large line ≡ false → IsAccepted grid line
accepted_from grid line on small =
    let parts = or_parts (nat_lt LARGEST_QUANTITY line.buy) (nat_lt LARGEST_QUANTITY line.sell) small in
    record { on_grid = on; buy = ltb-false _ _ parts.0; sell = ltb-false _ _ parts.1 }

-- the first line, where it is accepted
first_accepted : (grid : Grid) (line : Line) → line_reason grid None (Some line) ≡ None → IsAccepted grid line × (line.price ≡ grid.base)
first_accepted grid line none =
    let on = not_refused (is_none (place_of grid line.price)) OFF_GRID (first_reason grid line) none in
    let base = not_refused (not (line.price == grid.base)) NO_BASE (if is_large line then Some QUANTITY_TOO_LARGE else None) on.1 in
    let small = not_refused (is_large line) QUANTITY_TOO_LARGE None base.1 in
    (accepted_from grid line on.0 small.0, eqb-true _ _ (not-false _ base.0))

-- a further line, where it is accepted
next_accepted : (grid : Grid) (before line : Line) → line_reason grid (Some before) (Some line) ≡ None →
    IsAccepted grid line × Precedes before line
next_accepted grid before line none =
    let sells : Option ℕ = if nat_lt line.sell before.sell then Some SELL_FALLS else None in
    let buys : Option ℕ = if nat_lt before.buy line.buy then Some BUY_RISES else sells in
    let on = not_refused (is_none (place_of grid line.price)) OFF_GRID (next_reason before line) none in
    let above = not_refused (nat_le line.price before.price) NOT_ASCENDING (if is_large line then Some QUANTITY_TOO_LARGE else buys) on.1 in
    let small = not_refused (is_large line) QUANTITY_TOO_LARGE buys above.1 in
    let buy = not_refused (nat_lt before.buy line.buy) BUY_RISES sells small.1 in
    let sell = not_refused (nat_lt line.sell before.sell) SELL_FALLS None buy.1 in
    (accepted_from grid line on.0 small.0, record { price = leb-false _ _ above.0; buy = ltb-false _ _ buy.0; sell = ltb-false _ _ sell.0 })

line_accepted : (grid : Grid) (before : Option Line) (line : Line) → line_reason grid before (Some line) ≡ None → IsAccepted grid line
line_accepted grid None line none = (first_accepted grid line none).0
line_accepted grid (Some before) line none = (next_accepted grid before line none).0

-- an accepted line is not cut
pub cut_line-accepted : (grid : Grid) (before : Option Line) (line : Line) →
    line_reason grid before (Some line) ≡ None → cut_line grid line ≡ line
cut_line-accepted grid before line none =
    let facts = line_accepted grid before line none in
    elim (cases_lt (price_of grid (grid.prices - 1)) line.price) [
      | inl high ↦ absurd (true≢false (sym (ap is_none (off_above grid line.price high)) ∙ facts.on_grid))
      | inr low ↦ line_is (cut_line grid line) line (omega arith) (omega arith) (omega arith)
    ]

-- the line of a row that is accepted
pub row_accepted : (grid : Grid) (before : Option Line) (number : ℕ) (row : Option Line) (line : Line) →
    option_map (cut_line grid) row ≡ Some line → line_reason grid before (Some line) ≡ None →
    row_reading number (line_reason grid before row) row ≡ Ok (Some line)
row_accepted grid before number None line e accepted = absurd (cc)
row_accepted grid before number (Some whole) line e accepted =
    let cut : cut_line grid whole ≡ line = cc in
    let reason : line_reason grid before (Some whole) ≡ None =
    sym (line_reason-cut grid before whole) ∙ (ap (λ (l : Line). line_reason grid before (Some l)) cut ∙ accepted) in
    rw reason (ap (λ (l : Line). Ok (Some l)) (sym (cut_line-accepted grid before whole reason) ∙ cut))

pub row_refused : (grid : Grid) (before : Option Line) (number : ℕ) (row : Option Line) (line : Line) (reason : ℕ) →
    option_map (cut_line grid) row ≡ Some line → line_reason grid before (Some line) ≡ Some reason →
    row_reading number (line_reason grid before row) row ≡ Err (at_row number reason)
row_refused grid before number None line reason e refused = absurd (cc)
row_refused grid before number (Some whole) line reason e refused =
    let cut : cut_line grid whole ≡ line = cc in
    let same : line_reason grid before (Some whole) ≡ Some reason =
    sym (line_reason-cut grid before whole) ∙ (ap (λ (l : Line). line_reason grid before (Some l)) cut ∙ refused) in
    rw same refl

-- ---- all lines

-- the reasons of rows after this line
abbrev pub reasons_after : Grid → Option Line → List (Option Line) → List (Option ℕ)
reasons_after grid before rows = map (λ pair. line_reason grid pair.0 pair.1) (zip (before ∷ rows) rows)

-- the lines of rows
abbrev pub lines_in : List (Option Line) → List Line
lines_in rows = filter_map (λ row. row) rows

-- a row has no fault, and no further row has one
no_fault : (number : ℕ) (reason : Option ℕ) (rest : Option Fault) → option_or (option_map (at_row number) reason) rest ≡ None →
    (reason ≡ None) × (rest ≡ None)
no_fault number None rest e = (refl, e)
no_fault number (Some reason) rest e = absurd (cc)

is_some-not_none : (o : Option ℕ) → is_none o ≡ false → IsTrue (is_some o)
is_some-not_none None e = absurd (true≢false e)
is_some-not_none (Some k) e = refl

-- what is known of the lines after this one
record AreLinesAfter (grid : Grid) (before : Line) (lines : List Line) : Type 0 where
  after : All (Precedes before) lines
  on_grid : All (λ line. IsTrue (is_some (place_of grid line.price))) lines
  buy_limit : All (λ line. line.buy ≤ LARGEST_QUANTITY) lines
  sell_limit : All (λ line. line.sell ≤ LARGEST_QUANTITY) lines
  in_order : AllPairs Precedes lines

precedes-trans : (a b c : Line) → Precedes a b → Precedes b c → Precedes a c
precedes-trans a b c one two = record { price = omega arith; buy = omega arith; sell = omega arith }

lines_after : (grid : Grid) (number : ℕ) (before : Line) (rows : List (Option Line)) →
    first_fault number (reasons_after grid (Some before) rows) ≡ None → AreLinesAfter grid before (lines_in rows)
lines_after grid number before [] none =
    record {
      after = All-nil _;
      on_grid = All-nil _;
      buy_limit = All-nil _;
      sell_limit = All-nil _;
      in_order = λ i j d h k. absurd (omega arith);
    }
lines_after grid number before (None ∷ rows) none = absurd (cc)
lines_after grid number before (Some line ∷ rows) none =
    let parts = no_fault number (line_reason grid (Some before) (Some line))
    (first_fault (number + 1) (reasons_after grid (Some line) rows)) none in
    let here = next_accepted grid before line parts.0 in
    let rest = lines_after grid (number + 1) line rows parts.1 in
    record {
      after = All-cons (Precedes before) line (lines_in rows) here.1
          (All-weaker (Precedes line) (Precedes before) (λ later after. precedes-trans before line later here.1 after)
          (lines_in rows) rest.after);
      on_grid = All-cons (λ l. IsTrue (is_some (place_of grid l.price))) line (lines_in rows)
          (is_some-not_none _ here.0.on_grid) rest.on_grid;
      buy_limit = All-cons (λ l. l.buy ≤ LARGEST_QUANTITY) line (lines_in rows) here.0.buy rest.buy_limit;
      sell_limit = All-cons (λ l. l.sell ≤ LARGEST_QUANTITY) line (lines_in rows) here.0.sell rest.sell_limit;
      in_order = AllPairs-cons Precedes line (lines_in rows) rest.after rest.in_order;
    }

lines_accepted : (grid : Grid) (rows : List (Option Line)) → first_fault 2 (line_reasons grid rows) ≡ None → AreLines grid (lines_in rows)
lines_accepted grid [] none = absurd (cc)
lines_accepted grid (None ∷ rows) none = absurd (cc)
lines_accepted grid (Some line ∷ rows) none =
    let parts = no_fault 2 (line_reason grid None (Some line)) (first_fault 3 (reasons_after grid (Some line) rows)) none in
    let here = first_accepted grid line parts.0 in
    let rest = lines_after grid 3 line rows parts.1 in
    record {
      some = omega arith;
      base = λ d. here.1;
      on_grid = All-cons (λ l. IsTrue (is_some (place_of grid l.price))) line (lines_in rows)
          (is_some-not_none _ here.0.on_grid) rest.on_grid;
      buy_limit = All-cons (λ l. l.buy ≤ LARGEST_QUANTITY) line (lines_in rows) here.0.buy rest.buy_limit;
      sell_limit = All-cons (λ l. l.sell ≤ LARGEST_QUANTITY) line (lines_in rows) here.0.sell rest.sell_limit;
      in_order = AllPairs-cons Precedes line (lines_in rows) rest.after rest.in_order;
    }

lines_in-map : (rows : List Row) → lines_in (map bid_line_of rows) ≡ filter_map bid_line_of rows
lines_in-map [] = refl
lines_in-map (row ∷ rows) = ap (cons_option (bid_line_of row)) (lines_in-map rows)

-- rows without a fault are the lines of a bid
pub rows_accepted : (grid : Grid) (rows : List Row) → first_fault 2 (line_reasons grid (map bid_line_of rows)) ≡ None →
    AreLines grid (filter_map bid_line_of rows)
rows_accepted grid rows none = subst (AreLines grid) (lines_in-map rows) (lines_accepted grid (map bid_line_of rows) none)

-- ---- a turn of the reader

-- the first of the rows that are left is refused, or the rows after it are
pub turn_reasons : (grid : Grid) (number : ℕ) (before : Option Line) (row : Row) (rows more : List Row) → rows ≡ row ∷ more →
    first_fault number (reasons_after grid before (map bid_line_of rows))
    ≡ option_or (option_map (at_row number) (line_reason grid before (bid_line_of row)))
    (first_fault (number + 1) (reasons_after grid (bid_line_of row) (map bid_line_of more)))
turn_reasons grid number before row rows more is = rw is refl

-- an accepted row leaves what the rows are refused for to the rows after it
pub turn_goes_on : (grid : Grid) (number : ℕ) (before : Option Line) (row : Row) (rows more : List Row) (line : Line) → rows ≡ row ∷ more →
    line_reason grid before (bid_line_of row) ≡ None → bid_line_of row ≡ Some line →
    first_fault (number + 1) (reasons_after grid (Some line) (map bid_line_of more))
    ≡ first_fault number (reasons_after grid before (map bid_line_of rows))
turn_goes_on grid number before row rows more line is none read =
    let last : first_fault (number + 1) (reasons_after grid (bid_line_of row) (map bid_line_of more))
    ≡ first_fault (number + 1) (reasons_after grid (Some line) (map bid_line_of more)) =
    ap (λ (o : Option Line). first_fault (number + 1) (reasons_after grid o (map bid_line_of more))) read in
    sym (turn_reasons grid number before row rows more is ∙ rw none last)

-- the line of the row is one more line
pub lines_more : (lines : List Line) (row : Row) (rows more all : List Row) (line : Line) → rows ≡ row ∷ more →
    bid_line_of row ≡ Some line →
    lines ++ filter_map bid_line_of rows ≡ filter_map bid_line_of all →
    (lines ++ line ∷ []) ++ filter_map bid_line_of more ≡ filter_map bid_line_of all
lines_more lines row rows more all line is read so_far =
    append_assoc lines (line ∷ []) (filter_map bid_line_of more)
    ∙ (ap (λ (o : Option Line). lines ++ cons_option o (filter_map bid_line_of more)) (sym read)
    ∙ (ap (λ (rs : List Row). lines ++ filter_map bid_line_of rs) (sym is) ∙ so_far))

-- rows that are some are refused for what stands against them after no line
pub some_rows : (grid : Grid) (rows : List Row) → 0 < length rows →
    reasons_after grid None (map bid_line_of rows) ≡ line_reasons grid (map bid_line_of rows)
some_rows grid [] some = absurd (omega arith)
some_rows grid (row ∷ rows) some = refl

-- a row that was read is not refused
pub row_read : {A : Type 0} (number : ℕ) (reason : Option ℕ) (value read : A) →
    row_reading number reason value ≡ Ok read → (reason ≡ None) × (value ≡ read)
row_read number None value read e = (refl, cc)
row_read number (Some reason) value read e = absurd (cc)

-- a row that is refused refuses the file
pub row_refuses : {A B S T : Type 0} (number : ℕ) (reason : Option ℕ) (row : A) (rest : Option Fault) (whole : B)
    (seen : S → A) (view : T → B) (fault : ReadFault) →
    Answers seen (row_reading number reason row) (Err fault) →
    Answers view (reading_of (option_or (option_map (at_row number) reason) rest) whole) (Err fault)
row_refuses number None row rest whole seen view (Bad place reason) e = absurd (cc)
row_refuses number (Some refused) row rest whole seen view (Bad place reason) e =
    let same : at_row number refused ≡ record { place = place; reason = reason } = cc in
    ap Err same
row_refuses number reason row rest whole seen view OutOfMemory e = tt

-- a row that was read leaves it to the rows after it what the file is refused for
pub row_passes : {A B : Type 0} (number : ℕ) (reason : Option ℕ) (value read : A) (rest : Option Fault) (whole : B) (fault : ReadFault) →
    row_reading number reason value ≡ Ok read →
    Answers (λ (x : B). x) (reading_of rest whole) (Err fault) →
    Answers (λ (x : B). x) (reading_of (option_or (option_map (at_row number) reason) rest) whole) (Err fault)
row_passes number None value read rest whole fault e refused = refused
row_passes number (Some reason) value read rest whole fault e refused = absurd (cc)

-- ---- the file

-- a header leaves what the file reads as to its lines
pub header_passes : (grid : Grid) (rows rest : List Row) → begins_with rows (codes "beet-bid" ∷ codes "1" ∷ []) ≡ true →
    rest ≡ drop 1 rows →
    bid_in grid rows ≡ reading_of (first_fault 2 (line_reasons grid (map bid_line_of rest))) (curve_in grid (filter_map bid_line_of rest))
header_passes grid rows rest begins is = rw (is, begins) refl

-- a part that is refused refuses the file, whatever the file would read as
pub part_refused : {A B T : Type 0} (fault : Option Fault) (part : A) (whole : B) (view : T → A) (refused : ReadFault) →
    Answers view (reading_of fault part) (Err refused) → Answers (λ (x : B). x) (reading_of fault whole) (Err refused)
part_refused None part whole view (Bad place reason) e = absurd (cc)
part_refused (Some fault) part whole view (Bad place reason) e =
    let same : fault ≡ record { place = place; reason = reason } = cc in
    ap Err same
part_refused fault part whole view OutOfMemory e = tt

-- and a part that is read has no fault
pub part_read : {A B : Type 0} (fault : Option Fault) (part read : A) (whole : A → B) →
    reading_of fault part ≡ Ok read → reading_of fault (whole part) ≡ Ok (whole read)
part_read None part read whole e = let same : part ≡ read = cc in ap (λ x. Ok (whole x)) same
part_read (Some fault) part read whole e = absurd (cc)

pub file_refused : {T : Type 0} (grid : Grid) (rows rest : List Row) (lines : List Line) (view : T → List Line) (refused : ReadFault) →
    begins_with rows (codes "beet-bid" ∷ codes "1" ∷ []) ≡ true → rest ≡ drop 1 rows →
    Answers view (reading_of (first_fault 2 (line_reasons grid (map bid_line_of rest))) lines) (Err refused) →
    Answers (λ (c : Curve). c) (bid_in grid rows) (Err refused)
file_refused grid rows rest lines view refused begins is reads =
    subst (λ (r : Reading Curve). Answers (λ (c : Curve). c) r (Err refused)) (sym (header_passes grid rows rest begins is))
    (part_refused (first_fault 2 (line_reasons grid (map bid_line_of rest))) lines
    (curve_in grid (filter_map bid_line_of rest)) view refused reads)
