-- Which line holds at a place.
use Rattle.std.proofs.Common.{◌≡◌, ℕ, zero, suc, ◌+◌, ◌-◌, ◌<◌, ◌≤◌, Bool, true, false, nat_eq, nat_le, IsTrue, is_some}
use Rattle.std.proofs.Common.{cond, List, [], ◌∷◌, ◌++◌, map, reverse, replicate, find, take, length, get_or, slice_get}
use Rattle.std.proofs.Common.{All, AllPairs, Option, Some, None, unwrap_or, refl, ap, sym, subst, ◌∙◌, arith, inl, inr}
use Rattle.std.proofs.Common.{append-nil, append_assoc}
use Rattle.std.specs.Option.{option_or}
use Rattle.std.specs.List.{range_with_len}
use Rattle.std.proofs.lemmas.Bool.{cases_lt, cases_eq, true≢false, le-leb, lt-leb, eqb-true, leb-true}
use Rattle.std.proofs.lemmas.Nat.{mul-le}
use Rattle.std.proofs.lemmas.Grind.{reverse_onto}
use Rattle.std.proofs.lemmas.Option.{slice_get-get_or, slice_get_past}
use Rattle.std.proofs.lemmas.List.{take_all, replicate_more}
use Rattle.std.proofs.lemmas.List.Folds.{find-append}
use Rattle.std.proofs.lemmas.List.FromFn.{get_or-map-range_with_len, length-map-range_with_len, map-range_with_len_more}
use Rattle.std.proofs.lemmas.List.Elements.{All-head, All-tail, All-map}
use Rattle.beet_bids.specs.Grids.{Grid, price_of, place_of, places_of}
use Rattle.beet_bids.specs.declared.curve.TheConstants.{LARGEST_QUANTITY}
use Rattle.beet_bids.specs.Curves.{IsCurve, IsOfGrid}
use Rattle.beet_bids.specs.Lines.{Precedes, AreLines, begin_at, begin_of}
use Rattle.beet_bids.specs.BidFiles.{line_at, held_line, curve_in}
use Rattle.beet_bids.specs.declared.lines.Line.{Line}
use Rattle.beet_bids.proofs.GridFacts.{find-range_found, one_place}

-- ---- the line at a price

line_at-cons : (line : Line) (lines : List Line) (price : ℕ) →
    line_at (line ∷ lines) price ≡ option_or (line_at lines price) (cond (nat_le line.price price) (Some line) None)
line_at-cons line lines price =
    ap (find (λ (l : Line). nat_le l.price price)) (reverse_onto lines line [])
    ∙ find-append (λ (l : Line). nat_le l.price price) (reverse lines) (line ∷ [])

line_at-none : (lines : List Line) (price : ℕ) → All (λ line. price < line.price) lines → line_at lines price ≡ None
line_at-none [] price above = refl
line_at-none (line ∷ lines) price above =
    let off : nat_le line.price price ≡ false = lt-leb _ _ (All-head (λ l. price < l.price) line lines above) in
    line_at-cons line lines price ∙ rw (line_at-none lines price (All-tail (λ l. price < l.price) line lines above), off) refl

-- the line that is not above a price, where each later line is
line_at-get : (lines : List Line) (i price : ℕ) (d : Line) → i < length lines → (get_or lines i d).price ≤ price →
    ((j : ℕ) (e : Line) → i < j → j < length lines → price < (get_or lines j e).price) → line_at lines price ≡ Some (get_or lines i d)
line_at-get [] i price d within here later = absurd (omega arith)
line_at-get (line ∷ lines) zero price d within here later =
    let none : line_at lines price ≡ None = line_at-none lines price (λ k e h. later (suc k) e (omega arith) (omega arith)) in
    let on : nat_le line.price price ≡ true = le-leb _ _ here in
    line_at-cons line lines price ∙ rw (none, on) refl
line_at-get (line ∷ lines) (suc i) price d within here later =
    line_at-cons line lines price
    ∙ rw (line_at-get lines i price d (omega arith) here (λ j e above h. later (suc j) e (omega arith) (omega arith))) refl

-- the line at a price, by the line at it among the later lines
found_after : (line : Line) (lines : List Line) (price : ℕ) (later : Line) → line_at lines price ≡ Some later →
    line_at (line ∷ lines) price ≡ Some later
found_after line lines price later e = line_at-cons line lines price ∙ rw e refl

found_first : (line : Line) (lines : List Line) (price : ℕ) → line_at lines price ≡ None → line.price ≤ price →
    line_at (line ∷ lines) price ≡ Some line
found_first line lines price e low =
    let on : nat_le line.price price ≡ true = le-leb _ _ low in
    line_at-cons line lines price ∙ rw (e, on) refl

first_is : (b : Bool) (line held : Line) → cond b (Some line) None ≡ Some held → (line ≡ held) × (b ≡ true)
first_is true line held e = (cc, refl)
first_is false line held e = absurd (cc)

-- a line that holds is one of the lines
all_from : (P : Line → Type 0) (line : Line) (price : ℕ) (held : Line) → P line → (o : Option Line) →
    ((later : Line) → o ≡ Some later → P later) →
    option_or o (cond (nat_le line.price price) (Some line) None) ≡ Some held → P held
all_from P line price held here None rest e = subst P (first_is (nat_le line.price price) line held e).0 here
all_from P line price held here (Some later) rest e = let same : later ≡ held = cc in subst P same (rest later refl)

line_at-all : (P : Line → Type 0) (lines : List Line) (price : ℕ) (held : Line) → All P lines → line_at lines price ≡ Some held → P held
line_at-all P [] price held all e = absurd (cc)
line_at-all P (line ∷ lines) price held all e =
    all_from P line price held (All-head P line lines all) (line_at lines price)
    (λ later is. line_at-all P lines price later (All-tail P line lines all) is)
    (sym (line_at-cons line lines price) ∙ e)

-- at a higher price the same line holds, or a later one
record Later (lines : List Line) (price : ℕ) (before : Line) : Type 0 where
  line : Line
  found : line_at lines price ≡ Some line
  buy : line.buy ≤ before.buy
  sell : before.sell ≤ line.sell

first_later : (line : Line) (lines : List Line) (price : ℕ) → All (Precedes line) lines → line.price ≤ price →
    (o : Option Line) → line_at lines price ≡ o → Later (line ∷ lines) price line
first_later line lines price all low None e =
    record { line = line; found = found_first line lines price e low; buy = omega arith; sell = omega arith }
first_later line lines price all low (Some later) e =
    let after = line_at-all (Precedes line) lines price later all e in
    record { line = later; found = found_after line lines price later e; buy = after.buy; sell = after.sell }

later_from : (line : Line) (lines : List Line) (low high : ℕ) (held : Line) → low ≤ high → All (Precedes line) lines →
    (o : Option Line) → ((before : Line) → o ≡ Some before → Later lines high before) →
    option_or o (cond (nat_le line.price low) (Some line) None) ≡ Some held → Later (line ∷ lines) high held
later_from line lines low high held rise all None rest e =
    let first = first_is (nat_le line.price low) line held e in
    let below : line.price ≤ low = leb-true _ _ first.1 in
    subst (Later (line ∷ lines) high) first.0 (first_later line lines high all (omega arith) (line_at lines high) refl)
later_from line lines low high held rise all (Some before) rest e =
    let same : before ≡ held = cc in
    let later = rest before refl in
    subst (Later (line ∷ lines) high) same
    (record { line = later.line; found = found_after line lines high later.line later.found; buy = later.buy; sell = later.sell })

line_at-later : (lines : List Line) (low high : ℕ) (held : Line) → low ≤ high → AllPairs Precedes lines →
    line_at lines low ≡ Some held → Later lines high held
line_at-later [] low high held rise order e = absurd (cc)
line_at-later (line ∷ lines) low high held rise order e =
    later_from line lines low high held rise (λ k d h. order zero (suc k) d (omega arith) (omega arith)) (line_at lines low)
    (λ before is. line_at-later lines low high before rise (λ i j d h k. order (suc i) (suc j) d (omega arith) (omega arith)) is)
    (sym (line_at-cons line lines low) ∙ e)

-- ---- the line at a place

found_from : (line : Line) (lines : List Line) (price : ℕ) → line.price ≤ price → (o : Option Line) → line_at lines price ≡ o →
    (held : Line) × (line_at (line ∷ lines) price ≡ Some held)
found_from line lines price low None e = (line, found_first line lines price e low)
found_from line lines price low (Some later) e = (later, found_after line lines price later e)

found_some : (lines : List Line) (base price : ℕ) → 0 < length lines → ((d : Line) → (get_or lines 0 d).price ≡ base) → base ≤ price →
    (held : Line) × (line_at lines price ≡ Some held)
found_some [] base price some first low = absurd (omega arith)
found_some (line ∷ lines) base price some first low =
    found_from line lines price (omega (arith, first line)) (line_at lines price) refl

-- a line holds at each place
held_found : (grid : Grid) (lines : List Line) (place : ℕ) → AreLines grid lines →
    line_at lines (price_of grid place) ≡ Some (held_line grid lines place)
held_found grid lines place are =
    let found = found_some lines grid.base (price_of grid place) are.some are.base (omega arith) in
    found.1 ∙ sym (ap (λ (o : Option Line). Some (unwrap_or o (record { price = 0; buy = 0; sell = 0 }))) found.1)

price-le : (grid : Grid) (j k : ℕ) → j ≤ k → price_of grid j ≤ price_of grid k
price-le grid j k h = omega (arith, mul-le j grid.tick k grid.tick h (omega arith))

price-lt : (grid : Grid) (j k : ℕ) → 1 ≤ grid.tick → j < k → price_of grid j < price_of grid k
price-lt grid j k some h = omega (arith, mul-le (suc j) grid.tick k grid.tick h (omega arith))

held_later : (grid : Grid) (lines : List Line) (j k : ℕ) → AreLines grid lines → j ≤ k →
    ((held_line grid lines k).buy ≤ (held_line grid lines j).buy) × ((held_line grid lines j).sell ≤ (held_line grid lines k).sell)
held_later grid lines j k are h =
    let later = line_at-later lines (price_of grid j) (price_of grid k) (held_line grid lines j)
    (price-le grid j k h) are.in_order (held_found grid lines j are) in
    let same : later.line ≡ held_line grid lines k = cc (later.found, held_found grid lines k are) in
    subst (λ (l : Line). (l.buy ≤ (held_line grid lines j).buy) × ((held_line grid lines j).sell ≤ l.sell)) same (later.buy, later.sell)

-- the lines of a bid make a curve
pub curve_in-is : (grid : Grid) (lines : List Line) → AreLines grid lines → IsCurve (curve_in grid lines)
curve_in-is grid lines are =
    let buy : ℕ → ℕ = λ (place : ℕ). (held_line grid lines place).buy in
    let sell : ℕ → ℕ = λ (place : ℕ). (held_line grid lines place).sell in
    record {
      one_length = length-map-range_with_len sell 0 grid.prices ∙ sym (length-map-range_with_len buy 0 grid.prices);
      buy_limit = All-map (λ quantity. quantity ≤ LARGEST_QUANTITY) buy (places_of grid)
          (λ k d h. line_at-all (λ l. l.buy ≤ LARGEST_QUANTITY) lines (price_of grid (get_or (places_of grid) k d)) _
          are.buy_limit (held_found grid lines (get_or (places_of grid) k d) are));
      sell_limit = All-map (λ quantity. quantity ≤ LARGEST_QUANTITY) sell (places_of grid)
          (λ k d h. line_at-all (λ l. l.sell ≤ LARGEST_QUANTITY) lines (price_of grid (get_or (places_of grid) k d)) _
          are.sell_limit (held_found grid lines (get_or (places_of grid) k d) are));
      buy_never_rises = λ i j d h k.
          let within : j < grid.prices = omega (arith, length-map-range_with_len buy 0 grid.prices) in
          let first : get_or (map buy (places_of grid)) i d ≡ buy i =
          get_or-map-range_with_len buy 0 grid.prices i i d (omega arith) (omega arith) in
          let second : get_or (map buy (places_of grid)) j d ≡ buy j =
          get_or-map-range_with_len buy 0 grid.prices j j d within (omega arith) in
          omega (arith, first, second, (held_later grid lines i j are (omega arith)).0);
      sell_never_falls = λ i j d h k.
          let within : j < grid.prices = omega (arith, length-map-range_with_len sell 0 grid.prices) in
          let first : get_or (map sell (places_of grid)) i d ≡ sell i =
          get_or-map-range_with_len sell 0 grid.prices i i d (omega arith) (omega arith) in
          let second : get_or (map sell (places_of grid)) j d ≡ sell j =
          get_or-map-range_with_len sell 0 grid.prices j j d within (omega arith) in
          omega (arith, first, second, (held_later grid lines i j are (omega arith)).1);
    }

pub curve_in-of_grid : (grid : Grid) (lines : List Line) → IsOfGrid grid (curve_in grid lines)
curve_in-of_grid grid lines =
    record {
      buy_length = length-map-range_with_len (λ (place : ℕ). (held_line grid lines place).buy) 0 grid.prices;
      sell_length = length-map-range_with_len (λ (place : ℕ). (held_line grid lines place).sell) 0 grid.prices;
    }

-- ---- where a line begins

some_is : (o : Option ℕ) → IsTrue (is_some o) → o ≡ Some (unwrap_or o 0)
some_is None e = absurd (true≢false (sym e))
some_is (Some k) e = refl

-- a line begins at the place of its price
begin_is : (grid : Grid) (lines : List Line) (i : ℕ) (d : Line) → AreLines grid lines → i < length lines →
    (begin_at grid lines i < grid.prices) × (price_of grid (begin_at grid lines i) ≡ (get_or lines i d).price)
begin_is grid lines i d are within =
    let here : slice_get lines i ≡ Some (get_or lines i d) = slice_get-get_or lines i d within in
    let at : begin_at grid lines i ≡ unwrap_or (place_of grid (get_or lines i d).price) 0 = ap (begin_of grid) here in
    let place : place_of grid (get_or lines i d).price ≡ Some (unwrap_or (place_of grid (get_or lines i d).price) 0) =
    some_is _ (are.on_grid i d within) in
    let found = find-range_found (λ (k : ℕ). nat_eq (price_of grid k) (get_or lines i d).price) 0 grid.prices _ place in
    rw at (omega (arith, found.0), eqb-true _ _ found.1)

-- after the last line there is no place
pub begin_past : (grid : Grid) (lines : List Line) (i : ℕ) → length lines ≤ i → begin_at grid lines i ≡ grid.prices
begin_past grid lines i past = ap (begin_of grid) (slice_get_past lines i past)

-- the first line begins at the first place
pub begin_first : (grid : Grid) (lines : List Line) (d : Line) → AreLines grid lines → 1 ≤ grid.tick → begin_at grid lines 0 ≡ 0
begin_first grid lines d are some =
    let first = begin_is grid lines 0 d are are.some in
    one_place grid (begin_at grid lines 0) 0 some (omega (arith, first.1, are.base d))

-- each line begins after the line before it
pub begin_rises : (grid : Grid) (lines : List Line) (i : ℕ) (d : Line) → AreLines grid lines → i < length lines →
    begin_at grid lines i ≤ begin_at grid lines (i + 1)
begin_rises grid lines i d are within =
    elim (cases_lt (i + 1) (length lines)) [
      | inl more ↦ elim (cases_lt (begin_at grid lines (i + 1)) (begin_at grid lines i)) [
        | inl fall ↦ absurd (omega (
          arith,
          price-le grid (begin_at grid lines (i + 1)) (begin_at grid lines i) (omega arith),
          (begin_is grid lines i d are within).1,
          (begin_is grid lines (i + 1) d are more).1,
          (are.in_order i (i + 1) d (omega arith) more).price,
        ))
        | inr rise ↦ rise
      ]
      | inr last ↦ omega (arith, (begin_is grid lines i d are within).0, begin_past grid lines (i + 1) last)
    ]

-- a later line begins above a place before it
later_above : (grid : Grid) (lines : List Line) (i j place : ℕ) (d : Line) → AreLines grid lines → 1 ≤ grid.tick →
    place < begin_at grid lines (i + 1) →
    i < j → j < length lines → price_of grid place < (get_or lines j d).price
later_above grid lines i j place d are some high after inside =
    let next = begin_is grid lines (i + 1) d are (omega arith) in
    let below : price_of grid place < (get_or lines (i + 1) d).price =
    omega (arith, next.1, price-lt grid place (begin_at grid lines (i + 1)) some high) in
    elim (cases_eq (i + 1) j) [
      | inl e ↦ rw (← e) below
      | inr differ ↦ omega (arith, below, (are.in_order (i + 1) j d (omega arith) inside).price)
    ]

-- a line holds from its place on, up to the place where the next begins
pub held_between : (grid : Grid) (lines : List Line) (i place : ℕ) (d : Line) → AreLines grid lines → 1 ≤ grid.tick → i < length lines →
    begin_at grid lines i ≤ place → place < begin_at grid lines (i + 1) → held_line grid lines place ≡ get_or lines i d
held_between grid lines i place d are some within low high =
    let here : (get_or lines i d).price ≤ price_of grid place =
    omega (arith, (begin_is grid lines i d are within).1, price-le grid (begin_at grid lines i) place low) in
    let found = line_at-get lines i (price_of grid place) d within here (λ j e after inside.
    later_above grid lines i j place e are some high after inside) in
    ap (λ (o : Option Line). unwrap_or o (record { price = 0; buy = 0; sell = 0 })) found

-- ---- the quantities of a line

-- a function that is constant from one place on
constant_after : (f : ℕ → ℕ) (v from n : ℕ) → ((k : ℕ) → from ≤ k → k < from + n → f k ≡ v) →
    map f (range_with_len 0 (from + n)) ≡ map f (range_with_len 0 from) ++ replicate n v
constant_after f v from zero same =
    let e : from + 0 ≡ from = omega arith in
    rw (e, append-nil) refl
constant_after f v from (suc n) same =
    let e : from + suc n ≡ from + n + 1 = omega arith in
    let more : n + 1 ≡ suc n = omega arith in
    rw (
      e,
      map-range_with_len_more f 0 (from + n) (from + n) (omega arith),
      constant_after f v from n (λ k l h. same k l (omega arith)),
      same (from + n) (omega arith) (omega arith),
      append_assoc,
      replicate_more n v,
      more,
    ) refl

-- a list that is filled up to the place where the next line begins
pub filled : (f : ℕ → ℕ) (items : List ℕ) (n from end v : ℕ) → n ≡ length items → items ≡ map f (range_with_len 0 from) → from ≤ end →
    ((k : ℕ) → from ≤ k → k < end → f k ≡ v) → take end items ++ replicate (end - n) v ≡ map f (range_with_len 0 end)
filled f items n from end v count is rise same =
    let long : n ≡ from = count ∙ (ap length is ∙ length-map-range_with_len f 0 from) in
    let whole : take end items ≡ items = take_all end items (omega arith) in
    let sum : from + (end - from) ≡ end = omega arith in
    let spread = constant_after f v from (end - from) (λ k l h. same k l (omega arith)) in
    rw (whole, long, is) (sym spread ∙ ap (λ (n : ℕ). map f (range_with_len 0 n)) sum)
