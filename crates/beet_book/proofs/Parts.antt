-- Curves that are dealt in two parts.
use Rattle.std.proofs.Common.{◌≡◌, ℕ, ◌+◌, ◌*◌, ◌-◌, List, ◌++◌, Result, Ok, Err, length, arith, inl, inr, refl, sym, subst}
use Rattle.std.proofs.Common.{◌∙◌, length-append}
use Rattle.std.specs.Prelude.{IfOk, IsOkAnd}
use Rattle.std.specs.List.{slice_range}
use Rattle.std.proofs.Math.ListN.{drop}
use Rattle.std.proofs.lemmas.Bool.{cases_lt}
use Rattle.std.proofs.lemmas.List.Elements.{All-append, All-take, All-drop}
use Rattle.beet_parts.proofs.Ranges.{range-all, range-joined, range-length}
use Rattle.beet_field.specs.declared.trio.Trio.{Trio}
use Rattle.beet_words.specs.Tapes.{Tape}
use Rattle.beet_bids.specs.Curves.{Curve, IsOfGrid}
use Rattle.beet_bids.specs.Grids.{Grid}
use Rattle.beet_book.specs.Dealing.{CanDealEach, CanDealPart, DealsEach, DealsOver, HasLengths}
use Rattle.beet_book.proofs.Items.{get-append_left, get-append_right}

module _ {few rest : List Curve} {front front_left back back_left : List Tape} {first second : List (Trio (List ℕ))} where
  each-joined : length front ≡ length few → DealsEach few front front_left first → DealsEach rest back back_left second →
      DealsEach (few ++ rest) (front ++ back) (front_left ++ back_left) (first ++ second)
  each-joined paired a b = record {
    tapes = omega (arith, length-append front_left back_left, length-append front back, a.tapes, b.tapes);
    count = omega (arith, length-append first second, length-append few rest, a.count, b.count);
    each = λ i curve before after points c t u d. elim (cases_lt i (length few)) [
      | inl low ↦
          a.each i curve before after points
          (sym (get-append_left few rest i low) ∙ c)
          (sym (get-append_left front back i (omega (arith, paired))) ∙ t)
          (sym (get-append_left front_left back_left i (omega (arith, paired, a.tapes))) ∙ u)
          (sym (get-append_left first second i (omega (arith, a.count))) ∙ d)
      | inr high ↦
          let n = length few in
          b.each (i - n) curve before after points
          (sym (get-append_right few rest n i refl high) ∙ c)
          (sym (get-append_right front back n i paired high) ∙ t)
          (sym (get-append_right front_left back_left n i (a.tapes ∙ paired) high) ∙ u)
          (sym (get-append_right first second n i a.count high) ∙ d)
    ];
  }

  pub over-joined : (grid : Grid) → length front ≡ length few → DealsOver grid few front front_left first →
      DealsOver grid rest back back_left second →
      DealsOver grid (few ++ rest) (front ++ back) (front_left ++ back_left) (first ++ second)
  over-joined grid paired a b = record {
    each = each-joined paired a.each b.each;
    lengths = All-append (λ points. HasLengths points (2 * grid.prices)) first second a.lengths b.lengths;
  }

-- the curves of a part, with what is lent to them
pub part-of : (grid : Grid) (curves : List Curve) (from count : ℕ) (tapes : List Tape) →
    CanDealPart grid curves from count tapes → CanDealEach grid (slice_range curves from (from + count)) tapes
part-of grid curves from count tapes can = record {
  paired = can.paired ∙ sym (range-length curves from count can.within);
  of_grid = All-take (IsOfGrid grid) (from + count - from) (drop from curves) (All-drop (IsOfGrid grid) from curves can.of_grid);
  words = can.words;
}

-- the list of both parts, where both are dealt
pub over-parts : {V E : Type 0} (items : V → List (Trio (List ℕ))) (grid : Grid) (curves : List Curve) (from count more : ℕ)
    (front front_left back back_left : List Tape) (a b r : Result V E) →
    CanDealPart grid curves from count front →
    IfOk a (λ v. DealsOver grid (slice_range curves from (from + count)) front front_left (items v)) →
    IfOk b (λ v. DealsOver grid (slice_range curves (from + count) (from + count + more)) back back_left (items v)) →
    IfOk r (λ v. IsOkAnd a (λ x. IsOkAnd b (λ y. items v ≡ items x ++ items y))) →
    IfOk r (λ v. DealsOver grid (slice_range curves from (from + (count + more))) (front ++ back) (front_left ++ back_left) (items v))
over-parts items grid curves from count more front front_left back back_left (Ok x) (Ok y) (Ok v) can f g is =
    rw (is, range-joined curves from count more) (over-joined grid (part-of grid curves from count front can).paired f g)
over-parts items grid curves from count more front front_left back back_left (Ok x) (Err e) (Ok v) can f g is = absurd is
over-parts items grid curves from count more front front_left back back_left (Err e) b (Ok v) can f g is = absurd is
over-parts items grid curves from count more front front_left back back_left a b (Err e) can f g is = tt

-- all curves as one part
pub over-all : {V E : Type 0} (items : V → List (Trio (List ℕ))) (grid : Grid) (curves : List Curve) (old new : List Tape)
    (r : Result V E) → IfOk r (λ v. DealsOver grid (slice_range curves 0 (0 + length curves)) old new (items v)) →
    IfOk r (λ v. DealsOver grid curves old new (items v))
over-all items grid curves old new r f = subst (λ cs. IfOk r (λ v. DealsOver grid cs old new (items v))) (range-all curves) f
