-- Lists that lie one after another: one more, and one of them.
use Rattle.std.proofs.Common.{◌≡◌, ◌≤◌, ◌<◌, ◌+◌, ◌-◌, ℕ, zero, suc, List, [], ◌∷◌, ◌++◌, length, take, drop, slice_get}
use Rattle.std.proofs.Common.{slice_index, Some, refl, ap, sym, ◌∙◌, arith}
use Rattle.std.proofs.Math.Seq.{drop-append_seam}
use Rattle.beet_server.specs.Rows.{Rows, rows_of, AreEnds}

ends-le : (start : ℕ) (es : List ℕ) (n : ℕ) → AreEnds start es n → start ≤ n
ends-le start [] n h = omega (arith, h)
ends-le start (e ∷ es) n h = let r = ends-le e es n h.1 in let s = h.0 in omega arith

take-whole : (xs : List ℕ) → take (length xs) xs ≡ xs
take-whole [] = refl
take-whole (x ∷ xs) = ap (λ l. x ∷ l) (take-whole xs)

-- what lies before the end of a list stays where more is appended
same-front : (m : ℕ) (items row : List ℕ) → m ≤ length items → take m (items ++ row) ≡ take m items
same-front zero items row h = refl
same-front (suc m) [] row h = absurd (omega arith)
same-front (suc m) (x ∷ items) row h = ap (λ l. x ∷ l) (same-front m items row (omega arith))

same-slice : (start m : ℕ) (items row : List ℕ) → start + m ≤ length items → take m (drop start (items ++ row)) ≡ take m (drop start items)
same-slice zero m items row h = same-front m items row (omega arith)
same-slice (suc start) zero [] row h = refl
same-slice (suc start) (suc m) [] row h = absurd (omega arith)
same-slice (suc start) m (x ∷ items) row h = same-slice start m items row (omega arith)

pub rows-more : (items row : List ℕ) (start : ℕ) (es : List ℕ) → AreEnds start es (length items) →
    rows_of (items ++ row) start (es ++ (length items + length row) ∷ []) ≡ rows_of items start es ++ row ∷ []
rows-more items row start [] h =
    let n : length items + length row - length items ≡ length row = omega arith in
    rw (h, drop-append_seam items row, n) (ap (λ l. l ∷ []) (take-whole row))
rows-more items row start (e ∷ es) h =
    let first = h.0 in
    let last = ends-le e es (length items) h.1 in
    let s = same-slice start (e - start) items row (omega arith) in
    rw s (ap (λ l. take (e - start) (drop start items) ∷ l) (rows-more items row e es h.1))

pub ends-more : (start : ℕ) (es : List ℕ) (n k : ℕ) → AreEnds start es n → AreEnds start (es ++ (n + k) ∷ []) (n + k)
ends-more start [] n k h = (omega (arith, h), refl)
ends-more start (e ∷ es) n k h = (h.0, ends-more e es n k h.1)

length-rows : (items : List ℕ) (start : ℕ) (es : List ℕ) → length (rows_of items start es) ≡ length es
length-rows items start [] = refl
length-rows items start (e ∷ es) = ap suc (length-rows items e es)

pub length-shown : (shown : Rows) (items es : List ℕ) (count items_room ends_room : ℕ) →
    record { rows = rows_of items 0 es; count = count; items_room = items_room; ends_room = ends_room } ≡ shown →
    length shown.rows ≡ length es
length-shown shown items es count items_room ends_room is = ap (λ (v : Rows). length v.rows) (sym is) ∙ length-rows items 0 es

pub first-row : (items : List ℕ) (start : ℕ) (es : List ℕ) → 0 < length es →
    slice_get (rows_of items start es) 0 ≡ Some (take (slice_index es 0 - start) (drop start items))
first-row items start [] h = absurd (omega arith)
first-row items start (e ∷ es) h = refl

pub next-row : (items : List ℕ) (start : ℕ) (es : List ℕ) (k : ℕ) → suc k < length es →
    slice_get (rows_of items start es) (suc k) ≡ Some (take (slice_index es (suc k) - slice_index es k) (drop (slice_index es k) items))
next-row items start [] k h = absurd (omega arith)
next-row items start (e ∷ es) zero h = first-row items e es (omega arith)
next-row items start (e ∷ es) (suc k) h = next-row items e es k (omega arith)

-- each end is between the one before it and the last
pub end-le : (start : ℕ) (es : List ℕ) (n k : ℕ) → AreEnds start es n → k < length es → slice_index es k ≤ n
end-le start [] n k h l = absurd (omega arith)
end-le start (e ∷ es) n zero h l = ends-le e es n h.1
end-le start (e ∷ es) n (suc k) h l = end-le e es n k h.1 (omega arith)

pub in-order : (start : ℕ) (es : List ℕ) (n k : ℕ) → AreEnds start es n → suc k < length es → slice_index es k ≤ slice_index es (suc k)
in-order start [] n k h l = absurd (omega arith)
in-order start (e ∷ []) n k h l = absurd (omega arith)
in-order start (e ∷ f ∷ es) n zero h l = h.1.0
in-order start (e ∷ f ∷ es) n (suc k) h l = in-order e (f ∷ es) n k h.1 (omega arith)
