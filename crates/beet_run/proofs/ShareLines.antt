-- Shares of a book's sums are points of lines.
use Rattle.std.proofs.Common.{◌≡◌, ℕ, ◌≤◌, List, length, slice_index, arith, sym, ◌∙◌, ap, inl, inr}
use Rattle.std.proofs.lemmas.Bool.{cases_lt}
use Rattle.std.proofs.lemmas.List.Elements.{All-get_or}
use Rattle.std.proofs.Math.ListN.{get_or-eq_default}
use Rattle.beet_field.specs.Field.{IsElement}
use Rattle.beet_field.specs.Trio.{member}
use Rattle.beet_field.specs.declared.point.Point.{Point}
use Rattle.beet_field.specs.declared.trio.Trio.{Trio}
use Rattle.beet_shamir.specs.Line.{point_of}
use Rattle.beet_shamir.proofs.Laws.{zero-point}
use Rattle.beet_bids.specs.Books.{Book, IsBook}
use Rattle.beet_bids.specs.Sums.{sums_of}
use Rattle.beet_bids.proofs.BookSums.{sums-elements}
use Rattle.beet_book.specs.Dealing.{AreShares, points_at}
use Rattle.beet_book.proofs.Pairs.{item-pairwise}
use Rattle.beet_sharing.specs.Lines.{OnLines}
use Rattle.beet_book.proofs.Sums.{length-points, member-shares}

past : (xs : List ℕ) (w : ℕ) → length xs ≤ w → slice_index xs w ≡ 0
past xs w h = get_or-eq_default xs 0 (omega (arith, h))

on-line : (vs ss : List ℕ) (i : Point) (w : ℕ) → length ss ≡ length vs →
    slice_index (points_at vs ss i) w ≡ point_of (slice_index vs w) (slice_index ss w) i
on-line vs ss i w e = elim (cases_lt w (length vs)) [
  | inl within ↦ item-pairwise (λ v s. point_of v s i) vs ss w within (omega (arith, within, e))
  | inr beyond ↦
      past (points_at vs ss i) w (omega (arith, length-points vs ss i e, beyond)) ∙ zero-point i
      ∙ ap (λ v. point_of v 0 i) (sym (past vs w (omega (arith, beyond))))
      ∙ ap (λ s. point_of (slice_index vs w) s i) (sym (past ss w (omega (arith, beyond, e))))
]

element : (book : Book) (w : ℕ) → IsBook book → IsElement (slice_index (sums_of book) w)
element book w b = elim (cases_lt w (length (sums_of book))) [
  | inl within ↦ All-get_or IsElement (sums_of book) w 0 within (sums-elements book b)
  | inr beyond ↦ rw (past (sums_of book) w (omega (arith, beyond))) (omega arith)
]

pub shares-lines : (book : Book) (inputs : Trio (List ℕ)) → IsBook book → (x : AreShares (sums_of book) inputs) →
    OnLines (sums_of book) x.slopes inputs
shares-lines book inputs b x =
    let vs = sums_of book in
    record {
      paired = x.paired;
      lengths = λ i. ap (λ t. length (member t i)) x.shares ∙ ap length (member-shares vs x.slopes i)
          ∙ length-points vs x.slopes i x.paired;
      points = λ i w. ap (λ t. slice_index (member t i) w) x.shares
          ∙ ap (λ l. slice_index l w) (member-shares vs x.slopes i) ∙ on-line vs x.slopes i w x.paired;
      elements = λ w. element book w b;
    }
