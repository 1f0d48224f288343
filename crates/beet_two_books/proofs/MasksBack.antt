-- Books that agree do so both ways, and what their comparisons lose is made up on the way back.
use Rattle.std.proofs.Common.{◌≡◌, ℕ, List, map, sym, subst, ◌∙◌, arith}
use Rattle.std.specs.Prelude.{All}
use Rattle.std.proofs.lemmas.List.Elements.{All-map}
use Rattle.std.proofs.lemmas.Simd.{map-map}
use Rattle.beet_field.specs.Field.{IsElement, neg_of, sub_of}
use Rattle.beet_field.specs.declared.point.Point.{Point}
use Rattle.beet_field.specs.declared.trio.Trio.{Trio}
use Rattle.beet_bids.specs.Books.{Book}
use Rattle.beet_bids.specs.Outcomes.{clearing_place}
use Rattle.beet_bids.specs.declared.book.Bidder.{Bidder}
use Rattle.beet_masking.specs.Masks.{AreMasks}
use Rattle.beet_plan.specs.Search.{path}
use Rattle.beet_turned.specs.MappedMasks.{MasksMapped}
use Rattle.beet_turned.proofs.MasksBack.{masks-back}
use Rattle.beet_map.proofs.Disagreeing.{mark-at}
use Rattle.beet_two_books.specs.Agreement.{Agree}
use Rattle.beet_two_books.specs.Losses.{doubled_at, losses_of, lost_at}
use Rattle.beet_two_books.proofs.Agreed.{prices-same, clearing-same}

pub agree-back : (s : Point) (first second : Book) → Agree s first second → Agree s second first
agree-back s first second a = record {
  grids = sym a.grids;
  marks = sym a.marks;
  own = λ k one other e f known. sym (a.own k other one f e
      (mark-at (λ (b : Bidder). b.known) second.bidders first.bidders k one other (sym a.marks) e f ∙ known));
  outcomes = sym a.outcomes;
}

pub lost-back : (first second : Book) (k : ℕ) → lost_at second first k ≡ neg_of (lost_at first second k)
lost-back first second k = by (doubled_at first k) (doubled_at second k) (omega arith) (omega arith) where
  by : (y z : ℕ) → IsElement y → IsElement z → sub_of z y ≡ neg_of (sub_of y z)
  by y z h l = omega arith

pub losses-small : (first second : Book) → All IsElement (losses_of first second)
losses-small first second =
    All-map IsElement (lost_at first second) (path first.grid.prices (clearing_place first)) (λ k d lt. omega arith)

module _ (s : Point) (first second : Book) (agree : Agree s first second) where
  pub losses-back : losses_of second first ≡ map neg_of (losses_of first second)
  losses-back =
      (λ j. map (λ k. lost-back first second k j) (path (prices-same s first second agree j) (clearing-same s first second agree j)))
      ∙ sym (map-map neg_of (lost_at first second) (path first.grid.prices (clearing_place first)))

  pub books-back : (words words' : Trio (List ℕ)) → AreMasks words → MasksMapped s (losses_of first second) words words' →
      MasksMapped s (losses_of second first) words' words
  books-back words words' small m =
      subst (λ losses. MasksMapped s losses words' words) (sym losses-back)
      (masks-back s (losses_of first second) (losses-small first second) words words' small m)
