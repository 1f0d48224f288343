-- The inputs of five servers are shares of a book's sums, and with mapped words two servers have the same.
use Rattle.std.proofs.Common.{◌≡◌, ℕ, ◌+◌, ◌*◌, ◌%◌, ◌<◌, ◌≤◌, List, [], ◌∷◌, slice_get, arith, refl, sym, ◌∙◌}
use Rattle.std.proofs.Common.{ap, inl, inr, true, Option, Some, None, zero, suc}
use Rattle.std.specs.Prelude.{sum_by, All, if◌then◌else◌, ◌==◌}
use Rattle.std.proofs.lemmas.Bool.{cases_Bool}
use Rattle.std.proofs.lemmas.Bool.Decides.{nat_tests}
use Rattle.std.proofs.lemmas.List.Elements.{All-head, All-tail}
use Rattle.std.proofs.lemmas.List.Sums.{sum_by-cons}
use Rattle.std.proofs.lemmas.Option.{same_Some}
use Rattle.beet_field.specs.Field.{p}
use Rattle.beet_field.specs.Point.{number_of}
use Rattle.beet_field.specs.declared.point.Point.{Point}
use Rattle.beet_gates.proofs.EachFacts.{each-same}
use Rattle.beet_bids.specs.Curves.{IsCurve, quantity}
use Rattle.beet_book.specs.Farmers.{BidderWithWords}
use Rattle.beet_book.specs.Totals.{supply_first}
use Rattle.beet_linear_sharing.specs.Schemes.{five_servers}
use Rattle.beet_linear_sharing.specs.Sharings.{IsAmong}
use Rattle.beet_linear_sharing.proofs.Arithmetic.{five-laws}
use Rattle.beet_coalition.specs.Moved.{hiding}
use Rattle.beet_coalition.specs.Watchers.{two_watch}
use Rattle.beet_coalition.proofs.Arithmetic.{two-of-five}
use Rattle.beet_coalition.proofs.ListMoves.{points-same}
use Rattle.beet_five_dealing.specs.FiveInputs.{inputs_at, share_for, summed_share}
use Rattle.beet_five_map.specs.FiveWorlds.{BidderMapped, BiddersMapped, SameShares, is_own, known_by}
use Rattle.beet_two_books.proofs.BidderFacts.{quantity-element}

-- a bidder that a or b knows is marked by a server
pub own-mark : (a b : ℕ) → 1 ≤ a → a < b → (mark : Option Point) → (two_watch a b).watches (known_by mark) ≡ true →
    (s : Point) × (mark ≡ Some s) × ((two_watch a b).watches (number_of s) ≡ true)
own-mark a b some less None mine = absurd (nobody a b some less mine) where
  nobody : (a b : ℕ) → 1 ≤ a → a < b → (if 0 == a then true else (0 == b)) ≡ true → ⊥
  nobody a b some less mine = grind (arith, nat_tests)
own-mark a b some less (Some s) mine = (s, refl, mine)

-- two servers that watch have the same inputs
module _ (a b : ℕ) (some : 1 ≤ a) (less : a < b) (few : b ≤ 5) (prices : ℕ) where
  -- the curves of bidders that one of them knows are the same
  abbrev pub SameCurves : List BidderWithWords → List BidderWithWords → Type 0
  SameCurves farmers farmers' =
      (k : ℕ) (one other : BidderWithWords) → slice_get farmers k ≡ Some one → slice_get farmers' k ≡ Some other →
      is_own a b one.bidder ≡ true → other.bidder.curve ≡ one.bidder.curve

  module _ (n s : ℕ) (lt : n < 2 * prices) (at : IsAmong five_servers.servers s) (watch : (two_watch a b).watches s ≡ true) where
    share-same : (f g : BidderWithWords) → BidderMapped a b prices f g → IsCurve g.bidder.curve →
        (is_own a b f.bidder ≡ true → g.bidder.curve ≡ f.bidder.curve) → share_for g s n ≡ share_for f s n
    share-same f g m c own = elim (cases_Bool (is_own a b f.bidder)) [
      | inl mine ↦ λ j. five_servers.share (quantity (own mine j) n) (hiding five_servers (m.own mine j) n) s
      | inr other ↦
          points-same five_servers (two_watch a b) five-laws (2 * prices) (quantity f.bidder.curve) (quantity g.bidder.curve)
          (two-of-five a b some less few) f.words g.words (quantity-element g.bidder.curve c) (m.moved other) n s lt at watch
    ]

    shares-same : (fs gs : List BidderWithWords) → BiddersMapped a b prices fs gs →
        All (λ (f : BidderWithWords). IsCurve f.bidder.curve) gs → SameCurves fs gs →
        sum_by (λ f. share_for f s n) gs ≡ sum_by (λ f. share_for f s n) fs
    shares-same [] [] m c own = refl
    shares-same [] (g ∷ gs) m c own = absurd m
    shares-same (f ∷ fs) [] m c own = absurd m
    shares-same (f ∷ fs) (g ∷ gs) m c own =
        let curve = λ (x : BidderWithWords). IsCurve x.bidder.curve in
        let here = share-same f g m.0 (All-head curve g gs c) (own 0 f g refl refl) in
        let rest = shares-same fs gs m.1 (All-tail curve g gs c) (λ k x y e d. own (suc k) x y e d) in
        sum_by-cons (λ x. share_for x s n) g gs ∙ (λ j. here j + rest j) ∙ sym (sum_by-cons (λ x. share_for x s n) f fs)

  pub inputs-same : (fs gs : List BidderWithWords) → BiddersMapped a b prices fs gs →
      All (λ (f : BidderWithWords). IsCurve f.bidder.curve) gs → SameCurves fs gs →
      (s : ℕ) → IsAmong five_servers.servers s → (two_watch a b).watches s ≡ true →
      inputs_at prices gs s ≡ inputs_at prices fs s
  inputs-same fs gs m c own s at watch =
      ap (supply_first prices) (each-same (summed_share gs s) (summed_share fs s) (2 * prices)
      (λ n lt. ap (λ x. x % p) (shares-same n s lt at watch fs gs m c own)))

  -- the shares of each bidder
  pub each-same-share : (fs gs : List BidderWithWords) → BiddersMapped a b prices fs gs →
      All (λ (f : BidderWithWords). IsCurve f.bidder.curve) gs → SameCurves fs gs → SameShares a b prices fs gs
  each-same-share [] gs m c own k one other e d s n at watch lt = cc e
  each-same-share (f ∷ fs) [] m c own k one other e d s n at watch lt = absurd m
  each-same-share (f ∷ fs) (g ∷ gs) m c own zero one other e d s n at watch lt =
      let curve = λ (x : BidderWithWords). IsCurve x.bidder.curve in
      let is : f ≡ one = same_Some f one e in
      let is' : g ≡ other = same_Some g other d in
      sym (λ j. share_for (is' j) s n) ∙ share-same n s lt at watch f g m.0 (All-head curve g gs c) (own 0 f g refl refl)
      ∙ (λ j. share_for (is j) s n)
  each-same-share (f ∷ fs) (g ∷ gs) m c own (suc k) one other e d s n at watch lt =
      let curve = λ (x : BidderWithWords). IsCurve x.bidder.curve in
      each-same-share fs gs m.1 (All-tail curve g gs c) (λ i x y e' d'. own (suc i) x y e' d') k one other e d s n at watch lt
