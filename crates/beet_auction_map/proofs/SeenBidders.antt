-- A server sees the same bidders in both worlds.
use Rattle.std.proofs.Common.{◌≡◌, ◌≢◌, ◌+◌, ◌*◌, suc, inl, inr, false, List, [], ◌∷◌, map, take, Option, Some, None}
use Rattle.std.proofs.Common.{refl, sym, ap, ◌∙◌, arith}
use Rattle.std.specs.Prelude.{All}
use Rattle.std.proofs.lemmas.List.Elements.{All-head, All-tail}
use Rattle.beet_field.specs.declared.point.Point.{Point}
use Rattle.beet_field.specs.declared.point.Point.TheVariants.{One, Two, Three}
use Rattle.beet_gates.specs.Each.{each}
use Rattle.beet_gates.proofs.EachFacts.{each-same}
use Rattle.beet_bids.specs.Curves.{IsCurve, IsOfGrid}
use Rattle.beet_bids.specs.Grids.{Grid}
use Rattle.beet_masking.specs.declared.TheConstants.{SPARE_WORDS}
use Rattle.beet_book.specs.Dealing.{quantities}
use Rattle.beet_book.specs.Farmers.{BidderWithWords, point_for}
use Rattle.beet_book.proofs.Quantities.{quantities-many}
use Rattle.beet_view.specs.BookViews.{kept_if, names, seen_at}
use Rattle.beet_trades.specs.Enough.{HasAccepted}
use Rattle.beet_mapped.specs.Dealers.{DealerMapped, DealersMapped}
use Rattle.beet_mapped.proofs.DealerFacts.{first-mapped, known-or, point-same, rest-mapped}
use Rattle.beet_two_books.proofs.BidderFacts.{SameOwn, curve-elements}
use Rattle.beet_auction_map.proofs.BidderFacts.{dealer_of}
use Rattle.beet_auction_map.proofs.CutRuns.{cut, point-cut}

names-not : (known : Option Point) (s : Point) → known ≢ Some s → names known s ≡ false
names-not None s ne = refl
names-not (Some One) One ne = absurd (ne refl)
names-not (Some One) Two ne = refl
names-not (Some One) Three ne = refl
names-not (Some Two) One ne = refl
names-not (Some Two) Two ne = absurd (ne refl)
names-not (Some Two) Three ne = refl
names-not (Some Three) One ne = refl
names-not (Some Three) Two ne = refl
names-not (Some Three) Three ne = absurd (ne refl)

module _ (s : Point) (grid : Grid) where
  abbrev enough : BidderWithWords → Type 0
  enough f = HasAccepted (2 * grid.prices) f.words

  abbrev of_grid : BidderWithWords → Type 0
  of_grid f = IsOfGrid grid f.bidder.curve

  abbrev curve : BidderWithWords → Type 0
  curve f = IsCurve f.bidder.curve

  seen-same : (one other : BidderWithWords) → of_grid one → curve other →
      (one.bidder.known ≡ Some s → other.bidder.curve ≡ one.bidder.curve) →
      DealerMapped s (dealer_of one) (dealer_of other) → enough one → enough other →
      seen_at grid s (cut (2 * grid.prices) other) ≡ seen_at grid s (cut (2 * grid.prices) one)
  seen-same one other g c own m h h' =
      let wanted = 2 * grid.prices in
      let long = quantities-many grid one.bidder.curve g in
      let points : each (point_for (cut wanted other) s) wanted ≡ each (point_for (cut wanted one) s) wanted =
      each-same (point_for (cut wanted other) s) (point_for (cut wanted one) s) wanted
      (λ n lt. point-cut wanted other h' s n lt
      ∙ point-same s (dealer_of one) (dealer_of other) (curve-elements other.bidder.curve c)
      (λ known. ap quantities (own known)) m n (omega (arith, lt, long))
      ∙ sym (point-cut wanted one h s n lt)) in
      let secret : kept_if (names other.bidder.known s) other.bidder.curve (take (wanted + SPARE_WORDS) other.words)
      ≡ kept_if (names one.bidder.known s) one.bidder.curve (take (wanted + SPARE_WORDS) one.words) =
      elim (known-or one.bidder.known s) [
        | inl known ↦ λ x. kept_if (names (m.known x) s) (own known x) (take (wanted + SPARE_WORDS) (m.own known x))
        | inr unknown ↦
            let no : names one.bidder.known s ≡ false = names-not one.bidder.known s unknown in
            (λ x. kept_if ((ap (λ k. names k s) m.known ∙ no) x) other.bidder.curve (take (wanted + SPARE_WORDS) other.words))
            ∙ sym (λ x. kept_if (no x) one.bidder.curve (take (wanted + SPARE_WORDS) one.words))
      ] in
      λ x. record { known = m.known x; points = points x; own = secret x }

  pub seen-all : (farmers farmers' : List BidderWithWords) →
      DealersMapped s (map dealer_of farmers) (map dealer_of farmers') → All of_grid farmers →
      All curve farmers' → SameOwn s farmers farmers' → All enough farmers → All enough farmers' →
      map (seen_at grid s) (map (cut (2 * grid.prices)) farmers') ≡ map (seen_at grid s) (map (cut (2 * grid.prices)) farmers)
  seen-all [] [] m o c own h h' = refl
  seen-all [] (g ∷ gs) m o c own h h' = absurd (omega (arith, m.count))
  seen-all (f ∷ fs) [] m o c own h h' = absurd (omega (arith, m.count))
  seen-all (f ∷ fs) (g ∷ gs) m o c own h h' =
      let here = seen-same f g (All-head of_grid f fs o) (All-head curve g gs c) (own 0 f g refl refl)
      (first-mapped s (dealer_of f) (dealer_of g) (map dealer_of fs) (map dealer_of gs) m) (All-head enough f fs h)
      (All-head enough g gs h') in
      let rest = seen-all fs gs (rest-mapped s (dealer_of f) (dealer_of g) (map dealer_of fs) (map dealer_of gs) m)
      (All-tail of_grid f fs o)
      (All-tail curve g gs c) (λ k one other a b. own (suc k) one other a b) (All-tail enough f fs h) (All-tail enough g gs h') in
      λ x. here x ∷ rest x
