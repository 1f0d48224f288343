-- A server sees the same bids in both sales.
use Rattle.std.proofs.Common.{◌≡◌, suc, inl, inr, List, [], ◌∷◌, map, take, slice_get, Some}
use Rattle.std.proofs.Common.{ℕ, refl, sym, ap, ◌∙◌, arith}
use Rattle.std.specs.Prelude.{All}
use Rattle.std.proofs.lemmas.Bool.{cases_Bool}
use Rattle.std.proofs.lemmas.List.Elements.{All-cons, All-head, All-tail}
use Rattle.beet_field.specs.declared.point.Point.{Point}
use Rattle.beet_gates.specs.declared.Gates.{Gates}
use Rattle.beet_shamir.specs.Line.{point_of}
use Rattle.beet_words.specs.Bundles.{Words}
use Rattle.beet_delivery.specs.Events.{same}
use Rattle.beet_view.specs.BookViews.{names}
use Rattle.beet_view.proofs.Marks.{names-is}
use Rattle.beet_mapped.specs.Dealers.{Party, Dealer, DealerMapped, DealersMapped, dealers_of}
use Rattle.beet_mapped.proofs.DealerFacts.{first-mapped, point-same, rest-mapped}
use Rattle.beet_trades.specs.Enough.{HasAccepted}
use Rattle.beet_masking.specs.Masks.{with_spare}
use Rattle.beet_trades.proofs.Drawn.{accepted-read}
use Rattle.beet_sale_file.specs.declared.rows.SaleBid.{SaleBid}
use Rattle.beet_sale_map.specs.Bids.{Agree, AreSaleBids}
use Rattle.beet_sale_map.specs.Enough.{AreEnough}
use Rattle.beet_sale_map.specs.MappedSales.{SalesMapped}
use Rattle.beet_sale_map.specs.Worlds.{bid_in, party_of, point_in}
use Rattle.beet_sale_map.proofs.SaleWorlds.{OneQuantity, one-quantity, own-known}
use Rattle.beet_highbid.specs.SaleViews.{bids_seen, kept_if, seen_bid, view_of_sale}

-- a dealer with the words that are read
abbrev cut : Dealer → Dealer
cut d = record { party = d.party; words = take (with_spare 1) d.words }

dealers-cut : (parties : List Party) (words : List (List ℕ)) →
    dealers_of parties (map (take (with_spare 1)) words) ≡ map cut (dealers_of parties words)
dealers-cut [] words = refl
dealers-cut (b ∷ bs) [] = refl
dealers-cut (b ∷ bs) (w ∷ ws) = ap (λ l. record { party = b; words = take (with_spare 1) w } ∷ l) (dealers-cut bs ws)

-- what is true of each list is true of the words of each that deals
abbrev can_deal : Dealer → Type 0
can_deal d = HasAccepted 1 d.words

dealers-can : (parties : List Party) (words : List (List ℕ)) → All (HasAccepted 1) words → All can_deal (dealers_of parties words)
dealers-can [] words all = λ k d lt. absurd (omega arith)
dealers-can (b ∷ bs) [] all = λ k d lt. absurd (omega arith)
dealers-can (b ∷ bs) (w ∷ ws) all =
    All-cons can_deal (record { party = b; words = w }) (dealers_of bs ws) (All-head (HasAccepted 1) w ws all)
    (dealers-can bs ws (All-tail (HasAccepted 1) w ws all))

point-cut : (d : Dealer) (i : Point) → can_deal d → point_in (cut d) i ≡ point_in d i
point-cut d i h = ap (λ a. point_of (bid_in d) a i) (accepted-read 1 d.words h 0 (omega arith))

module _ (s : Point) where
  seen-same : (one other : Dealer) → OneQuantity one → OneQuantity other → can_deal one → can_deal other →
      (one.party.known ≡ Some s → other.party.quantities ≡ one.party.quantities) → DealerMapped s one other →
      seen_bid s (cut other) ≡ seen_bid s (cut one)
  seen-same one other q q' h h' own m =
      let point : point_in (cut other) s ≡ point_in (cut one) s =
      point-cut other s h' ∙ point-same s one other q'.1 own m 0 (omega (arith, q.0)) ∙ sym (point-cut one s h) in
      let secret : kept_if (names other.party.known s) (bid_in other) (take (with_spare 1) other.words)
      ≡ kept_if (names one.party.known s) (bid_in one) (take (with_spare 1) one.words) =
      elim (cases_Bool (names one.party.known s)) [
        | inl t ↦
            let known = names-is one.party.known s t in
            λ x. kept_if (names (m.known x) s)
            (bid_in (record { party = record { known = one.party.known; quantities = own known x }; words = [] }))
            (take (with_spare 1) (m.own known x))
        | inr f ↦
            (λ x. kept_if ((ap (λ k. names k s) m.known ∙ f) x) (bid_in other) (take (with_spare 1) other.words))
            ∙ sym (λ x. kept_if (f x) (bid_in one) (take (with_spare 1) one.words))
      ] in
      λ x. record { known = m.known x; point = point x; own = secret x }

  seen-all : (dealers dealers' : List Dealer) → All OneQuantity dealers → All OneQuantity dealers' → All can_deal dealers →
      All can_deal dealers' →
      ((k : ℕ) (one other : Dealer) → slice_get dealers k ≡ Some one → slice_get dealers' k ≡ Some other → one.party.known ≡ Some s →
      other.party.quantities ≡ one.party.quantities) → DealersMapped s dealers dealers' →
      map (seen_bid s) (map cut dealers') ≡ map (seen_bid s) (map cut dealers)
  seen-all [] [] q q' h h' own m = refl
  seen-all [] (g ∷ gs) q q' h h' own m = absurd (omega (arith, m.count))
  seen-all (f ∷ fs) [] q q' h h' own m = absurd (omega (arith, m.count))
  seen-all (f ∷ fs) (g ∷ gs) q q' h h' own m =
      let here = seen-same f g (All-head OneQuantity f fs q) (All-head OneQuantity g gs q') (All-head can_deal f fs h)
      (All-head can_deal g gs h') (own 0 f g refl refl) (first-mapped s f g fs gs m) in
      let rest = seen-all fs gs (All-tail OneQuantity f fs q) (All-tail OneQuantity g gs q') (All-tail can_deal f fs h)
      (All-tail can_deal g gs h') (λ k x y a b. own (suc k) x y a b) (rest-mapped s f g fs gs m) in
      λ x. here x ∷ rest x

-- the views are the same
pub views-same : (s : Point) (gates : Gates) (first second : List SaleBid) (words words' : Words) → AreSaleBids first → AreSaleBids second →
    Agree s first second → AreEnough first words → SalesMapped s gates first words second words' →
    view_of_sale gates second words' s ≡ view_of_sale gates first words s
views-same s gates first second words words' are are' agree enough m =
    let bids : bids_seen second words' s ≡ bids_seen first words s =
    ap (map (seen_bid s)) (dealers-cut (map party_of second) words'.bidders)
    ∙ seen-all s (dealers_of (map party_of first) words.bidders) (dealers_of (map party_of second) words'.bidders)
    (one-quantity first words.bidders are.limits) (one-quantity second words'.bidders are'.limits)
    (dealers-can (map party_of first) words.bidders enough.bidders)
    (dealers-can (map party_of second) words'.bidders m.enough.bidders)
    (own-known s first second words.bidders words'.bidders agree.own) m.mapped.dealers
    ∙ sym (ap (map (seen_bid s)) (dealers-cut (map party_of first) words.bidders)) in
    λ x. record { server = s; gates = gates; bids = bids x; run = m.looks x }
