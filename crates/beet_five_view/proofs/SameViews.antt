-- With words that go with each other two servers see the same in both worlds.
use Rattle.std.proofs.Common.{◌≡◌, ◌≤◌, ◌<◌, ◌*◌, ◌==◌, ℕ, suc, List, [], ◌∷◌, map, Some, None, Option, true, refl}
use Rattle.std.proofs.Common.{sym, ap, ◌∙◌, inl, inr, arith}
use Rattle.std.proofs.lemmas.Bool.{cases_Bool, cond-true, cond-false, eq-eqb, eqb-true}
use Rattle.beet_field.specs.declared.point.Point.{Point}
use Rattle.beet_gates.specs.Each.{each}
use Rattle.beet_gates.proofs.EachFacts.{each-same}
use Rattle.beet_bids.specs.Books.{Book}
use Rattle.beet_book.specs.Farmers.{BidderWithWords, farmers_of}
use Rattle.beet_view.specs.BookViews.{kept_if}
use Rattle.beet_view.specs.Transcripts.{mark_of}
use Rattle.beet_two_books.proofs.BidderFacts.{same-own}
use Rattle.beet_linear_sharing.specs.Schemes.{five_servers}
use Rattle.beet_linear_sharing.specs.Sharings.{IsAmong}
use Rattle.beet_linear_sharing.proofs.Arithmetic.{among-bounds}
use Rattle.beet_coalition.specs.Watchers.{two_watch}
use Rattle.beet_five_server.specs.Network.{sends_to}
use Rattle.beet_five_server.proofs.Peers.{peer-is}
use Rattle.beet_weights.specs.Quadratics.{servers}
use Rattle.beet_five_dealing.specs.FiveInputs.{rounds_of, setup_of, share_for}
use Rattle.beet_five_dealing.specs.FiveWords.{FiveWords}
use Rattle.beet_five_map.specs.FiveWorlds.{AreOnePair, AreTwoBooks, BiddersMapped, SameShares, known_by}
use Rattle.beet_five_map.proofs.Inputs.{SameCurves, own-mark}
use Rattle.beet_five_view.specs.JointBooks.{joint_view_of, messages_to, own_at, seen_at, view_at}
use Rattle.beet_five_view.proofs.Peers.{map-kept}

-- both of two servers watch
watch-lower : (a b : ℕ) → (two_watch a b).watches a ≡ true
watch-lower a b = cond-true (a == a) true (a == b) (eq-eqb a a refl)

watch-higher : (a b : ℕ) → (two_watch a b).watches b ≡ true
watch-higher a b = elim (cases_Bool (b == a)) [
  | inl w ↦ cond-true (b == a) true (b == b) w
  | inr w ↦ cond-false (b == a) true (b == b) w ∙ eq-eqb b b refl
]

-- two ways to say which server knows a bidder
mark-known : (mark : Option Point) → known_by mark ≡ mark_of mark
mark-known None = refl
mark-known (Some s) = refl

-- what a server keeps of a bidder that it knows
own-same : (s : ℕ) (f g : BidderWithWords) → g.bidder.known ≡ f.bidder.known →
    ((mark_of f.bidder.known == s) ≡ true → (g.bidder.curve ≡ f.bidder.curve) × (g.words ≡ f.words)) → own_at s g ≡ own_at s f
own-same s f g known same = elim (cases_Bool (mark_of f.bidder.known == s)) [
  | inl mine ↦ let e = same mine in λ j. kept_if (mark_of (known j) == s) (e.0 j) (e.1 j)
  | inr not ↦
      ap (λ m. kept_if (mark_of m == s) g.bidder.curve g.words) known
      ∙ ap (λ k. kept_if k g.bidder.curve g.words) not
      ∙ sym (ap (λ k. kept_if k f.bidder.curve f.words) not)
]

module _ (a b : ℕ) (some : 1 ≤ a) (less : a < b) (few : b ≤ 5) where
  -- a server that watches sees the same bidders
  module _ (prices s : ℕ) (at : IsAmong five_servers.servers s) (watch : (two_watch a b).watches s ≡ true) where
    bidders-same : (fs gs : List BidderWithWords) → BiddersMapped a b prices fs gs → SameCurves a b some less few prices fs gs →
        SameShares a b prices fs gs → map (seen_at prices s) gs ≡ map (seen_at prices s) fs
    bidders-same [] [] m c h = refl
    bidders-same [] (g ∷ gs) m c h = absurd m
    bidders-same (f ∷ fs) [] m c h = absurd m
    bidders-same (f ∷ fs) (g ∷ gs) m c h =
        let points = each-same (share_for g s) (share_for f s) (2 * prices) (λ n lt. h 0 f g refl refl s n at watch lt) in
        let own = own-same s f g m.0.known (λ mine.
        let known : known_by f.bidder.known ≡ s = mark-known f.bidder.known ∙ eqb-true (mark_of f.bidder.known) s mine in
        let mine = ap (two_watch a b).watches known ∙ watch in
        (c 0 f g refl refl mine, m.0.own mine)) in
        let rest = bidders-same fs gs m.1 (λ k x y e d. c (suc k) x y e d) (λ k x y e d. h (suc k) x y e d) in
        λ j. record { known = m.0.known j; points = points j; own = own j } ∷ rest j

  module _ (first second : Book) (words words' : FiveWords) (two : AreTwoBooks a b first second)
      (pair : AreOnePair a b first words second words') where
    curves : SameCurves a b some less few first.grid.prices (farmers_of first.bidders words.bidders)
        (farmers_of second.bidders words'.bidders)
    curves k one other e d mine =
        let known = own-mark a b some less one.bidder.known mine in
        same-own known.0 first second words.bidders words'.bidders (two.agree.own known.0 known.2) k one other e d known.1

    -- and gets the same messages
    rounds-same : (s : ℕ) → IsAmong five_servers.servers s → (two_watch a b).watches s ≡ true →
        each (messages_to (setup_of second words') s) (rounds_of second words'.masks)
        ≡ each (messages_to (setup_of first words) s) (rounds_of first words.masks)
    rounds-same s at watch =
        ap (each (messages_to (setup_of second words') s)) pair.rounds
        ∙ each-same (messages_to (setup_of second words') s) (messages_to (setup_of first words) s) (rounds_of first words.masks)
        (λ t lt. map-kept _ _ (λ j. sends_to j s)
        (λ j may. pair.looks.messages t j s lt (among-bounds j (peer-is j s may).server) at watch) servers)

    pub view-same : (s : ℕ) → IsAmong five_servers.servers s → (two_watch a b).watches s ≡ true →
        view_at second words' s ≡ view_at first words s
    view-same s at watch =
        let farmers' = farmers_of second.bidders words'.bidders in
        let bidders =
        ap (λ prices. map (seen_at prices s) farmers') (ap (λ grid. grid.prices) two.agree.grids)
        ∙ bidders-same first.grid.prices s at watch (farmers_of first.bidders words.bidders) farmers' pair.mapped.bidders curves pair.shares
        in
        let masks = pair.own_masks s at watch in
        let coefficients = pair.own_coefficients s at watch in
        let rounds = rounds-same s at watch in
        λ j. record {
          server = s;
          grid = two.agree.grids j;
          bidders = bidders j;
          masks = masks j;
          coefficients = coefficients j;
          rounds = rounds j;
        }

    pub joint-same : joint_view_of a b second words' ≡ joint_view_of a b first words
    joint-same =
        let lower = view-same a (among-bounds a (some, omega (arith, less, few))) (watch-lower a b) in
        let higher = view-same b (among-bounds b (omega (arith, some, less), few)) (watch-higher a b) in
        λ j. record { lower = lower j; higher = higher j }
