-- Bidders' words among five servers: the only ones that are mapped, the way back, and that they are there.
use Rattle.std.proofs.Common.{◌≡◌, ℕ, ◌*◌, ◌≤◌, List, [], ◌∷◌, map, length, slice_index, refl, sym, ◌∙◌, ap, subst}
use Rattle.std.proofs.Common.{inl, inr, Option, zero, suc, arith}
use Rattle.std.specs.Prelude.{All}
use Rattle.std.proofs.lemmas.Bool.{cases_Bool}
use Rattle.std.proofs.lemmas.List.Elements.{All-head, All-tail}
use Rattle.beet_field.specs.declared.point.Point.{Point}
use Rattle.beet_words.specs.Words.{IsWord, accepted}
use Rattle.beet_bids.specs.Curves.{IsCurve, quantity}
use Rattle.beet_bids.specs.declared.book.Bidder.{Bidder}
use Rattle.beet_book.specs.Farmers.{BidderWithWords, farmers_of}
use Rattle.beet_book.proofs.FarmerLists.{farmers-bidders, farmers-words}
use Rattle.beet_linear_sharing.specs.Schemes.{five_servers}
use Rattle.beet_linear_sharing.proofs.Arithmetic.{five-laws}
use Rattle.beet_coalition.specs.Moved.{WordsMoved}
use Rattle.beet_coalition.specs.Watchers.{two_watch}
use Rattle.beet_coalition.proofs.ListMoves.{accepted-long, moved-image, moved-only, moved-there}
use Rattle.beet_five_dealing.specs.FiveWords.{AllAccepted, AreWordLists}
use Rattle.beet_five_map.specs.FiveWorlds.{BidderMapped, BiddersMapped, is_own, known_by}
use Rattle.beet_two_books.proofs.BidderFacts.{quantity-element}
use Rattle.beet_five_dealing.proofs.Lists.{lists-cons}

abbrev pub AreCurves : List Bidder → Type 0
AreCurves bidders = All (λ (x : Bidder). IsCurve x.curve) bidders

abbrev pub Marks : List Bidder → List (Option Point)
Marks bidders = map (λ (x : Bidder). x.known) bidders

module _ (a b prices : ℕ) where
  -- bidders with their words
  abbrev pub Mapped : List Bidder → List (List ℕ) → List Bidder → List (List ℕ) → Type 0
  Mapped bidders words others words' = BiddersMapped a b prices (farmers_of bidders words) (farmers_of others words')

  -- the only ones
  one-only : (f g h : BidderWithWords) → g.bidder ≡ h.bidder → BidderMapped a b prices f g → BidderMapped a b prices f h →
      g.words ≡ h.words
  one-only f g h same m m' = elim (cases_Bool (is_own a b f.bidder)) [
    | inl mine ↦ m.own mine ∙ sym (m'.own mine)
    | inr other ↦
        let moved : WordsMoved five_servers (two_watch a b) (2 * prices) (quantity f.bidder.curve) (quantity g.bidder.curve) f.words
        h.words =
        subst (λ (x : Bidder). WordsMoved five_servers (two_watch a b) (2 * prices) (quantity f.bidder.curve) (quantity x.curve)
        f.words h.words) (sym same) (m'.moved other) in
        moved-only five_servers (two_watch a b) five-laws (2 * prices) (quantity f.bidder.curve) (quantity g.bidder.curve)
        f.words h.words g.words moved (m.moved other)
  ]

  words-only : (fs gs hs : List BidderWithWords) → map (λ (x : BidderWithWords). x.bidder) gs ≡ map (λ (x : BidderWithWords). x.bidder) hs →
      BiddersMapped a b prices fs gs → BiddersMapped a b prices fs hs →
      map (λ (x : BidderWithWords). x.words) gs ≡ map (λ (x : BidderWithWords). x.words) hs
  words-only [] [] [] e m m' = refl
  words-only [] [] (h ∷ hs) e m m' = absurd m'
  words-only [] (g ∷ gs) hs e m m' = absurd m
  words-only (f ∷ fs) [] hs e m m' = absurd m
  words-only (f ∷ fs) (g ∷ gs) [] e m m' = absurd m'
  words-only (f ∷ fs) (g ∷ gs) (h ∷ hs) e m m' =
      let same : g.bidder ≡ h.bidder = cc in
      let others : map (λ (x : BidderWithWords). x.bidder) gs ≡ map (λ (x : BidderWithWords). x.bidder) hs = cc in
      let here = one-only f g h same m.0 m'.0 in
      let rest = words-only fs gs hs others m.1 m'.1 in λ j. here j ∷ rest j

  pub bidders-only : (bidders others : List Bidder) (words u v : List (List ℕ)) → length u ≡ length others → length v ≡ length others →
      Mapped bidders words others u → Mapped bidders words others v → u ≡ v
  bidders-only bidders others words u v e f m m' =
      farmers-words others u e
      ∙ words-only (farmers_of bidders words) (farmers_of others u) (farmers_of others v)
      (sym (farmers-bidders others u e) ∙ farmers-bidders others v f) m m'
      ∙ sym (farmers-words others v f)

  -- the way back
  one-back : (f g : BidderWithWords) → IsCurve f.bidder.curve → IsCurve g.bidder.curve → ((i : ℕ) → IsWord (slice_index f.words i)) →
      BidderMapped a b prices f g → BidderMapped a b prices g f
  one-back f g c d small m =
      let same : is_own a b g.bidder ≡ is_own a b f.bidder = ap (λ k. (two_watch a b).watches (known_by k)) m.known in
      record {
        known = sym m.known;
        own = λ mine. sym (m.own (sym same ∙ mine));
        moved = λ other. moved-there five_servers (two_watch a b) five-laws (2 * prices) (quantity f.bidder.curve)
            (quantity g.bidder.curve) f.words g.words small (quantity-element f.bidder.curve c) (quantity-element g.bidder.curve d)
            (m.moved (sym same ∙ other));
      }

  pub bidders-back : (bidders others : List Bidder) (words words' : List (List ℕ)) → length words ≡ length bidders →
      AreCurves bidders → AreCurves others → AreWordLists words → Mapped bidders words others words' →
      Mapped others words' bidders words
  bidders-back [] [] words words' e c d small m = m
  bidders-back [] (o ∷ os) words [] e c d small m = m
  bidders-back [] (o ∷ os) words (w' ∷ ws') e c d small m = absurd m
  bidders-back (x ∷ xs) others [] words' e c d small m = absurd (omega arith)
  bidders-back (x ∷ xs) [] (w ∷ ws) words' e c d small m = absurd m
  bidders-back (x ∷ xs) (o ∷ os) (w ∷ ws) [] e c d small m = absurd m
  bidders-back (x ∷ xs) (o ∷ os) (w ∷ ws) (w' ∷ ws') e c d small m =
      let curve = λ (y : Bidder). IsCurve y.curve in (
        one-back (record { bidder = x; words = w }) (record { bidder = o; words = w' }) (All-head curve x xs c) (All-head curve o os d)
            (small 0) m.0,
        bidders-back xs os ws ws' (omega arith) (All-tail curve x xs c) (All-tail curve o os d) (λ k. small (suc k)) m.1,
      )

  -- they are there
  one-image : (x o : Bidder) (list : List ℕ) → o.known ≡ x.known → ((i : ℕ) → IsWord (slice_index list i)) →
      2 * (2 * prices) ≤ length (accepted list) →
      (list' : List ℕ) × ((i : ℕ) → IsWord (slice_index list' i))
      × BidderMapped a b prices (record { bidder = x; words = list }) (record { bidder = o; words = list' })
  one-image x o list known small enough = elim (cases_Bool (is_own a b x)) [
    | inl mine ↦ (list, small, record { known = known; own = λ t. refl; moved = λ f. cc (sym mine ∙ f) })
    | inr other ↦
        let found = moved-image five_servers (two_watch a b) five-laws (2 * prices) (quantity x.curve) (quantity o.curve) list small enough
        in
        (found.0, found.1, record { known = known; own = λ t. cc (sym other ∙ t); moved = λ f. found.2 })
  ]

  pub bidders-image : (bidders others : List Bidder) (words : List (List ℕ)) → length words ≡ length bidders →
      Marks others ≡ Marks bidders → AreWordLists words → AllAccepted (2 * (2 * prices)) words →
      (words' : List (List ℕ)) × (length words' ≡ length others) × AreWordLists words' × Mapped bidders words others words'
  bidders-image [] [] words e marks small enough = ([], refl, λ k i. omega arith, tt)
  bidders-image [] (o ∷ os) words e marks small enough = cc marks
  bidders-image (x ∷ xs) [] words e marks small enough = cc marks
  bidders-image (x ∷ xs) (o ∷ os) [] e marks small enough = absurd (omega arith)
  bidders-image (x ∷ xs) (o ∷ os) (w ∷ ws) e marks small enough =
      let known : o.known ≡ x.known = cc marks in
      let others : Marks os ≡ Marks xs = cc marks in
      let here = one-image x o w known (small 0) (enough 0 (omega arith)) in
      let rest = bidders-image xs os ws (omega arith) others (λ k. small (suc k)) (λ k lt. enough (suc k) (omega arith)) in (
        here.0 ∷ rest.0,
        ap (λ n. suc n) rest.1,
        lists-cons here.0 rest.0 here.1 rest.2,
        (here.2, rest.3),
      )

  -- and are enough
  one-enough : (f g : BidderWithWords) → BidderMapped a b prices f g → length (accepted g.words) ≡ length (accepted f.words)
  one-enough f g m = elim (cases_Bool (is_own a b f.bidder)) [
    | inl mine ↦ ap (λ l. length (accepted l)) (m.own mine)
    | inr other ↦ accepted-long f.words g.words (m.moved other).places
  ]

  pub bidders-enough : (bidders others : List Bidder) (words words' : List (List ℕ)) → length words ≡ length bidders →
      length words' ≡ length others → Mapped bidders words others words' → (wanted : ℕ) → AllAccepted wanted words →
      AllAccepted wanted words'
  bidders-enough bidders others words [] e f m wanted enough k lt = absurd (omega arith)
  bidders-enough bidders [] words (w' ∷ ws') e f m wanted enough k lt = absurd (omega arith)
  bidders-enough [] (o ∷ os) words (w' ∷ ws') e f m wanted enough k lt = absurd m
  bidders-enough (x ∷ xs) (o ∷ os) [] (w' ∷ ws') e f m wanted enough k lt = absurd (omega arith)
  bidders-enough (x ∷ xs) (o ∷ os) (w ∷ ws) (w' ∷ ws') e f m wanted enough zero lt =
      let same = one-enough (record { bidder = x; words = w }) (record { bidder = o; words = w' }) m.0 in
      let here : wanted ≤ length (accepted w) = enough 0 (omega arith) in omega (arith, same, here)
  bidders-enough (x ∷ xs) (o ∷ os) (w ∷ ws) (w' ∷ ws') e f m wanted enough (suc k) lt =
      bidders-enough xs os ws ws' (omega arith) (omega arith) m.1 wanted (λ i h. enough (suc i) (omega arith)) k (omega arith)
