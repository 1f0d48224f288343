-- Mapped words of parties: the server holds the same points, the words are mapped back, and in one way.
use Rattle.std.proofs.Common.{◌≡◌, ◌≢◌, ◌⊎◌, ℕ, suc, ◌<◌, inl, inr, List, [], ◌∷◌, map, length, slice_index, Option}
use Rattle.std.proofs.Common.{Some, None, refl, sym, ap, ◌∙◌, arith}
use Rattle.std.specs.Prelude.{All}
use Rattle.std.proofs.lemmas.Bool.{cases_lt}
use Rattle.std.proofs.lemmas.List.{ext_get_or}
use Rattle.std.proofs.lemmas.List.Elements.{All-head, All-tail, All-cons}
use Rattle.std.proofs.lemmas.Simd.{map-map}
use Rattle.beet_field.specs.Field.{IsElement}
use Rattle.beet_field.specs.declared.point.Point.{Point}
use Rattle.beet_field.specs.declared.point.Point.TheVariants.{One, Two, Three}
use Rattle.beet_shamir.specs.Line.{point_of}
use Rattle.beet_words.specs.Words.{IsWord, accepted, ones_in}
use Rattle.beet_words.proofs.WordLists.{ones-long, words_same}
use Rattle.beet_map.specs.Mapped.{moved_of}
use Rattle.beet_map.proofs.Moves.{moved_back, moved_same}
use Rattle.beet_map.proofs.Places.{element-at}
use Rattle.beet_mapped.specs.Dealers.{Party, Dealer, DealerMapped, DealersMapped, dealers_of}
use Rattle.beet_turned.proofs.MasksBack.{all-at}
use Rattle.beet_mapped.proofs.WordPlaces.{accepted-length, accepted-small}

-- the slope for the n-th quantity: the n-th number drawn from the words; and the point at i of that quantity
abbrev pub slope_for : Dealer → ℕ → ℕ
slope_for dealer n = slice_index (accepted dealer.words) n

abbrev pub point_for : Dealer → Point → ℕ → ℕ
point_for dealer i n = point_of (slice_index dealer.party.quantities n) (slope_for dealer n) i

-- a party is known to a server, or not
pub known-or : (known : Option Point) (s : Point) → (known ≡ Some s) ⊎ (known ≢ Some s)
known-or None s = inr (λ e. cc e)
known-or (Some One) One = inl refl
known-or (Some One) Two = inr (λ e. cc e)
known-or (Some One) Three = inr (λ e. cc e)
known-or (Some Two) One = inr (λ e. cc e)
known-or (Some Two) Two = inl refl
known-or (Some Two) Three = inr (λ e. cc e)
known-or (Some Three) One = inr (λ e. cc e)
known-or (Some Three) Two = inr (λ e. cc e)
known-or (Some Three) Three = inl refl

-- the quantities are numbers of the field, also what is read past the end
abbrev pub AreElements : List ℕ → Type 0
AreElements quantities = All IsElement quantities

-- one party
module _ (s : Point) (one other : Dealer) where
  pub point-same : AreElements other.party.quantities →
      (one.party.known ≡ Some s → other.party.quantities ≡ one.party.quantities) → DealerMapped s one other →
      (n : ℕ) → n < length one.party.quantities → point_for other s n ≡ point_for one s n
  point-same c own m n h = elim (known-or one.party.known s) [
    | inl known ↦ λ j. point_of (slice_index (own known j) n) (slice_index (accepted (m.own known j)) n) s
    | inr unknown ↦
        ap (λ a. point_of (slice_index other.party.quantities n) a s) ((m.moved unknown).moves n h)
        ∙ moved_same s (slope_for one n) (slice_index one.party.quantities n) (slice_index other.party.quantities n)
        (element-at other.party.quantities c n)
  ]

  dealer-back : AreElements one.party.quantities → AreElements other.party.quantities → All IsWord one.words →
      DealerMapped s one other → DealerMapped s other one
  dealer-back c d words m = record {
    known = sym m.known;
    count = sym m.count;
    own = λ e. sym (m.own (sym m.known ∙ e));
    moved = λ ne.
        let v = m.moved (λ e. ne (m.known ∙ e)) in
        record {
          places = sym v.places;
          moves = λ n h.
              moved_back s (slope_for one n) (slice_index one.party.quantities n) (slice_index other.party.quantities n)
              (element-at one.party.quantities c n) (element-at other.party.quantities d n)
              (accepted-small one.words words n)
              ∙ sym (ap (λ a. moved_of s a (slice_index other.party.quantities n) (slice_index one.party.quantities n))
              (v.moves n (omega (arith, h, m.count))));
          rest = λ n h. sym (v.rest n (omega (arith, h, m.count)));
        };
  }

module _ (s : Point) (one u v : Dealer) where
  dealer-only : u.party ≡ v.party → DealerMapped s one u → DealerMapped s one v → u ≡ v
  dealer-only same a b =
      let words : u.words ≡ v.words = elim (known-or one.party.known s) [
        | inl known ↦ a.own known ∙ sym (b.own known)
        | inr unknown ↦
            let x = a.moved unknown in
            let y = b.moved unknown in
            let places = x.places ∙ sym y.places in
            words_same u.words v.words places
            (ext_get_or 0 (accepted u.words) (accepted v.words) (accepted-length u.words v.words places)
            (λ n lt. elim (cases_lt n (length one.party.quantities)) [
              | inl h ↦
                  x.moves n h ∙ ap (λ (d : Party). moved_of s (slope_for one n) (slice_index one.party.quantities n)
                  (slice_index d.quantities n)) same
                  ∙ sym (y.moves n h)
              | inr past ↦ x.rest n past ∙ sym (y.rest n past)
            ]))
      ] in
      λ j. record { party = same j; words = words j }

-- all parties
module _ (s : Point) where
  pub first-mapped : (f g : Dealer) (fs gs : List Dealer) → DealersMapped s (f ∷ fs) (g ∷ gs) → DealerMapped s f g
  first-mapped f g fs gs m = m.each_one 0 f g refl refl

  pub rest-mapped : (f g : Dealer) (fs gs : List Dealer) → DealersMapped s (f ∷ fs) (g ∷ gs) → DealersMapped s fs gs
  rest-mapped f g fs gs m = record {
    count = (let e : length gs ≡ length fs = omega (arith, m.count) in e);
    each_one = λ k one other e h. m.each_one (suc k) one other e h;
  }

  pub dealers-only : (dealers u v : List Dealer) → map (λ (d : Dealer). d.party) u ≡ map (λ (d : Dealer). d.party) v →
      DealersMapped s dealers u → DealersMapped s dealers v → u ≡ v
  dealers-only [] [] [] e a b = refl
  dealers-only [] (g ∷ gs) v e a b = absurd (omega (arith, a.count))
  dealers-only [] [] (h ∷ hs) e a b = absurd (omega (arith, b.count))
  dealers-only (f ∷ fs) [] v e a b = absurd (omega (arith, a.count))
  dealers-only (f ∷ fs) (g ∷ gs) [] e a b = absurd (omega (arith, b.count))
  dealers-only (f ∷ fs) (g ∷ gs) (h ∷ hs) e a b =
      let head : g.party ≡ h.party = cc e in
      let tail : map (λ (d : Dealer). d.party) gs ≡ map (λ (d : Dealer). d.party) hs = cc e in
      let one = dealer-only s f g h head (first-mapped f g fs gs a) (first-mapped f h fs hs b) in
      let rest = dealers-only fs gs hs tail (rest-mapped f g fs gs a) (rest-mapped f h fs hs b) in
      λ j. one j ∷ rest j

  pub dealers-back : (dealers dealers' : List Dealer) → All (λ (d : Dealer). AreElements d.party.quantities) dealers →
      All (λ (d : Dealer). AreElements d.party.quantities) dealers' →
      All (λ (d : Dealer). All IsWord d.words) dealers → DealersMapped s dealers dealers' → DealersMapped s dealers' dealers
  dealers-back dealers dealers' c d words m = record {
    count = sym m.count;
    each_one = λ k one other e f.
        dealer-back s other one (all-at (λ (d : Dealer). AreElements d.party.quantities) dealers k other c f)
        (all-at (λ (d : Dealer). AreElements d.party.quantities) dealers' k one d e)
        (all-at (λ (d : Dealer). All IsWord d.words) dealers k other words f)
        (m.each_one k other one f e);
  }

-- parties with their words tell both
pub told-words : (parties : List Party) (words : List (List ℕ)) → length words ≡ length parties →
    words ≡ map (λ (d : Dealer). d.words) (dealers_of parties words)
told-words [] [] e = refl
told-words [] (w ∷ ws) e = absurd (omega arith)
told-words (b ∷ bs) [] e = absurd (omega arith)
told-words (b ∷ bs) (w ∷ ws) e = ap (λ l. w ∷ l) (told-words bs ws (omega arith))

pub words-told : (parties : List Party) (u v : List (List ℕ)) → length u ≡ length parties → length v ≡ length parties →
    dealers_of parties u ≡ dealers_of parties v → u ≡ v
words-told parties u v a b e = told-words parties u a ∙ ap (map (λ (d : Dealer). d.words)) e ∙ sym (told-words parties v b)

pub told-parties : (parties : List Party) (words : List (List ℕ)) → length words ≡ length parties →
    map (λ (d : Dealer). d.party) (dealers_of parties words) ≡ parties
told-parties [] words e = refl
told-parties (b ∷ bs) [] e = absurd (omega arith)
told-parties (b ∷ bs) (w ∷ ws) e = ap (λ l. b ∷ l) (told-parties bs ws (omega arith))

pub dealers-words : (parties : List Party) (words : List (List ℕ)) → All (All IsWord) words →
    All (λ (d : Dealer). All IsWord d.words) (dealers_of parties words)
dealers-words [] words all = λ k d lt. absurd (omega arith)
dealers-words (b ∷ bs) [] all = λ k d lt. absurd (omega arith)
dealers-words (b ∷ bs) (w ∷ ws) all =
    All-cons (λ (d : Dealer). All IsWord d.words) (record { party = b; words = w }) (dealers_of bs ws) (All-head (All IsWord) w ws all)
    (dealers-words bs ws (All-tail (All IsWord) w ws all))

pub dealers-elements : (parties : List Party) (words : List (List ℕ)) → All (λ (b : Party). AreElements b.quantities) parties →
    All (λ (d : Dealer). AreElements d.party.quantities) (dealers_of parties words)
dealers-elements [] words all = λ k d lt. absurd (omega arith)
dealers-elements (b ∷ bs) [] all = λ k d lt. absurd (omega arith)
dealers-elements (b ∷ bs) (w ∷ ws) all =
    All-cons (λ (d : Dealer). AreElements d.party.quantities) (record { party = b; words = w }) (dealers_of bs ws)
    (All-head (λ (b : Party). AreElements b.quantities) b bs all)
    (dealers-elements bs ws (All-tail (λ (b : Party). AreElements b.quantities) b bs all))

-- the words that are all ones stand at the same places
module _ (s : Point) where
  pub ones-same : (one other : Dealer) → DealerMapped s one other → ones_in other.words ≡ ones_in one.words
  ones-same one other m = elim (known-or one.party.known s) [
    | inl known ↦ ap ones_in (m.own known)
    | inr unknown ↦ (m.moved unknown).places
  ]

  all-ones : (dealers dealers' : List Dealer) → DealersMapped s dealers dealers' →
      map (λ (d : Dealer). ones_in d.words) dealers' ≡ map (λ (d : Dealer). ones_in d.words) dealers
  all-ones [] [] m = refl
  all-ones [] (g ∷ gs) m = absurd (omega (arith, m.count))
  all-ones (f ∷ fs) [] m = absurd (omega (arith, m.count))
  all-ones (f ∷ fs) (g ∷ gs) m =
      let here = ones-same f g (first-mapped s f g fs gs m) in
      let rest = all-ones fs gs (rest-mapped s f g fs gs m) in
      λ i. here i ∷ rest i

  pub lists-alike : (parties others : List Party) (words words' : List (List ℕ)) → length words ≡ length parties →
      length words' ≡ length others →
      DealersMapped s (dealers_of parties words) (dealers_of others words') → map ones_in words' ≡ map ones_in words
  lists-alike parties others words words' a b m =
      let of_words = λ (d : Dealer). d.words in
      ap (map ones_in) (told-words others words' b) ∙ map-map ones_in of_words (dealers_of others words')
      ∙ all-ones (dealers_of parties words) (dealers_of others words') m
      ∙ sym (ap (map ones_in) (told-words parties words a) ∙ map-map ones_in of_words (dealers_of parties words))

-- and so the lists are as long
pub lists-long : (words words' : List (List ℕ)) → map ones_in words' ≡ map ones_in words →
    map (λ list. length list) words' ≡ map (λ list. length list) words
lists-long [] [] e = refl
lists-long [] (v ∷ vs) e = cc e
lists-long (w ∷ ws) [] e = cc e
lists-long (w ∷ ws) (v ∷ vs) e =
    let head : ones_in v ≡ ones_in w = cc e in
    let tail : map ones_in vs ≡ map ones_in ws = cc e in
    let here = ones-long w v head in
    let rest = lists-long ws vs tail in
    λ i. here i ∷ rest i
