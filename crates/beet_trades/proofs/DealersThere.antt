-- Words of a second world of those who deal.
use Rattle.std.proofs.Common.{◌≡◌, ◌≤◌, ◌+◌, ℕ, zero, suc, inl, inr, List, [], ◌∷◌, map, length, slice_index, slice_get}
use Rattle.std.proofs.Common.{Some, refl, sym, ap, subst, ◌∙◌, arith}
use Rattle.std.specs.Prelude.{All}
use Rattle.std.proofs.lemmas.List.Elements.{All-cons, All-from_get_or, All-head, All-tail}
use Rattle.std.proofs.lemmas.Option.{same_Some}
use Rattle.beet_field.specs.declared.point.Point.{Point}
use Rattle.beet_words.specs.Words.{IsWord, accepted}
use Rattle.beet_words.proofs.Putting.{PutBack, put-back}
use Rattle.beet_gates.proofs.Splices.{spliced, spliced-beyond, spliced-elements, spliced-length, spliced-moves}
use Rattle.beet_map.specs.Mapped.{moved_of}
use Rattle.beet_map_laws.proofs.Reaching.{moved-small}
use Rattle.beet_mapped.specs.Dealers.{Party, Dealer, DealerMapped, DealersMapped, SlopesMoved, dealers_of}
use Rattle.beet_mapped.proofs.DealerFacts.{known-or}
use Rattle.beet_mapped.proofs.EachMapped.{dealer}
use Rattle.beet_mapped.proofs.WordPlaces.{accepted-small}

-- one list of words that deals other quantities
module _ (s : Point) (one other : List ℕ) (words : List ℕ) (all : All IsWord words) (enough : length one ≤ length (accepted words)) where
  abbrev wanted : ℕ
  wanted = length one

  pub record Moved : Type 0 where
    pub list : List ℕ
    pub moves : SlopesMoved s one other words list
    pub are_words : All IsWord list

  abbrev rule : ℕ → ℕ
  rule n = moved_of s (slice_index (accepted words) n) (slice_index one n) (slice_index other n)

  abbrev numbers : List ℕ
  numbers = spliced rule 0 wanted (accepted words)

  fits : 0 + wanted ≤ length (accepted words)
  fits = omega (arith, enough)

  put : PutBack words numbers
  put =
      put-back words numbers (spliced-length rule 0 wanted (accepted words))
      (spliced-elements rule 0 wanted (accepted words) fits
      (λ k. moved-small s (slice_index (accepted words) k) (slice_index one k) (slice_index other k)) (accepted-small words all))

  pub moved : Moved
  moved = record {
    list = put.back;
    moves = record {
      places = put.places;
      moves = λ n lt.
          let here : n ≡ 0 + n = omega arith in
          ap (λ l. slice_index l n) put.accepts ∙ ap (λ k. slice_index numbers k) here
          ∙ spliced-moves rule 0 wanted (accepted words) fits n lt;
      rest = λ n le. ap (λ l. slice_index l n) put.accepts ∙ spliced-beyond rule 0 wanted (accepted words) n (omega (arith, le));
    };
    are_words = All-from_get_or IsWord put.back 0 (λ i lt. put.are_words i);
  }

-- one party
pub record MovedDealer (s : Point) (one other : Party) (words : List ℕ) : Type 0 where
  pub list : List ℕ
  pub mapped : DealerMapped s (dealer one words) (dealer other list)
  pub are_words : All IsWord list

dealer-moved : (s : Point) (one other : Party) (words : List ℕ) → other.known ≡ one.known →
    length other.quantities ≡ length one.quantities → All IsWord words →
    length one.quantities ≤ length (accepted words) → MovedDealer s one other words
dealer-moved s one other words same count all enough = elim (known-or one.known s) [
  | inl known ↦ record {
    list = words;
    mapped = record { known = same; count = count; own = λ e. refl; moved = λ ne. absurd (ne known) };
    are_words = all;
  }
  | inr unknown ↦
      let m = moved s one.quantities other.quantities words all enough in
      record {
        list = m.list;
        mapped = record { known = same; count = count; own = λ e. absurd (unknown e); moved = λ ne. m.moves };
        are_words = m.are_words;
      }
]

-- all parties
module _ (s : Point) where
  mapped-more : (f g : Dealer) (fs gs : List Dealer) → DealerMapped s f g → DealersMapped s fs gs → DealersMapped s (f ∷ fs) (g ∷ gs)
  mapped-more f g fs gs m ms = record { count = omega (arith, ms.count); each_one = each_one } where
    each_one : (k : ℕ) (one other : Dealer) → slice_get (f ∷ fs) k ≡ Some one → slice_get (g ∷ gs) k ≡ Some other → DealerMapped s one other
    each_one zero one other e h = subst (λ x. DealerMapped s x other) (same_Some f one e)
        (subst (λ y. DealerMapped s f y) (same_Some g other h) m)
    each_one (suc k) one other e h = ms.each_one k one other e h

  pub record MovedDealers (parties others : List Party) (words : List (List ℕ)) : Type 0 where
    pub lists : List (List ℕ)
    pub count : length lists ≡ length words
    pub mapped : DealersMapped s (dealers_of parties words) (dealers_of others lists)
    pub are_words : All (λ list. All IsWord list) lists

  moved-more : (b o : Party) (w : List ℕ) (bs os : List Party) (ws : List (List ℕ)) → MovedDealer s b o w → MovedDealers bs os ws →
      MovedDealers (b ∷ bs) (o ∷ os) (w ∷ ws)
  moved-more b o w bs os ws m r = record {
    lists = m.list ∷ r.lists;
    count = omega (arith, r.count);
    mapped = mapped-more (dealer b w) (dealer o m.list) (dealers_of bs ws) (dealers_of os r.lists) m.mapped r.mapped;
    are_words = All-cons (λ list. All IsWord list) m.list r.lists m.are_words r.are_words;
  }

  module _ (wanted : ℕ) where
    abbrev deals : Party → Type 0
    deals party = length party.quantities ≡ wanted

    abbrev can_deal : List ℕ → Type 0
    can_deal list = wanted ≤ length (accepted list)

    pub dealers-there : (parties others : List Party) (words : List (List ℕ)) → length words ≡ length parties →
        map (λ (b : Party). b.known) others ≡ map (λ (b : Party). b.known) parties → All deals parties → All deals others →
        All (λ list. All IsWord list) words → All can_deal words → MovedDealers parties others words
    dealers-there [] [] [] count marks d d' all enough = record {
      lists = [];
      count = refl;
      mapped = record { count = refl; each_one = λ k one other e h. cc e };
      are_words = all;
    }
    dealers-there [] [] (w ∷ ws) count marks d d' all enough = absurd (omega (arith, count))
    dealers-there [] (o ∷ os) words count marks d d' all enough = cc marks
    dealers-there (b ∷ bs) [] words count marks d d' all enough = cc marks
    dealers-there (b ∷ bs) (o ∷ os) [] count marks d d' all enough = absurd (omega (arith, count))
    dealers-there (b ∷ bs) (o ∷ os) (w ∷ ws) count marks d d' all enough =
        let here : o.known ≡ b.known = cc marks in
        let others : map (λ (b : Party). b.known) os ≡ map (λ (b : Party). b.known) bs = cc marks in
        let long : length ws ≡ length bs = omega (arith, count) in
        let many : length b.quantities ≡ wanted = All-head deals b bs d in
        let many' : length o.quantities ≡ wanted = All-head deals o os d' in
        let fits : wanted ≤ length (accepted w) = All-head can_deal w ws enough in
        moved-more b o w bs os ws (dealer-moved s b o w here (many' ∙ sym many)
        (All-head (λ list. All IsWord list) w ws all) (omega (arith, many, fits)))
        (dealers-there bs os ws long others (All-tail deals b bs d) (All-tail deals o os d') (All-tail (λ list. All IsWord list) w ws all)
        (All-tail can_deal w ws enough))
