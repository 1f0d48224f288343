-- Coefficient words that go with each other.
use Rattle.std.proofs.Common.{◌≡◌, ◌+◌, ◌*◌, ◌⊎◌, inl, inr, ⊎_elim, ℕ, List, [], ◌∷◌, length, slice_index, sym, ap, ◌∙◌}
use Rattle.std.proofs.lemmas.Bool.{cases_eq}
use Rattle.beet_words.specs.Words.{IsWord, accepted}
use Rattle.beet_gates.specs.Clear.{EndsAfter}
use Rattle.beet_gates.specs.declared.Batch.{Batch}
use Rattle.beet_words.specs.Words.{ones_in}
use Rattle.beet_words.proofs.WordLists.{accepted_small, words_same}
use Rattle.beet_words.proofs.Putting.{PutBack, put-back}
use Rattle.beet_linear_sharing.specs.Sharings.{Sharing, IsAmong}
use Rattle.beet_linear_sharing.specs.Runs.{Setup, deals_among, secret_hidden, with_batch_lets}
use Rattle.beet_coalition.specs.Coalitions.{Coalition, GateMapped, moved_of, number_at, secret_at}
use Rattle.beet_coalition.specs.Premise.{MayMap, Secrets, begin_in}
use Rattle.beet_coalition.specs.Pairs.{AreElements, HasNumbers, SameNumbers}
use Rattle.beet_coalition.specs.Words.{AreWords, WordsMapped, WordsTogether, run_with}
use Rattle.beet_linear_sharing.proofs.Laws.{SharingLaws}
use Rattle.beet_coalition.proofs.Laws.{CoalitionLaws}
use Rattle.beet_coalition.proofs.Extending.{runs_agree}
use Rattle.beet_coalition.proofs.Symmetry.{map_back, may_back}
use Rattle.beet_coalition.proofs.Whole.{ends_there, image, together}

pub few_numbers : (q : Sharing) (words : ℕ → List ℕ) → AreWords q words → AreElements q (λ j. accepted (words j))
few_numbers q words are j n at = accepted_small (words j) (λ k. are j k at) n

among_or : (xs : List ℕ) (j : ℕ) → IsAmong xs j ⊎ (IsAmong xs j → ⊥)
among_or [] j = inr (λ at. at)
among_or (x ∷ xs) j = elim (cases_eq j x) [
  | inl e ↦ inl (inl e)
  | inr other ↦ elim (among_or xs j) [
    | inl at ↦ inl (inr at)
    | inr away ↦ inr (λ at. ⊎_elim (λ (e : j ≡ x). other e) (λ (there : IsAmong xs j). away there) at)
  ]
]

module _ (q : Sharing) (c : Coalition) (laws : SharingLaws q) (watch : CoalitionLaws q c) (next : ℕ → List ℕ → Batch) (rounds : ℕ) where
  -- the same numbers of the servers are mapped too
  pub gate-same : (first : Setup) (w' : Secrets) (d d' : ℕ → List ℕ) → SameNumbers q d' d →
      GateMapped q c rounds first (begin_in next w' d) →
      GateMapped q c rounds first (begin_in next w' d')
  gate-same first w' d d' same m = record {
    own = λ j at mine. same j at ∙ m.own j at mine;
    lengths = λ j at. ap length (same j at) ∙ m.lengths j at;
    moves = λ j at other t k n lt below small.
        let run = runs_agree q laws next w' d d' t (λ i x there h. ap (λ l. slice_index l x) (same i there)) in
        (λ x. slice_index (same j at x) (q.degree * ((run x).hidden + k) + n)) ∙ m.moves j at other t k n lt below small
        ∙ (λ x. moved_of c n (number_at q first t j k n) (secret_at q first t j k)
        (secret_hidden (begin_in next w' d) (with_batch_lets (next t (sym run x).opened) (sym run x)) (next t (sym run x).opened).act j k));
    rest = λ j at other n le. ap (λ l. slice_index l n) (same j at) ∙ m.rest j at other n le;
  }

  module _ (w w' : Secrets) (may : MayMap q c next rounds w w') (ends : EndsAfter next (deals_among q w.masks) w.values rounds) where
    pub words-together : (words words' : ℕ → List ℕ) → AreWords q words → WordsMapped q c next rounds w w' words words' →
        WordsTogether q c next rounds w w' words words'
    words-together words words' are m =
        let both = together q c laws watch next rounds w w' may ends
        (λ j. accepted (words j)) (λ j. accepted (words' j)) (few_numbers q words are) m.numbers in
        record {
          mapped = m;
          looks = both.looks;
          own = λ j at mine. words_same (words' j) (words j) (m.places j at) (m.numbers.own j at mine);
          only = λ e k j at. words_same (e j) (words' j) (k.places j at
              ∙ sym (m.places j at)) (both.only (λ i. accepted (e i)) k.numbers j at);
          back = λ e are' k j at.
              words_same (e j) (words j) (sym (k.places j at) ∙ m.places j at)
              (both.back (λ i. accepted (e i)) (few_numbers q e are') k.numbers j at);
        }

    -- words of the second world, from numbers of it
    module _ (words numbers' : ℕ → List ℕ) (are : AreWords q words) (few : AreElements q numbers')
        (m : GateMapped q c rounds (run_with next w words) (begin_in next w' numbers')) where
      put : (j : ℕ) → IsAmong q.servers j → PutBack (words j) (numbers' j)
      put j at = put-back (words j) (numbers' j) (m.lengths j at) (λ n. few j n at)

      of_server : (j : ℕ) → IsAmong q.servers j ⊎ (IsAmong q.servers j → ⊥) → List ℕ
      of_server j (inl at) = (put j at).back
      of_server j (inr away) = words j

      abbrev put_words : ℕ → List ℕ
      put_words j = of_server j (among_or q.servers j)

      -- what holds wherever the words were put back
      each-put : (P : ℕ → List ℕ → Type 0) → ((j : ℕ) (at : IsAmong q.servers j) → P j (put j at).back) → (j : ℕ) → IsAmong q.servers j →
          P j (put_words j)
      unfolding of_server put
      each-put P h j at = by_case (among_or q.servers j) where
        by_case : (o : IsAmong q.servers j ⊎ (IsAmong q.servers j → ⊥)) → P j (of_server j o)
        by_case (inl there) = h j there
        by_case (inr away) = absurd (away at)

      pub words_put : (words' : ℕ → List ℕ) × AreWords q words' × WordsTogether q c next rounds w w' words words'
      words_put =
          let accepts : (j : ℕ) → IsAmong q.servers j → accepted (put_words j) ≡ numbers' j =
          each-put (λ j l. accepted l ≡ numbers' j) (λ j at. (put j at).accepts) in
          let are' : AreWords q put_words =
          λ j n at. each-put (λ i l. (k : ℕ) → IsWord (slice_index l k)) (λ i there. (put i there).are_words) j at n in (
            put_words,
            are',
            words-together words put_words are (record {
              places = each-put (λ j l. ones_in l ≡ ones_in (words j)) (λ j at. (put j at).places);
              numbers = gate-same (run_with next w words) w' numbers' (λ j. accepted (put_words j)) accepts m;
            }),
          )

    pub words-image : (words : ℕ → List ℕ) → AreWords q words → HasNumbers q rounds (run_with next w words) →
        (words' : ℕ → List ℕ) × AreWords q words' × WordsTogether q c next rounds w w' words words'
    words-image words are fits =
        let found = image q c laws watch next rounds w w' may ends (λ j. accepted (words j)) (few_numbers q words are) fits in
        words_put words found.0 are found.1 found.2.mapped

  pub words-source : (w w' : Secrets) (may : MayMap q c next rounds w w') → EndsAfter next (deals_among q w.masks) w.values rounds →
      (words' : ℕ → List ℕ) → AreWords q words' → HasNumbers q rounds (run_with next w' words') →
      (words : ℕ → List ℕ) × AreWords q words × WordsTogether q c next rounds w w' words words'
  words-source w w' may ends words' are fits =
      let back : MayMap q c next rounds w' w = may_back q c laws watch next rounds w w' may in
      let found = words-image w' w back (ends_there q c laws watch next rounds w w' may ends) words' are fits in
      let m = found.2.mapped in (
        found.0,
        found.1,
        words-together w w' may ends found.0 words' found.1 (record {
          places = λ j at. sym (m.places j at);
          numbers = map_back q c laws watch next rounds w' w back
              (λ j. accepted (words' j)) (λ j. accepted (found.0 j)) (few_numbers q words' are) m.numbers;
        }),
      )
