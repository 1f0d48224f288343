-- Words that are moved: the only ones, the way back, and that they are there.
use Rattle.std.proofs.Common.{◌≡◌, ◌<◌, ◌≤◌, ◌+◌, ◌*◌, inl, inr, ℕ, suc, Bool, true, false, List, [], ◌∷◌, length, slice_index, sym}
use Rattle.std.proofs.Common.{refl, ap, subst, ◌∙◌, arith}
use Rattle.std.proofs.lemmas.Bool.{cases_lt}
use Rattle.std.proofs.lemmas.List.{ext_get_or}
use Rattle.beet_field.specs.Field.{IsElement}
use Rattle.beet_words.specs.Words.{IsWord, accepted}
use Rattle.beet_words.specs.Words.{ones_in}
use Rattle.beet_words.proofs.WordLists.{accept_if, accepted_small, is_ones, words_same}
use Rattle.beet_words.proofs.Putting.{PutBack, put-back}
use Rattle.beet_gates.proofs.Splices.{spliced, spliced-beyond, spliced-elements, spliced-length, spliced-moves}
use Rattle.beet_linear_sharing.specs.Sharings.{Sharing, IsAmong}
use Rattle.beet_coalition.specs.Coalitions.{Coalition, moved_of}
use Rattle.beet_coalition.specs.Moved.{WordsMoved, hiding}
use Rattle.beet_linear_sharing.proofs.Laws.{SharingLaws, IsPlace, place-below, place-same, place-within, same-place}
use Rattle.beet_coalition.proofs.Laws.{CoalitionLaws, moved_back, moved_small}

-- lists with words of all ones at the same places have as many others
longer : (b : Bool) (x y : ℕ) (xs ys : List ℕ) → length ys ≡ length xs → length (accept_if b y ys) ≡ length (accept_if b x xs)
longer true x y xs ys e = e
longer false x y xs ys e = ap (λ n. suc n) e

pub accepted-long : (xs ys : List ℕ) → ones_in ys ≡ ones_in xs → length (accepted ys) ≡ length (accepted xs)
accepted-long [] [] e = refl
accepted-long [] (y ∷ ys) e = cc
accepted-long (x ∷ xs) [] e = cc
accepted-long (x ∷ xs) (y ∷ ys) e =
    let b : is_ones y ≡ is_ones x = cc in
    let rest : ones_in ys ≡ ones_in xs = cc in
    (λ i. length (accept_if (b i) y (accepted ys))) ∙ longer (is_ones x) x y (accepted xs) (accepted ys) (accepted-long xs ys rest)

module _ (q : Sharing) (c : Coalition) (laws : SharingLaws q) (count : ℕ) (value other : ℕ → ℕ) where
  -- at each place a number is moved or stays
  at-place : (words d e : List ℕ) → WordsMoved q c count value other words d → WordsMoved q c count value other words e → (n : ℕ) →
      slice_index (accepted e) n ≡ slice_index (accepted d) n
  at-place words d e m m' n = elim (cases_lt n (q.degree * count)) [
    | inl lt ↦
        let is : IsPlace q n = laws.place_of n in
        let below = place-below q is.secret is.number count (subst (λ x. x < q.degree * count) (sym is.is) lt) in
        let same : hiding q e is.secret is.number ≡ hiding q d is.secret is.number =
        m'.moves is.secret is.number below is.small ∙ sym (m.moves is.secret is.number below is.small) in
        ap (λ x. slice_index (accepted e) x) (sym is.is) ∙ same ∙ ap (λ x. slice_index (accepted d) x) is.is
    | inr past ↦ m'.rest n past ∙ sym (m.rest n past)
  ]

  pub moved-only : (words d e : List ℕ) → WordsMoved q c count value other words d → WordsMoved q c count value other words e → e ≡ d
  moved-only words d e m m' =
      let places : ones_in e ≡ ones_in d = m'.places ∙ sym m.places in
      words_same e d places (ext_get_or 0 (accepted e) (accepted d) (accepted-long d e places) (λ n lt. at-place words d e m m' n))

  pub moved-there : (words words' : List ℕ) → ((k : ℕ) → IsWord (slice_index words k)) → ((n : ℕ) → IsElement (value n)) →
      ((n : ℕ) → IsElement (other n)) →
      WordsMoved q c count value other words words' → WordsMoved q c count other value words' words
  moved-there words words' are small small' m = record {
    places = sym m.places;
    moves = λ n k lt few.
        moved_back c k (hiding q words n k) (value n) (other n) (small n) (small' n) (accepted_small words are (q.degree * n + k))
        ∙ ap (λ z. moved_of c k z (other n) (value n)) (sym (m.moves n k lt few));
    rest = λ n past. sym (m.rest n past);
  }

  -- words are there, where there are enough numbers
  module _ (words : List ℕ) (are : (k : ℕ) → IsWord (slice_index words k)) (enough : q.degree * count ≤ length (accepted words)) where
    abbrev move : ℕ → ℕ → ℕ
    move n m = moved_of c m (hiding q words n m) (value n) (other n)

    abbrev rule : ℕ → ℕ
    rule o = move (laws.place_of o).secret (laws.place_of o).number

    abbrev numbers : List ℕ
    numbers = spliced rule 0 (q.degree * count) (accepted words)

    fits : 0 + q.degree * count ≤ length (accepted words)
    fits = omega (arith, enough)

    put : PutBack words numbers
    put =
        put-back words numbers (spliced-length rule 0 (q.degree * count) (accepted words))
        (spliced-elements rule 0 (q.degree * count) (accepted words) fits
        (λ o. moved_small c (laws.place_of o).number (hiding q words (laws.place_of o).secret (laws.place_of o).number)
        (value (laws.place_of o).secret) (other (laws.place_of o).secret))
        (accepted_small words are))

    pub moved-image : (words' : List ℕ) × ((k : ℕ) → IsWord (slice_index words' k)) × WordsMoved q c count value other words words'
    moved-image = (
      put.back,
      put.are_words,
      record {
        places = put.places;
        moves = λ n k lt few.
            let o : ℕ = q.degree * n + k in
            let start : 0 + o ≡ o = omega arith in
            let is : IsPlace q o = laws.place_of o in
            let n_is : is.secret ≡ n = place-same q is.secret is.number n k is.small few is.is in
            let k_is : is.number ≡ k = same-place q is.secret is.number n k is.small few is.is in
            ap (λ l. slice_index l o) put.accepts ∙ ap (λ x. slice_index numbers x) (sym start)
            ∙ spliced-moves rule 0 (q.degree * count) (accepted words) fits o (place-within q n k count lt few)
            ∙ (λ x. move (n_is x) (k_is x));
        rest = λ n past.
            ap (λ l. slice_index l n) put.accepts ∙ spliced-beyond rule 0 (q.degree * count) (accepted words) n (omega (arith, past));
      },
    )

  -- the points at the servers that watch are the same
  pub points-same : CoalitionLaws q c → (words words' : List ℕ) → ((n : ℕ) → IsElement (other n)) →
      WordsMoved q c count value other words words' →
      (n s : ℕ) → n < count → IsAmong q.servers s → c.watches s ≡ true → q.share (other n) (hiding q words' n) s
      ≡ q.share (value n) (hiding q words n) s
  points-same watch words words' small m n s lt at is =
      laws.share_same (other n) s (hiding q words' n)
      (λ k. moved_of c k (hiding q words n k) (value n) (other n)) (λ k few. m.moves n k lt few)
      ∙ watch.moved_same s (value n) (other n) (hiding q words n) at is (small n)
