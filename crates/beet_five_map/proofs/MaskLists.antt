-- The loop that maps the mask words of each server.
use Rattle.std.proofs.Common.{◌≡◌, ◌≢◌, ◌<◌, ◌≤◌, ◌+◌, ℕ, inl, inr, List, [], ◌∷◌, ◌++◌, length, slice_index, slice_index_or}
use Rattle.std.proofs.Common.{refl, sym, ap, ◌∙◌, arith, length-append}
use Rattle.std.proofs.lemmas.Bool.{cases_lt}
use Rattle.std.proofs.lemmas.List.{get_or-append-add, get_or_append_left, get_or_past}
use Rattle.beet_masking.specs.Masks.{mask_among}
use Rattle.beet_turned.specs.MappedMasks.{word_mapped}
use Rattle.beet_five_map.specs.FiveMasks.{MasksMapped, loss_among}

module _ (l : ℕ) (losses : List ℕ) (words : List (List ℕ)) where
  abbrev mine : List ℕ
  mine = slice_index_or words l []

  -- a list turns each mask that is compared
  abbrev Turns : List ℕ → Type 0
  Turns list = (n : ℕ) → n < length mine →
      slice_index list n ≡ word_mapped (mask_among words n) (slice_index mine n) (loss_among losses words n)

  -- the lists of so many servers
  pub record MasksTo (mapped : List (List ℕ)) (i : ℕ) : Type 0 where
    pub count : length mapped ≡ i
    pub long : (k : ℕ) → k < i → length (slice_index_or mapped k []) ≡ length (slice_index_or words k [])
    pub turns : l < i → Turns (slice_index_or mapped l [])
    pub others : (k : ℕ) → k < i → k ≢ l → slice_index_or mapped k [] ≡ slice_index_or words k []

  pub masks-none : MasksTo [] 0
  masks-none = record {
    count = refl;
    long = λ k lt. absurd (omega arith);
    turns = λ lt. absurd (omega arith);
    others = λ k lt. absurd (omega arith);
  }

  module _ (mapped : List (List ℕ)) (i : ℕ) (list : List ℕ) (to : MasksTo mapped i) where
    here : slice_index_or (mapped ++ list ∷ []) i [] ≡ list
    here =
        let e : i ≡ length mapped + 0 = omega (arith, to.count) in
        ap (λ k. slice_index_or (mapped ++ list ∷ []) k []) e ∙ get_or-append-add mapped (list ∷ []) 0 []

    before : (k : ℕ) → k < i → slice_index_or (mapped ++ list ∷ []) k [] ≡ slice_index_or mapped k []
    before k lt = get_or_append_left mapped (list ∷ []) [] k (omega (arith, to.count))

    pub masks-more : length list ≡ length (slice_index_or words i []) →
        (i ≡ l → (n : ℕ) → n < length (slice_index_or words i []) →
        slice_index list n ≡ word_mapped (mask_among words n) (slice_index (slice_index_or words i []) n) (loss_among losses words n)) →
        (i ≢ l → list ≡ slice_index_or words i []) → MasksTo (mapped ++ list ∷ []) (i + 1)
    masks-more long turns other = record {
      count = omega (arith, to.count, length-append mapped (list ∷ []));
      long = λ k lt. elim (cases_lt k i) [
        | inl low ↦ ap length (before k low) ∙ to.long k low
        | inr high ↦ let e : k ≡ i = omega arith in rw e (ap length here ∙ long)
      ];
      turns = λ lt n h. elim (cases_lt l i) [
        | inl low ↦ ap (λ x. slice_index x n) (before l low) ∙ to.turns low n h
        | inr high ↦
            let e : i ≡ l = omega arith in
            ap (λ k. slice_index (slice_index_or (mapped ++ list ∷ []) k []) n) (sym e) ∙ ap (λ x. slice_index x n) here
            ∙ turns e n (omega (arith, h, ap (λ k. length (slice_index_or words k [])) e))
            ∙ ap (λ k. word_mapped (mask_among words n) (slice_index (slice_index_or words k []) n) (loss_among losses words n)) e
      ];
      others = λ k lt ne. elim (cases_lt k i) [
        | inl low ↦ before k low ∙ to.others k low ne
        | inr high ↦
            let e : k ≡ i = omega arith in
            ap (λ x. slice_index_or (mapped ++ list ∷ []) x []) e ∙ here ∙ other (λ f. ne (e ∙ f))
            ∙ ap (λ x. slice_index_or words x []) (sym e)
      ];
    }

  pub masks-all : (mapped : List (List ℕ)) (i : ℕ) → i ≡ length words → MasksTo mapped i → MasksMapped l losses words mapped
  masks-all mapped i end to = record {
    count = to.count ∙ end;
    as_long = elim (cases_lt l i) [
      | inl low ↦ to.long l low
      | inr past ↦ ap length (nothing l past)
    ];
    turns = λ n h. elim (cases_lt l i) [
      | inl low ↦ to.turns low n h
      | inr past ↦ absurd (omega (arith, h, ap length (get_or_past words l [] (omega (arith, end, past)))))
    ];
    others = λ k ne. elim (cases_lt k i) [
      | inl low ↦ to.others k low ne
      | inr past ↦ nothing k past
    ];
  } where
    nothing : (k : ℕ) → i ≤ k → slice_index_or mapped k [] ≡ slice_index_or words k []
    nothing k past =
        get_or_past mapped k [] (omega (arith, to.count, past)) ∙ sym (get_or_past words k [] (omega (arith, end, past)))
