-- The loop that turns the words of one server.
use Rattle.std.proofs.Common.{◌≡◌, ◌≢◌, ◌≤◌, ◌<◌, ◌+◌, ◌-◌, ℕ, inl, inr, List, [], ◌∷◌, ◌++◌, length, slice_index}
use Rattle.std.proofs.Common.{get_or, Option, refl, sym, ap, ◌∙◌, arith, length-append, add-one}
use Rattle.std.specs.Prelude.{if◌then◌else◌, ◌==◌}
use Rattle.std.proofs.lemmas.Bool.{cases_lt}
use Rattle.std.proofs.lemmas.List.{get_or_append_left, get_or-append-add, get_or_default}
use Rattle.beet_field.specs.Field.{p}
use Rattle.beet_field.specs.Trio.{member}
use Rattle.beet_field.specs.declared.point.Point.{Point}
use Rattle.beet_field.specs.declared.point.Point.TheVariants.{One, Two, Three}
use Rattle.beet_field.specs.declared.trio.Trio.{Trio}
use Rattle.beet_masking.specs.Masks.{mask_at, rejected_among, accepted_among}
use Rattle.beet_round.specs.Sides.{peer}
use Rattle.beet_round.specs.declared.sides.Side.TheVariants.{Low}
use Rattle.beet_turned.specs.MappedMasks.{MasksMapped, loss_in, word_mapped}
use Rattle.beet_masking.specs.Compared.{item_after}
use Rattle.beet_masking.proofs.Places.{both-counts, passing-more}

module _ (losses : List ℕ) (masks : Trio (List ℕ)) (words : List ℕ) where
  pub record TurnedTo (out : List ℕ) (i rejected : ℕ) : Type 0 where
    pub count : length out ≡ i
    pub rejected_is : rejected ≡ length (rejected_among (mask_at masks) i)
    pub few : rejected ≤ i
    pub turns : (k : ℕ) → k < i → slice_index out k ≡ word_mapped (mask_at masks k) (slice_index words k) (loss_in losses masks k)

  last-item : (out : List ℕ) (x i : ℕ) → length out ≡ i → slice_index (out ++ x ∷ []) i ≡ x
  last-item out x i e = let h : i ≡ length out + 0 = omega arith in ap (slice_index (out ++ x ∷ [])) h ∙ get_or-append-add out (x ∷ []) 0 0

  pub turned-more : (out after : List ℕ) (i rejected rejected' mask word x : ℕ) (place : Option ℕ) → i < length words →
      TurnedTo out i rejected →
      mask ≡ mask_at masks i → word ≡ get_or words i word → place ≡ item_after losses mask rejected (i - rejected) →
      x ≡ word_mapped mask word place → after ≡ out ++ x ∷ [] → rejected' ≡ rejected + (if mask == p then 1 else 0) →
      TurnedTo after (i + 1) rejected'
  turned-more out after i rejected rejected' mask word x place lt g ms ws pl xs added rs =
      let counts = both-counts (mask_at masks) losses i in
      let acc : i - rejected ≡ length (accepted_among (mask_at masks) i) = omega (arith, counts, g.rejected_is) in
      let here : place ≡ loss_in losses masks i = pl ∙ (λ j. item_after losses (ms j) (g.rejected_is j) (acc j)) in
      let item : word ≡ slice_index words i = ws ∙ get_or_default words i word 0 lt in
      let long : length after ≡ i + 1 = ap length added ∙ length-append out (x ∷ []) ∙ ap (λ n. n + 1) g.count in
      let more : length (rejected_among (mask_at masks) (i + 1))
      ≡ length (rejected_among (mask_at masks) i) + (if mask_at masks i == p then 1 else 0) =
      ap (λ n. length (rejected_among (mask_at masks) n)) (add-one i) ∙ passing-more (λ k. mask_at masks k == p) i in
      let both : rejected' ≡ length (rejected_among (mask_at masks) (i + 1)) =
      rs ∙ (λ j. g.rejected_is j + (if ms j == p then 1 else 0)) ∙ sym more in
      record {
        count = long;
        rejected_is = both;
        few = let m = both-counts (mask_at masks) losses (i + 1) in omega (arith, m, both);
        turns = λ k h. elim (cases_lt k i) [
          | inl low ↦ ap (λ l. slice_index l k) added ∙ get_or_append_left out (x ∷ []) 0 k (omega (arith, g.count)) ∙ g.turns k low
          | inr high ↦
              let e : k ≡ i = omega arith in
              rw e (ap (λ l. slice_index l i) added ∙ last-item out x i g.count ∙ xs ∙ (λ j. word_mapped (ms j) (item j) (here j)))
        ];
      }

-- the words of all servers, of which one list turns
module _ (losses : List ℕ) (words words' : Trio (List ℕ)) where
  pub record TurnsList (server : Point) : Type 0 where
    pub same_length : length (member words' server) ≡ length (member words server)
    pub turns : (i : ℕ) → i < length (member words' server) → slice_index (member words' server) i
        ≡ word_mapped (mask_at words i) (slice_index (member words server) i) (loss_in losses words i)

  first-lengths : TurnsList One → words'.two ≡ words.two → words'.three ≡ words.three → (j : Point) →
      length (member words' j) ≡ length (member words j)
  first-lengths t two three One = t.same_length
  first-lengths t two three Two = ap length two
  first-lengths t two three Three = ap length three

  first-others : words'.two ≡ words.two → words'.three ≡ words.three → (j : Point) → j ≢ One → member words' j ≡ member words j
  first-others two three One ne = absurd (ne refl)
  first-others two three Two ne = two
  first-others two three Three ne = three

  pub first-list : (s : Point) → peer s Low ≡ One → TurnsList One → words'.two ≡ words.two →
      words'.three ≡ words.three → MasksMapped s losses words words'
  first-list One l t two three = cc l
  first-list Two l t two three = record {
    lengths = first-lengths t two three;
    turns = λ i h. t.turns i (omega (arith, t.same_length));
    others = first-others two three;
  }
  first-list Three l t two three = record {
    lengths = first-lengths t two three;
    turns = λ i h. t.turns i (omega (arith, t.same_length));
    others = first-others two three;
  }

  pub second-list : TurnsList Two → words'.one ≡ words.one → words'.three ≡ words.three → MasksMapped One losses words words'
  second-list t one three = record {
    lengths = lengths;
    turns = λ i h. t.turns i (omega (arith, t.same_length));
    others = others;
  } where
    lengths : (j : Point) → length (member words' j) ≡ length (member words j)
    lengths One = ap length one
    lengths Two = t.same_length
    lengths Three = ap length three

    others : (j : Point) → j ≢ Two → member words' j ≡ member words j
    others One ne = one
    others Two ne = absurd (ne refl)
    others Three ne = three
