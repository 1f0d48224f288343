-- Mask words are mapped back, and in one way.
use Rattle.std.proofs.Common.{◌≡◌, inl, inr, ℕ, ◌^◌, ◌<◌, List, map, length, slice_index, slice_get, Option, Some}
use Rattle.std.proofs.Common.{None, refl, sym, ap, subst, ◌∙◌, arith}
use Rattle.std.specs.Prelude.{All, nat_le, bit_xor, option_map, unwrap_or}
use Rattle.std.proofs.lemmas.Bool.{cases_Bool}
use Rattle.std.proofs.lemmas.List.{ext_get_or}
use Rattle.std.proofs.lemmas.Option.{slice_get-map, slice_get_within, unwrap_or-slice_get}
use Rattle.beet_field.specs.Field.{IsElement, add_of, neg_of}
use Rattle.beet_field.specs.Trio.{member}
use Rattle.beet_field.specs.declared.point.Point.{Point}
use Rattle.beet_field.specs.declared.point.Point.TheVariants.{One, Two, Three}
use Rattle.beet_field.specs.declared.trio.Trio.{Trio}
use Rattle.beet_masking.specs.Compared.{item_after, item_compared}
use Rattle.beet_masking.specs.Masks.{AreMasks, mask_at, is_accepted}
use Rattle.beet_masking.specs.declared.TheConstants.{SPARE_MASKS}
use Rattle.beet_round.specs.Sides.{peer}
use Rattle.beet_round.specs.declared.sides.Side.TheVariants.{Low}
use Rattle.beet_turned.specs.Turn.{turned}
use Rattle.beet_turned.specs.MappedMasks.{MasksMapped, loss_in, mask_mapped, word_mapped}
use Rattle.beet_turned.proofs.MaskFacts.{mask-turned, mask-ones}
use Rattle.beet_masking.proofs.AlikeMasks.{Alike, compared-same}
use Rattle.beet_turned.proofs.Turned.{turned-undone, word-back}
use Rattle.beet_masking.proofs.Words.{mask-small}
use Rattle.beet_masking.proofs.Places.{some-place}

-- what is compared for the images of items
pub compared-map : {A B : Type 0} (f : A → B) (items : List A) (masks : ℕ → ℕ) (i : ℕ) →
    item_compared (map f items) masks i ≡ option_map f (item_compared items masks i)
compared-map f items masks i = by (masks i) _ _ where
  by : (mask rejected accepted : ℕ) →
      item_after (map f items) mask rejected accepted ≡ option_map f (item_after items mask rejected accepted)
  by mask rejected accepted = elim (cases_Bool (is_accepted mask)) [
    | inr f ↦ rw f refl
    | inl t ↦ elim (cases_Bool (nat_le rejected SPARE_MASKS)) [
      | inr many ↦ rw (t, many) refl
      | inl few ↦ rw (t, few) (slice_get-map f items accepted)
    ]
  ]

-- what holds of all items holds of the one at a place
pub all-at : {A : Type 0} (P : A → Type 0) (xs : List A) (k : ℕ) (x : A) → All P xs → slice_get xs k ≡ Some x → P x
all-at P xs k x all e =
    let is = sym (unwrap_or-slice_get xs k x) ∙ ap (λ o. unwrap_or o x) e in subst P is (all k x (slice_get_within xs k x e))

nothing-lost : (d : ℕ) → IsElement d → add_of d (neg_of d) ≡ 0
nothing-lost d h = omega arith

pub word-mapped-back : (word mask word' mask' : ℕ) (loss : Option ℕ) → mask < 2 ^ 61 → ((d : ℕ) → loss ≡ Some d → IsElement d) →
    mask' ≡ mask_mapped mask loss → word' ≡ word_mapped mask word loss → word ≡ word_mapped mask' word' (option_map neg_of loss)
word-mapped-back word mask word' mask' None small below m w = sym w
word-mapped-back word mask word' mask' (Some d) small below m w =
    let r = turned mask d in
    let back : turned mask' (neg_of d) ≡ mask =
    ap (λ x. turned x (neg_of d)) m ∙ turned-undone mask d (neg_of d) small (nothing-lost d (below d refl)) in
    sym (word-back word mask r) ∙ sym (λ j. bit_xor (bit_xor (w j) (m j)) (back j))

module _ (s : Point) (losses : List ℕ) (elements : All IsElement losses) (words words' : Trio (List ℕ)) (small : AreMasks words) where
  pub masks-back : MasksMapped s losses words words' → MasksMapped s (map neg_of losses) words' words
  masks-back mapped =
      let l = peer s Low in
      let alike : Alike (mask_at words) (mask_at words') = record { same = mask-ones losses words words' s mapped } in
      record {
        lengths = λ j. sym (mapped.lengths j);
        turns = λ i lt.
            let h : i < length (member words l) = omega (arith, mapped.lengths l) in
            let loss : loss_in (map neg_of losses) words' i ≡ option_map neg_of (loss_in losses words i) =
            compared-map neg_of losses (mask_at words') i
            ∙ ap (option_map neg_of) (compared-same losses (mask_at words) (mask_at words') i alike) in
            word-mapped-back (slice_index (member words l) i) (mask_at words i) (slice_index (member words' l) i)
            (mask_at words' i) (loss_in losses words i)
            (mask-small words small i) (λ d e. let q = some-place losses (mask_at words) i d e in all-at IsElement
            losses q.0 d elements q.1) (mask-turned losses words words' s mapped i h) (mapped.turns i h)
            ∙ ap (word_mapped (mask_at words' i) (slice_index (member words' l) i)) (sym loss);
        others = λ j ne. sym (mapped.others j ne);
      }

module _ (losses : List ℕ) (words : Trio (List ℕ)) where
  lower-only : (s : Point) (u v : Trio (List ℕ)) → MasksMapped s losses words u → MasksMapped s losses words v →
      member u (peer s Low) ≡ member v (peer s Low)
  lower-only s u v a b =
      let l = peer s Low in
      ext_get_or 0 (member u l) (member v l) (a.lengths l ∙ sym (b.lengths l))
      (λ i lt. let h : i < length (member words l) = omega (arith, a.lengths l) in a.turns i h ∙ sym (b.turns i h))

  pub masks-only : (s : Point) (u v : Trio (List ℕ)) → MasksMapped s losses words u → MasksMapped s losses words v → u ≡ v
  masks-only One u v a b = λ j. record {
    one = (a.others One (λ e. cc) ∙ sym (b.others One (λ e. cc))) j;
    two = lower-only One u v a b j;
    three = (a.others Three (λ e. cc) ∙ sym (b.others Three (λ e. cc))) j;
  }
  masks-only Two u v a b = λ j. record {
    one = lower-only Two u v a b j;
    two = (a.others Two (λ e. cc) ∙ sym (b.others Two (λ e. cc))) j;
    three = (a.others Three (λ e. cc) ∙ sym (b.others Three (λ e. cc))) j;
  }
  masks-only Three u v a b = λ j. record {
    one = lower-only Three u v a b j;
    two = (a.others Two (λ e. cc) ∙ sym (b.others Two (λ e. cc))) j;
    three = (a.others Three (λ e. cc) ∙ sym (b.others Three (λ e. cc))) j;
  }
