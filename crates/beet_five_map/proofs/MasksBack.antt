-- Mapped mask words of five servers: the only ones, the way back, and that they are there.
use Rattle.std.proofs.Common.{◌≡◌, ◌≢◌, ◌<◌, ◌^◌, ℕ, zero, suc, inl, inr, List, [], ◌∷◌, length, map, slice_index, slice_index_or}
use Rattle.std.proofs.Common.{Option, Some, None, refl, sym, ap, ◌∙◌, arith}
use Rattle.std.specs.Prelude.{All, option_map}
use Rattle.std.proofs.lemmas.Bool.{cases_eq, cases_lt}
use Rattle.std.proofs.lemmas.List.{ext_get_or, get_or_past}
use Rattle.std.proofs.lemmas.Nat.{xor_lt}
use Rattle.beet_field.specs.Field.{IsElement, neg_of}
use Rattle.beet_gates.specs.Each.{each}
use Rattle.beet_gates.proofs.EachFacts.{item-each, length-each}
use Rattle.beet_masking.specs.Masks.{mask_among}
use Rattle.beet_masking.proofs.AlikeMasks.{Alike, compared-same}
use Rattle.beet_masking.proofs.Places.{some-place}
use Rattle.beet_masking.proofs.Words.{among-five}
use Rattle.beet_turned.specs.MappedMasks.{word_mapped}
use Rattle.beet_turned.proofs.MasksBack.{all-at, compared-map}
use Rattle.beet_turned.proofs.Turned.{turned-small}
use Rattle.beet_five_map.specs.FiveMasks.{MasksMapped, loss_among}
use Rattle.beet_five_dealing.specs.FiveWords.{AreFive}
use Rattle.beet_five_map.proofs.MaskFacts.{all-ones, mask-turned}
use Rattle.beet_turned.proofs.MasksBack.{word-mapped-back}

-- as many lists that are the same at each place
all-lists : (u v : List (List ℕ)) → length u ≡ length v → ((k : ℕ) → slice_index_or u k [] ≡ slice_index_or v k []) → u ≡ v
all-lists [] [] e same = refl
all-lists [] (y ∷ v) e same = absurd (omega arith)
all-lists (x ∷ u) [] e same = absurd (omega arith)
all-lists (x ∷ u) (y ∷ v) e same =
    let here : x ≡ y = same 0 in
    let rest = all-lists u v (omega arith) (λ k. same (suc k)) in λ i. here i ∷ rest i

pub masks-only : (l : ℕ) (losses : List ℕ) (words u v : List (List ℕ)) → MasksMapped l losses words u →
    MasksMapped l losses words v → u ≡ v
masks-only l losses words u v a b =
    all-lists u v (a.count ∙ sym b.count) (λ k. elim (cases_eq k l) [
      | inl e ↦ rw e (ext_get_or 0 (slice_index_or u l []) (slice_index_or v l []) (a.as_long ∙ sym b.as_long)
          (λ i lt. let h : i < length (slice_index_or words l []) = omega (arith, lt, a.as_long) in a.turns i h ∙ sym (b.turns i h)))
      | inr away ↦ a.others k away ∙ sym (b.others k away)
    ])

pub masks-back : (l : ℕ) (losses : List ℕ) (words words' : List (List ℕ)) → All IsElement losses → l < length words →
    AreFive words → MasksMapped l losses words words' → MasksMapped l (map neg_of losses) words' words
masks-back l losses words words' elements within are m =
    let alike : Alike (mask_among words) (mask_among words') = record { same = all-ones l losses words words' m within } in
    record {
      count = sym m.count;
      as_long = sym m.as_long;
      turns = λ i lt.
          let h : i < length (slice_index_or words l []) = omega (arith, lt, m.as_long) in
          let loss : loss_among (map neg_of losses) words' i ≡ option_map neg_of (loss_among losses words i) =
          compared-map neg_of losses (mask_among words') i
          ∙ ap (option_map neg_of) (compared-same losses (mask_among words) (mask_among words') i alike) in
          word-mapped-back (slice_index (slice_index_or words l []) i) (mask_among words i)
          (slice_index (slice_index_or words' l []) i) (mask_among words' i) (loss_among losses words i)
          ((among-five words are.five are.small).small i)
          (λ d e. let q = some-place losses (mask_among words) i d e in all-at IsElement losses q.0 d elements q.1)
          (mask-turned l losses words words' m within i h) (m.turns i h)
          ∙ ap (word_mapped (mask_among words' i) (slice_index (slice_index_or words' l []) i)) (sym loss);
      others = λ k away. sym (m.others k away);
    }

-- the lists with one in place of that at a place
abbrev with_list : List (List ℕ) → ℕ → List ℕ → List (List ℕ)
with_list [] l y = []
with_list (w ∷ ws) zero y = y ∷ ws
with_list (w ∷ ws) (suc l) y = w ∷ with_list ws l y

with-long : (ws : List (List ℕ)) (l : ℕ) (y : List ℕ) → length (with_list ws l y) ≡ length ws
with-long [] l y = refl
with-long (w ∷ ws) zero y = refl
with-long (w ∷ ws) (suc l) y = ap (λ n. suc n) (with-long ws l y)

with-there : (ws : List (List ℕ)) (l : ℕ) (y : List ℕ) → l < length ws → slice_index_or (with_list ws l y) l [] ≡ y
with-there [] l y h = absurd (omega arith)
with-there (w ∷ ws) zero y h = refl
with-there (w ∷ ws) (suc l) y h = with-there ws l y (omega arith)

with-others : (ws : List (List ℕ)) (l : ℕ) (y : List ℕ) (k : ℕ) → k ≢ l →
    slice_index_or (with_list ws l y) k [] ≡ slice_index_or ws k []
with-others [] l y k ne = refl
with-others (w ∷ ws) zero y zero ne = absurd (ne refl)
with-others (w ∷ ws) zero y (suc k) ne = refl
with-others (w ∷ ws) (suc l) y zero ne = refl
with-others (w ∷ ws) (suc l) y (suc k) ne = with-others ws l y k (λ e. ne (ap (λ n. suc n) e))

mapped-small : (mask word : ℕ) (loss : Option ℕ) → mask < 2 ^ 61 → word < 2 ^ 61 → word_mapped mask word loss < 2 ^ 61
mapped-small mask word None h l = l
mapped-small mask word (Some d) h l = xor_lt 61 _ _ (xor_lt 61 _ _ l h) (turned-small mask d h)

-- mapped words are words
pub masks-small : (l : ℕ) (losses : List ℕ) (words words' : List (List ℕ)) → AreFive words → MasksMapped l losses words words' →
    AreFive words'
masks-small l losses words words' are m = record {
  five = m.count ∙ are.five;
  small = λ k i. elim (cases_eq k l) [
    | inr away ↦ rw (m.others k away) (are.small k i)
    | inl e ↦ rw e (elim (cases_lt i (length (slice_index_or words l []))) [
      | inl lt ↦ rw (m.turns i lt) (mapped-small (mask_among words i) (slice_index (slice_index_or words l []) i)
          (loss_among losses words i) ((among-five words are.five are.small).small i) (are.small l i))
      | inr past ↦ rw (get_or_past (slice_index_or words' l []) i 0 (omega (arith, past, m.as_long))) (omega arith)
    ])
  ];
}

module _ (l : ℕ) (losses : List ℕ) (words : List (List ℕ)) (within : l < length words) (are : AreFive words) where
  abbrev mine : List ℕ
  mine = slice_index_or words l []

  abbrev rule : ℕ → ℕ
  rule i = word_mapped (mask_among words i) (slice_index mine i) (loss_among losses words i)

  there : MasksMapped l losses words (with_list words l (each rule (length mine)))
  there =
      let is = with-there words l (each rule (length mine)) within in
      record {
        count = with-long words l (each rule (length mine));
        as_long = ap length is ∙ length-each rule (length mine);
        turns = λ i lt. ap (λ list. slice_index list i) is ∙ item-each rule (length mine) i lt;
        others = with-others words l (each rule (length mine));
      }

  pub masks-image : (words' : List (List ℕ)) × AreFive words' × MasksMapped l losses words words'
  masks-image = (
    with_list words l (each rule (length mine)),
    masks-small l losses words (with_list words l (each rule (length mine))) are there,
    there,
  )
