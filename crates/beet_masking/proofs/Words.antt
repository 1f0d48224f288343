-- Mask words, and the deals of them.
use Rattle.std.proofs.Common.{◌≡◌, ℕ, zero, suc, ◌^◌, ◌<◌, inl, inr, List, [], ◌∷◌, length, slice_index, slice_index_or, refl, ◌∙◌, arith}
use Rattle.std.specs.Prelude.{All, bit_xor}
use Rattle.std.proofs.lemmas.Bool.{cases_lt}
use Rattle.std.proofs.lemmas.List.{get_or_past, length-map}
use Rattle.std.proofs.lemmas.List.Elements.{All-get_or}
use Rattle.std.proofs.lemmas.Nat.{xor_lt}
use Rattle.beet_field.specs.declared.trio.Trio.{Trio}
use Rattle.beet_words.specs.Words.{IsWord}
use Rattle.beet_gates.specs.Deals.{deals_of}
use Rattle.beet_mask.specs.Mask.{bits_of, xor_of, xor_with}
use Rattle.beet_masking.specs.Masks.{AreMasks, dealt_at, mask_among, mask_at, words_at}
use Rattle.beet_masking.proofs.BlockLaws.{AreSmall}

-- each deal hands out the bits of so many words, whose exclusive or is the mask
pub record Deals (n : ℕ) (deals : ℕ → List ℕ) (masks : ℕ → ℕ) : Type 0 where
  pub words : ℕ → List ℕ
  pub count : (i : ℕ) → length (words i) ≡ n
  pub bits : (i : ℕ) → deals i ≡ bits_of (words i)
  pub mask : (i : ℕ) → masks i ≡ xor_of (words i)
  pub small_words : (i : ℕ) → AreSmall (words i)
  pub small : (i : ℕ) → masks i < 2 ^ 61

-- a word at any place, past the end too, where it is read as 0
pub word-small : (words : List ℕ) → All IsWord words → (i : ℕ) → slice_index words i < 2 ^ 61
word-small words all i = elim (cases_lt i (length words)) [
  | inl h ↦ All-get_or IsWord words i 0 h all
  | inr past ↦ rw (get_or_past words i 0 past) (omega arith)
]

pub mask-small : (words : Trio (List ℕ)) → AreMasks words → (i : ℕ) → mask_at words i < 2 ^ 61
mask-small words m i = xor_lt 61 _ _ (xor_lt 61 _ _ (word-small words.one m.one i) (word-small words.two m.two i))
    (word-small words.three m.three i)

-- each deal hands out the bits of three words
pub deals-words : (words : Trio (List ℕ)) → AreMasks words → Deals 3 (deals_of words) (mask_at words)
deals-words words m = record {
  words = λ i. slice_index words.one i ∷ slice_index words.two i ∷ slice_index words.three i ∷ [];
  count = λ i. refl;
  bits = λ i. refl;
  mask = λ i. refl;
  small_words = λ i. three i;
  small = mask-small words m;
} where
  three : (i : ℕ) → AreSmall (slice_index words.one i ∷ slice_index words.two i ∷ slice_index words.three i ∷ [])
  three i zero = word-small words.one m.one i
  three i (suc zero) = word-small words.two m.two i
  three i (suc (suc zero)) = word-small words.three m.three i
  three i (suc (suc (suc k))) = omega arith

-- words below 2^61 have such an exclusive or
xor_with-small : (w : ℕ) (ws : List ℕ) → w < 2 ^ 61 → AreSmall ws → xor_with w ws < 2 ^ 61
xor_with-small w [] h few = h
xor_with-small w (x ∷ xs) h few = xor_with-small (bit_xor w x) xs (xor_lt 61 w x h (few 0)) (λ k. few (suc k))

xor_of-small : (ws : List ℕ) → AreSmall ws → xor_of ws < 2 ^ 61
xor_of-small [] few = omega arith
xor_of-small (w ∷ ws) few = xor_with-small w ws (few 0) (λ k. few (suc k))

words_at-small : (words : List (List ℕ)) → ((k i : ℕ) → slice_index (slice_index_or words k []) i < 2 ^ 61) → (i : ℕ) →
    AreSmall (words_at words i)
words_at-small [] few i k = omega arith
words_at-small (w ∷ ws) few i zero = few 0 i
words_at-small (w ∷ ws) few i (suc k) = words_at-small ws (λ n. few (suc n)) i k

pub among-five : (words : List (List ℕ)) → length words ≡ 5 → ((k i : ℕ) → slice_index (slice_index_or words k []) i < 2 ^ 61) →
    Deals 5 (dealt_at words) (mask_among words)
among-five words five few = record {
  words = words_at words;
  count = λ i. length-map words (λ (list : List ℕ). slice_index list i) ∙ five;
  bits = λ i. refl;
  mask = λ i. refl;
  small_words = words_at-small words few;
  small = λ i. xor_of-small (words_at words i) (words_at-small words few i);
}
