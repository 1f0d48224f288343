-- Words with given numbers in the places of those that are not all ones.
use Rattle.std.proofs.Common.{◌≡◌, ◌≢◌, ℕ, zero, suc, inl, inr, true, false, List, [], ◌∷◌, length, slice_index, refl}
use Rattle.std.proofs.Common.{sym, ◌∙◌, arith, eq-eqb}
use Rattle.std.proofs.lemmas.Bool.{cases_eq}
use Rattle.beet_field.specs.Field.{IsElement}
use Rattle.beet_words.specs.Words.{IsWord, accepted, ones, ones_in}
use Rattle.beet_words.proofs.WordLists.{accept_if, is_ones, not_ones}

pub record PutBack (words numbers : List ℕ) : Type 0 where
  pub back : List ℕ
  pub places : ones_in back ≡ ones_in words
  pub accepts : accepted back ≡ numbers
  pub are_words : (n : ℕ) → IsWord (slice_index back n)

words-more : (x : ℕ) (xs : List ℕ) → IsWord x → ((n : ℕ) → IsWord (slice_index xs n)) → (n : ℕ) → IsWord (slice_index (x ∷ xs) n)
words-more x xs h few zero = h
words-more x xs h few (suc n) = few n

module _ (w : ℕ) (ws : List ℕ) where
  module _ (all : w ≡ ones) where
    test : is_ones w ≡ true
    test = eq-eqb w ones all

    passed-over : length (accepted (w ∷ ws)) ≡ length (accepted ws)
    passed-over = λ i. length (accept_if (test i) w (accepted ws))

    put-ones : (numbers : List ℕ) → PutBack ws numbers → PutBack (w ∷ ws) numbers
    put-ones numbers r = record {
      back = w ∷ r.back;
      places = λ i. is_ones w ∷ r.places i;
      accepts = (λ i. accept_if (test i) w (accepted r.back)) ∙ r.accepts;
      are_words = words-more w r.back (omega (arith, all)) r.are_words;
    }

  module _ (some : w ≢ ones) where
    one-more : length (accepted (w ∷ ws)) ≡ suc (length (accepted ws))
    one-more = λ i. length (accept_if (not_ones w some i) w (accepted ws))

    put-number : (x : ℕ) (xs : List ℕ) → IsElement x → PutBack ws xs → PutBack (w ∷ ws) (x ∷ xs)
    put-number x xs small r =
        let here : is_ones x ≡ false = not_ones x (λ e. absurd (omega (arith, e, small))) in
        record {
          back = x ∷ r.back;
          places = λ i. (here ∙ sym (not_ones w some)) i ∷ r.places i;
          accepts = λ i. accept_if (here i) x (r.accepts i);
          are_words = words-more x r.back (omega (arith, small)) r.are_words;
        }

    put-next : (numbers : List ℕ) → length numbers ≡ length (accepted (w ∷ ws)) → ((n : ℕ) → IsElement (slice_index numbers n)) →
        ((xs : List ℕ) → length xs ≡ length (accepted ws) → ((n : ℕ) → IsElement (slice_index xs n)) → PutBack ws xs) →
        PutBack (w ∷ ws) numbers
    put-next [] e few rest = absurd (omega (arith, e, one-more))
    put-next (x ∷ xs) e few rest = put-number x xs (few 0) (rest xs (omega (arith, e, one-more)) (λ n. few (suc n)))

pub put-back : (words numbers : List ℕ) → length numbers ≡ length (accepted words) →
    ((n : ℕ) → IsElement (slice_index numbers n)) → PutBack words numbers
put-back [] [] e few = record { back = []; places = refl; accepts = refl; are_words = λ n. omega arith }
put-back [] (x ∷ xs) e few = absurd (omega (arith, e))
put-back (w ∷ ws) numbers e few = elim (cases_eq w ones) [
  | inl all ↦ put-ones w ws all numbers (put-back ws numbers (e ∙ passed-over w ws all) few)
  | inr some ↦ put-next w ws some numbers e few (λ xs l h. put-back ws xs l h)
]
