-- The numbers among the first words of a seed.
use Rattle.std.proofs.Common.{◌≡◌, ◌≤◌, ◌+◌, ◌++◌, ◌∷◌, [], ℕ, List, length, take, drop, arith, sym, ap, ◌∙◌, length-append}
use Rattle.std.specs.Prelude.{min}
use Rattle.std.proofs.lemmas.List.{take-append-drop, take_at}
use Rattle.std.proofs.lemmas.List.FromFn.{map-range_with_len_more, take-map-range_with_len}
use Rattle.beet_words.specs.Seeds.{seed_word, seed_words}
use Rattle.beet_words.specs.Words.{accepted}
use Rattle.beet_words.proofs.WordLists.{accepted-append}

abbrev pub seed_numbers : List ℕ → ℕ → ℕ → List ℕ
seed_numbers seed stream n = accepted (seed_words seed stream n)

-- one word more
pub numbers-more : (seed : List ℕ) (stream k word : ℕ) → word ≡ seed_word seed stream k →
    seed_numbers seed stream k ++ accepted (word ∷ []) ≡ seed_numbers seed stream (k + 1)
numbers-more seed stream k word e =
    ap (λ w. seed_numbers seed stream k ++ accepted (w ∷ [])) e
    ∙ sym (accepted-append (seed_words seed stream k) (seed_word seed stream k ∷ []))
    ∙ ap accepted (sym (map-range_with_len_more (seed_word seed stream) 0 k k (omega arith)))

-- the numbers among the first words, and then the others
abbrev pub others : List ℕ → ℕ → ℕ → ℕ → List ℕ
others seed stream k n = accepted (drop k (seed_words seed stream n))

pub numbers-front : (seed : List ℕ) (stream k n : ℕ) → k ≤ n →
    seed_numbers seed stream n ≡ seed_numbers seed stream k ++ others seed stream k n
numbers-front seed stream k n le =
    ap accepted (sym (take-append-drop k (seed_words seed stream n)))
    ∙ accepted-append (take k (seed_words seed stream n)) (drop k (seed_words seed stream n))
    ∙ ap (λ front. accepted front ++ others seed stream k n) (take-map-range_with_len (seed_word seed stream) 0 n k le)

-- there is room for no more numbers than those among the first words
pub full-numbers : (seed numbers : List ℕ) (stream k n have : ℕ) → k ≤ n → have ≡ length (seed_numbers seed stream k) →
    take have numbers ≡ seed_numbers seed stream k → take have numbers ≡ take have (seed_numbers seed stream n)
full-numbers seed numbers stream k n have le e h =
    h ∙ sym (ap (take have) (numbers-front seed stream k n le)
    ∙ take_at (seed_numbers seed stream k) (others seed stream k n) have (sym e))

pub full-count : (seed : List ℕ) (stream k n have room : ℕ) → k ≤ n → have ≡ length (seed_numbers seed stream k) → have ≡ room →
    have ≡ min room (length (seed_numbers seed stream n))
full-count seed stream k n have room le e f =
    let both : length (seed_numbers seed stream n) ≡ length (seed_numbers seed stream k) + length (others seed stream k n) =
    ap (λ l. length l) (numbers-front seed stream k n le) ∙ length-append (seed_numbers seed stream k) (others seed stream k n) in
    omega (arith, both, e, f)
