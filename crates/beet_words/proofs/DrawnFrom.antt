-- Where a tape stands from which numbers were drawn.
use Rattle.std.proofs.Common.{◌≡◌, ◌≢◌, ℕ, zero, suc, ◌+◌, ◌-◌, ◌<◌, ◌==◌, not, if◌then◌else◌, Bool, true, false, List}
use Rattle.std.proofs.Common.{[], ◌∷◌, length, get_or, drop, arith, refl, sym, ◌∙◌, ap, inl, inr}
use Rattle.std.proofs.lemmas.Bool.{cases_Bool}
use Rattle.std.proofs.lemmas.Bool.Decides.{nat_tests}
use Rattle.std.proofs.lemmas.List.{drop-drop, get_or-drop, length-drop}
use Rattle.beet_words.specs.Words.{accepted, ones}
use Rattle.beet_words.specs.Tapes.{Tape, Draws, drawn_from, left_of, words_passed}

pub none-passed : (words : List ℕ) → words_passed words 0 ≡ 0
none-passed [] = refl
none-passed (w ∷ ws) = refl

-- what is left of the words
left-step : (b : Bool) (w n : ℕ) (ws : List ℕ) → ((m : ℕ) → accepted (drop (words_passed ws m) ws) ≡ drop m (accepted ws)) →
    accepted (drop (words_passed ws (if b then suc n else n)) ws) ≡ drop (suc n) (if not b then w ∷ accepted ws else accepted ws)
left-step true w n ws h = h (suc n)
left-step false w n ws h = h n

pub left-passed : (words : List ℕ) (n : ℕ) → accepted (drop (words_passed words n) words) ≡ drop n (accepted words)
left-passed [] zero = refl
left-passed [] (suc n) = refl
left-passed (w ∷ ws) zero = refl
left-passed (w ∷ ws) (suc n) = left-step (w == ones) w n ws (left-passed ws)

-- numbers that are drawn in two turns
again-step : (b : Bool) (m n : ℕ) (ws : List ℕ) →
    ((k : ℕ) → words_passed ws (k + n) ≡ words_passed ws k + words_passed (drop (words_passed ws k) ws) n) →
    suc (words_passed ws (if b then suc (m + n) else (m + n)))
    ≡ suc (words_passed ws (if b then suc m else m)) + words_passed (drop (words_passed ws (if b then suc m else m)) ws) n
again-step true m n ws h =
    let one : suc m + n ≡ suc (m + n) = omega arith in
    let here = ap (words_passed ws) (sym one) ∙ h (suc m) in
    omega (arith, here)
again-step false m n ws h = let here = h m in omega (arith, here)

pub passed-again : (words : List ℕ) (m n : ℕ) →
    words_passed words (m + n) ≡ words_passed words m + words_passed (drop (words_passed words m) words) n
passed-again [] m n = refl
passed-again (w ∷ ws) zero n =
    let none : 0 + n ≡ n = omega arith in
    let here = ap (words_passed (w ∷ ws)) none in
    omega (arith, here)
passed-again (w ∷ ws) (suc m) n =
    let one : suc m + n ≡ suc (m + n) = omega arith in
    ap (words_passed (w ∷ ws)) one ∙ again-step (w == ones) m n ws (λ k. passed-again ws k n)

-- a word that is drawn is one fewer of those that are left
fewer : (ws : List ℕ) (q : ℕ) → q < length ws → get_or ws q 0 ≢ ones → length (accepted (drop (suc q) ws)) < length (accepted ws)
fewer [] q lt apart = absurd (omega (arith, lt))
fewer (w ∷ ws) zero lt apart = elim (cases_Bool (w == ones)) [
  | inl e ↦ let same : w ≡ ones = grind (arith, nat_tests, e) in absurd (apart same)
  | inr e ↦ rw e (omega arith)
]
fewer (w ∷ ws) (suc q) lt apart =
    let less = fewer ws q (omega (arith, lt)) apart in
    elim (cases_Bool (w == ones)) [
      | inl e ↦ rw e less
      | inr e ↦ rw e (omega (arith, less))
    ]

-- the next number is the first word that is accepted
first-passed : (ws : List ℕ) (q : ℕ) → q < length ws → get_or ws q 0 ≢ ones →
    length (accepted ws) ≡ suc (length (accepted (drop (suc q) ws))) → words_passed ws 1 ≡ suc q
first-passed [] q lt apart count = absurd (omega (arith, lt))
first-passed (w ∷ ws) zero lt apart count = elim (cases_Bool (w == ones)) [
  | inl e ↦ let same : w ≡ ones = grind (arith, nat_tests, e) in absurd (apart same)
  | inr e ↦ rw e (ap suc (none-passed ws))
]
first-passed (w ∷ ws) (suc q) lt apart count = elim (cases_Bool (w == ones)) [
  | inl e ↦ rw e (ap suc (first-passed ws q (omega (arith, lt)) apart (rw e at count)))
  | inr e ↦
      let here = rw e at count in
      let less = fewer ws q (omega (arith, lt)) apart in
      absurd (omega (arith, here, less))
]

-- the tape before a number is drawn, and after it
pub draws-one : (old new : Tape) (number : ℕ) → Draws old new number → new ≡ drawn_from old 1
draws-one old new number d =
    let ws = drop old.passed old.words in
    let q = new.passed - (old.passed + 1) in
    let there : old.passed + q ≡ new.passed - 1 = omega (arith, d.forward) in
    let within : q < length ws = omega (arith, d.forward, d.within, length-drop old.passed old.words) in
    let item : get_or ws q 0 ≡ number = get_or-drop old.passed old.words q 0 ∙ ap (λ k. get_or old.words k 0) there ∙ d.at_word in
    let rest : drop (suc q) ws ≡ drop new.passed new.words =
    drop-drop (suc q) old.passed old.words ∙ ap (λ k. drop k old.words) (omega (arith, d.forward)) ∙ ap (drop new.passed) (sym d.words) in
    let count : length (accepted ws) ≡ suc (length (accepted (drop (suc q) ws))) =
    ap length d.next ∙ ap (λ l. suc (length (accepted l))) (sym rest) in
    let first = first-passed ws q within (λ e. d.accepted_word (sym item ∙ e)) count in
    let place : new.passed ≡ old.passed + words_passed ws 1 = omega (arith, first, d.forward) in
    λ i. record { words = d.words i; passed = place i }

pub drawn-none : (tape : Tape) → drawn_from tape 0 ≡ tape
drawn-none tape =
    let none = none-passed (drop tape.passed tape.words) in
    let place : tape.passed + words_passed (drop tape.passed tape.words) 0 ≡ tape.passed = omega (arith, none) in
    λ i. record tape { passed = place i }

pub drawn-again : (tape : Tape) (m n : ℕ) → drawn_from (drawn_from tape m) n ≡ drawn_from tape (m + n)
drawn-again tape m n =
    let ws = drop tape.passed tape.words in
    let more = passed-again ws m n in
    let rest = ap (λ l. words_passed l n) (drop-drop (words_passed ws m) tape.passed tape.words) in
    let place : tape.passed + words_passed ws m + words_passed (drop (tape.passed + words_passed ws m) tape.words) n
    ≡ tape.passed + words_passed ws (m + n) = omega (arith, more, rest) in
    λ i. record tape { passed = place i }

pub left-drawn : (tape : Tape) (n : ℕ) → left_of (drawn_from tape n) ≡ drop n (left_of tape)
left-drawn tape n =
    let ws = drop tape.passed tape.words in
    ap accepted (sym (drop-drop (words_passed ws n) tape.passed tape.words)) ∙ left-passed ws n
