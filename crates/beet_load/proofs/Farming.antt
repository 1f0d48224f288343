-- Whether a bidder has enough words.
use Rattle.std.proofs.Common.{◌≡◌, ◌≤◌, ◌<◌, ℕ, List, Option, length, Ok, Err, nat_lt, true, false, refl, ap, inl, inr}
use Rattle.std.proofs.Common.{arith}
use Rattle.std.specs.Prelude.{min}
use Rattle.std.proofs.lemmas.Bool.{cases_lt}
use Rattle.std.proofs.lemmas.Grind.{common_steps}
use Rattle.beet_words.specs.Words.{accepted}
use Rattle.beet_load.specs.Farmers.{enough_accepted, enough_words}
use Rattle.beet_errand.specs.Errands.{Errand}
use Rattle.beet_errand.specs.Fetches.{Tests, Refuses}
use Rattle.beet_errand.proofs.Frame.{test_refused}
use Rattle.beet_load.specs.WordTexts.{too_few_text}
use Rattle.beet_errand.specs.declared.answer.Refusal.TheVariants.{TooFewWords}
use Rattle.beet_errand.specs.declared.answer.Stop.{Stop}

pub lt_false : (m n : ℕ) → n ≤ m → nat_lt m n ≡ false
lt_false m n h = grind (arith, common_steps)

pub lt_true : (m n : ℕ) → m < n → nat_lt m n ≡ true
lt_true m n h = grind (arith, common_steps)

-- a count that is enough passes the test
pub count_passes : (lot : Option ℕ) (number wanted held : ℕ) → wanted ≤ held → Tests (enough_accepted lot number wanted held) (Ok tt)
count_passes lot number wanted held h = record { passes = λ next. rw (lt_false held wanted h) refl; cause = λ count. refl }

-- one that is too small does not
pub count_stops : (lot : Option ℕ) (number wanted held : ℕ) (stop : Stop) → held < wanted →
    Refuses TooFewWords (too_few_text lot number held wanted) stop →
    Tests (enough_accepted lot number wanted held) (Err stop)
count_stops lot number wanted held stop h r =
    test_refused TooFewWords _ stop (λ next. rw (lt_true held wanted h) refl) r (λ count. refl)

-- words that are enough pass
pub words_pass : (lot : Option ℕ) (number wanted : ℕ) (words : List ℕ) → wanted ≤ length (accepted words) →
    Tests (enough_words lot number wanted words) (Ok tt)
words_pass lot number wanted words h = count_passes lot number wanted (length (accepted words)) h

-- no more need be counted than are wanted
pub counted-enough : (lot : Option ℕ) (number wanted held : ℕ) (next : Errand) →
    enough_accepted lot number wanted (min wanted held) next ≡ enough_accepted lot number wanted held next
counted-enough lot number wanted held next = elim (cases_lt held wanted) [
  | inl few ↦
      let all : min wanted held ≡ held = omega (arith, few) in
      ap (λ n. enough_accepted lot number wanted n next) all
  | inr many ↦ rw (lt_false (min wanted held) wanted (omega (arith, many)), lt_false held wanted many) refl
]
