-- Whether a server has enough words.
use Rattle.std.proofs.Common.{◌≡◌, ◌≤◌, ℕ, Result, length, Ok, refl, subst}
use Rattle.beet_field.specs.declared.trio.Trio.{Trio}
use Rattle.beet_words.specs.Words.{accepted}
use Rattle.beet_errand.specs.Fetches.{Tests}
use Rattle.beet_load.specs.Servers.{ServerWords, enough_of, enough_of_all}
use Rattle.beet_errand.specs.declared.answer.Stop.{Stop}
use Rattle.beet_load.specs.declared.wanted.Wanted.{Wanted}
use Rattle.beet_load.proofs.Farming.{lt_false}

-- both counts are enough
pub counts_pass : (wanted : Wanted) (server : ℕ) (words : ServerWords) → wanted.counts.coefficients ≤ length (accepted words.coefficients) →
    wanted.counts.masks ≤ length words.masks → Tests (enough_of wanted server words) (Ok tt)
counts_pass wanted server words c m = record {
  passes = λ next. rw (
    lt_false (length (accepted words.coefficients)) wanted.counts.coefficients c,
    lt_false (length words.masks) wanted.counts.masks m,
  ) refl;
  cause = λ count. refl;
}

-- the words that are tested are those that were cut, and what the test tells is handed on
pub cut_tested : (wanted : Wanted) {words cut : Trio ServerWords} {given result : Result (Unit {0}) Stop} → words ≡ cut → given ≡ result →
    Tests (enough_of_all wanted words) given → Tests (enough_of_all wanted cut) result
cut_tested wanted {words = words} {result = result} e f t =
    subst (λ servers. Tests (enough_of_all wanted servers) result) e (subst (Tests (enough_of_all wanted words)) f t)
