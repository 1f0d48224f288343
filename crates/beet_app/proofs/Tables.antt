-- Which table words belong to.
use Rattle.std.proofs.Common.{◌≡◌, ◌∷◌, [], ℕ, List, Bool, true, false, Some, ap, if◌then◌else◌, map, slice_get}
use Rattle.std.specs.Prelude.{◌||◌, codes}
use Rattle.beet_command.specs.Lines.{words_in}
use Rattle.beet_command.specs.Words.{is_word}
use Rattle.beet_app.specs.Jobs.{five_job_of, is_of_five, job_in, job_of}

pub among-five : (words : List (List ℕ)) → is_of_five words ≡ true → job_of words ≡ five_job_of words
among-five words e = ap (λ (b : Bool). if b then five_job_of words else job_in (words_in words)) e

pub among-three : (words : List (List ℕ)) → is_of_five words ≡ false → job_of words ≡ job_in (words_in words)
among-three words e = ap (λ (b : Bool). if b then five_job_of words else job_in (words_in words)) e

-- the first word tells it
pub first-names : {A : Type 0} (shown : A → List ℕ) (words : List A) (name : A) → Some name ≡ slice_get words 0 →
    is_of_five (map shown words) ≡ (is_word (shown name) (codes "five") || is_word (shown name) (codes "five_worlds"))
first-names shown [] name e = absurd cc
first-names shown (word ∷ words) name e =
    let same : word ≡ name = cc in
    ap (λ w. is_word (shown w) (codes "five") || is_word (shown w) (codes "five_worlds")) same
