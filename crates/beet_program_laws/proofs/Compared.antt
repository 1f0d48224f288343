-- Two worlds that are read and compared, for any kind of worlds and of what tells them apart.
use Rattle.std.proofs.Common.{◌≡◌, inl, inr, ℕ, List, [], Option, Some, None, refl, sym, ap, subst, ◌∙◌, arith}
use Rattle.beet_store.specs.Files.{File}
use Rattle.beet_differences.specs.Comparing.{compared, unless_apart}
use Rattle.beet_errand.specs.Errands.{Answer, Errand, Step, answers, refuses, text_answer}
use Rattle.beet_errand.specs.Fetches.{IsDone}
use Rattle.beet_errand.specs.Overs.{ReadsTo, answer_over}
use Rattle.beet_errand.specs.Statuses.{code_of}
use Rattle.beet_errand.specs.declared.answer.OwnRefusal.TheVariants.{OfWorlds}
use Rattle.beet_errand.specs.declared.answer.Refusal.TheVariants.{Own}
use Rattle.beet_errand.specs.declared.answer.Status.{Status}
use Rattle.beet_errand.specs.declared.answer.Status.TheVariants.{Done, Refused}
use Rattle.beet_errand.proofs.Statuses.{not_done}
use Rattle.beet_app_laws.proofs.Telling.{AreAlike, IsTold, same-told}
use Rattle.beet_program_laws.proofs.Steps.{Yields}

-- what is done has not the status of a refusal of worlds
pub not-seven : (status : Status) → IsDone status → code_of status ≡ 7 → ⊥
not-seven status (inl is) e = let same : 0 ≡ 7 = sym (ap code_of is) ∙ e in omega (arith, same)
not-seven status (inr is) e = let same : 6 ≡ 7 = sym (ap code_of is) ∙ e in omega (arith, same)

-- what was read of both is what any reading of them yields
module _ {A : Type 0} (step : Step A) (files : List File) (P : A → Type 0) (yields : Yields files step P) where
  pub alike-right : ((other both : A) → AreAlike other both → P other → P both) → (both : A) → ReadsTo files step both → P both
  alike-right alike both r =
      let next : A → Errand = λ v. answers Done [] in
      let (other, q, h) = yields next (subst (λ (x : Answer). IsDone x.status) (sym (r next)) (inl refl)) in
      alike other both (same-told files step other both q r) h

  pub is-right : IsTold A → (both : A) → ReadsTo files step both → P both
  is-right told = alike-right (λ other both h. subst P (told other both h))

module _ {A F : Type 0} (line : F → List ℕ) (difference : A → Option F) (step : Step A) (files : List File) where
  refused : (d : Option F) → IsDone (answer_over files (unless_apart line d (refuses (Own OfWorlds) []))).status → ⊥
  refused None done = not_done (Own OfWorlds) done
  refused (Some d) done = not_done (Own OfWorlds) done

  -- an errand that goes on from both to a refusal is not done
  pub undone : (P : A → Type 0) → Yields files step P →
      IsDone (answer_over files (compared line difference step (λ both. refuses (Own OfWorlds) []))).status → ⊥
  undone P yields done =
      let next : A → Errand = λ both. unless_apart line (difference both) (refuses (Own OfWorlds) []) in
      let (both, reads, h) = yields next done in
      refused (difference both) (subst (λ (a : Answer). IsDone a.status) (reads next) done)

  apart : (d : Option F) (answer : Answer) → code_of answer.status ≡ 7 →
      answer_over files (unless_apart line d (answers Done [])) ≡ answer →
      (fault : F) × (d ≡ Some fault) × (text_answer (Refused (Own OfWorlds)) (line fault) ≡ answer)
  apart None answer e is = absurd (not-seven answer.status (inl (sym (ap (λ (a : Answer). a.status) is))) e)
  apart (Some fault) answer e is = (fault, refl, is)

  -- worlds that are read and end with status 7 are told apart
  pub told-apart : (both : A) → ReadsTo files step both → (answer : Answer) → code_of answer.status ≡ 7 →
      answer_over files (compared line difference step (λ both. answers Done [])) ≡ answer →
      (fault : F) × (difference both ≡ Some fault) × (text_answer (Refused (Own OfWorlds)) (line fault) ≡ answer)
  told-apart both read answer e is =
      apart (difference both) answer e
      (sym (read (λ both. unless_apart line (difference both) (answers Done []))) ∙ is)
