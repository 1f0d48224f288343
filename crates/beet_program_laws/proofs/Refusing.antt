-- What a job has said that compares two worlds and ends with status 7, for any kind of worlds.
use Rattle.std.proofs.Common.{◌≡◌, inl, inr, ℕ, List, [], Option, Some, None, Bool, true, false, refl, sym, subst, ◌∙◌}
use Rattle.std.specs.Prelude.{if◌then◌else◌, option_map}
use Rattle.beet_store.specs.Files.{File}
use Rattle.beet_differences.specs.Comparing.{compared}
use Rattle.beet_errand.specs.Errands.{Answer, Step, answers}
use Rattle.beet_errand.specs.Fetches.{IsDone}
use Rattle.beet_errand.specs.Overs.{ReadsTo, answer_over}
use Rattle.beet_errand.specs.Tasks.{RunsTask, Shows, ToShow}
use Rattle.beet_errand.specs.declared.answer.OwnRefusal.TheVariants.{OfWorlds}
use Rattle.beet_errand.specs.declared.answer.Status.TheVariants.{Done}
use Rattle.beet_app.specs.Jobs.{Job}
use Rattle.beet_app_laws.specs.Calls.{Call, IsOf, Puts, RunsJob}
use Rattle.beet_program_laws.specs.Refusals.{RefusesWorlds}
use Rattle.beet_program_laws.proofs.Compared.{not-seven, told-apart}
use Rattle.beet_program_laws.proofs.Ends.{WentWhole, refused-answer, refused-whole}

module _ {A F : Type 0} (line : F → List ℕ) (difference : A → Option F) (step : Step A) (files : List File) (call : Call)
    (from : IsOf files call) (both : A) (read : ReadsTo files step both) (seven : call.status ≡ 7) (Agreeing : Type 0)
    (none : Agreeing → difference both ≡ None) where
  abbrev Refused : Type 0
  Refused = RefusesWorlds line (λ fault. difference both ≡ Some fault) Agreeing call

  none-some : (d : Option F) (fault : F) → d ≡ None → d ≡ Some fault → ⊥
  none-some None fault e f = absurd cc
  none-some (Some other) fault e f = absurd cc

  refused-by : (answer : Answer) → answer_over files (compared line difference step (λ both. answers Done [])) ≡ answer →
      WentWhole answer call → Refused
  refused-by answer is whole =
      let (fault, first, told) = told-apart line difference step files both read answer (sym whole.code ∙ seven) is in
      record {
        fault = fault;
        first = first;
        apart = λ agree. none-some (difference both) fault (none agree) first;
        said = subst (λ (a : Answer). Puts call a.files a.text) (sym told) whole.calls;
      }

  -- a run of the job, whose answers that show are done, has refused them
  pub refuses-worlds : (shows : Shows) →
      ((answer : Answer) → shows call.shelf call.shelf_now answer → IsDone answer.status) →
      RunsTask (ToShow OfWorlds (compared line difference step) shows) call.shelf call.shelf_now call.desk call.desk_now
      call.status → Refused
  refuses-worlds shows done (inl (answer, shown, r)) =
      let put : WentWhole answer call = refused-answer files call from seven answer r in
      absurd (not-seven answer.status (done answer shown) (sym put.code ∙ seven))
  refuses-worlds shows done (inr f) =
      let step' = compared line difference step (λ both. answers Done []) in
      let whole = refused-whole files call from seven step' (f (λ both. answers Done [])) in
      refused-by whole.answer whole.is whole.out

module _ {S : Type 0} (job_for : S → Job) (call : Call) where
  named : (RunsJob None call → ⊥) → (at seen : Option S) → seen ≡ at → RunsJob (option_map job_for at) call →
      (s : S) × (seen ≡ Some s) × RunsJob (Some (job_for s)) call
  named usage None seen e r = absurd (usage r)
  named usage (Some s) seen e r = (s, e, r)

  -- the run of the job for what a word names, if it is not that of the usage line
  pub by-words : (at : Option S) → (RunsJob None call → ⊥) → (b : Bool) →
      RunsJob (if b then option_map job_for at else None) call →
      (s : S) × (at ≡ Some s) × RunsJob (Some (job_for s)) call
  by-words at usage true r = named usage at at refl r
  by-words at usage false r = absurd (usage r)
