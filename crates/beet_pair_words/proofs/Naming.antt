-- What runs the job that words name, job by job.
use Rattle.std.proofs.Common.{◌≡◌, ℕ, List, [], ◌∷◌, Bool, true, false, Option, Some, None, option_map, if◌then◌else◌, refl, subst}
use Rattle.std.specs.Prelude.{codes}
use Rattle.beet_field.specs.Point.{server_of}
use Rattle.beet_field.specs.declared.point.Point.{Point}
use Rattle.beet_command.specs.Words.{are_names}
use Rattle.beet_errand.specs.Errands.{Errand}
use Rattle.beet_pair_words.specs.Jobs.{Job, Answering}
use Rattle.beet_pair_words.specs.Pairs.{pair_of}

-- what runs a command with an errand of its own runs that errand, where the words name a job
pub errand-named : (Runs : Option Job → Type 0) (b : Bool) (errand : Errand) (job : Job) →
    option_map Answering (if b then Some errand else None) ≡ Some job →
    Runs (option_map Answering (if b then Some errand else None)) → Runs (Some (Answering errand))
errand-named Runs true errand job named r = r
errand-named Runs false errand job named r = absurd (cc named)

-- what runs a command `pair`
module _ {A : Type 0} (made : List ℕ → List ℕ → List ℕ → Point → List ℕ → A) (Runs : Option A → Type 0)
    (first second servers server out : List ℕ) where
  abbrev made_at : Point → A
  made_at s = made first second servers s out

  abbrev chosen : Bool → Option A
  chosen b = if b then option_map made_at (server_of server) else None

  abbrev named : Option A
  named = pair_of made (codes "pair") first second servers server out

  -- at the server that the words name, where it runs nothing for other words
  abbrev RunsAtServer : Type 0
  RunsAtServer = (s : Point) × (server_of server ≡ Some s) × Runs (Some (made_at s))

  at-server : (Runs None → ⊥) → (at : Option Point) → server_of server ≡ at → Runs (option_map made_at at) → RunsAtServer
  at-server usage None e r = absurd (usage r)
  at-server usage (Some s) e r = (s, e, r)

  by-names : (Runs None → ⊥) → (b : Bool) → Runs (chosen b) → RunsAtServer
  by-names usage true r = at-server usage (server_of server) refl r
  by-names usage false r = absurd (usage r)

  pub pair-at-server : (Runs None → ⊥) → Runs named → RunsAtServer
  pair-at-server usage r = by-names usage (are_names (first ∷ second ∷ servers ∷ out ∷ [])) r

  -- and at this one, where the words name it and a job
  chosen-at : (b : Bool) (s : Point) (job : A) → server_of server ≡ Some s → chosen b ≡ Some job → Runs (chosen b) →
      Runs (Some (made_at s))
  chosen-at true s job is some r = subst (λ (at : Option Point). Runs (option_map made_at at)) is r
  chosen-at false s job is some r = absurd (cc some)

  pub pair-named : (s : Point) (job : A) → server_of server ≡ Some s → named ≡ Some job → Runs named → Runs (Some (made_at s))
  pair-named s job is some r = chosen-at (are_names (first ∷ second ∷ servers ∷ out ∷ [])) s job is some r
