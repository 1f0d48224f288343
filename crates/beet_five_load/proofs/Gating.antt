-- Whether the gates of an auction are chains.
use Rattle.std.proofs.Common.{◌≡◌, ℕ, List, Ok, Err, true, false, refl}
use Rattle.beet_forms.specs.FaultLines.{fault_line_of}
use Rattle.beet_forms.specs.declared.faults.FaultPlace.TheVariants.{Row}
use Rattle.beet_gates.specs.declared.Gates.{Gates}
use Rattle.beet_gates.specs.declared.Gates.TheVariants.{Chain, Tree}
use Rattle.beet_errand.specs.Fetches.{Tests, Refuses}
use Rattle.beet_errand.specs.declared.answer.Refusal.TheVariants.{BadFile}
use Rattle.beet_errand.specs.declared.answer.Stop.{Stop}
use Rattle.beet_errand.proofs.Frame.{test_refused}
use Rattle.beet_five_load.specs.FiveSettings.{with_chains}
use Rattle.beet_five_load.specs.declared.setting.TheConstants.{GATES_ROW, TREE_GATES}

-- gates that are no trees are chains
pub are-chains : (gates : Gates) → (gates ≡ Tree → true ≡ false) → gates ≡ Chain
are-chains Chain other = refl
are-chains Tree other = let e = other refl in absurd cc

-- and pass the test
pub chains-pass : (auction : List ℕ) (gates : Gates) → gates ≡ Chain → Tests (with_chains auction gates) (Ok tt)
chains-pass auction gates e = rw e (record { passes = λ next. refl; cause = λ count. refl })

-- trees do not
pub trees-stop : (auction : List ℕ) (gates : Gates) (stop : Stop) → gates ≡ Tree →
    Refuses BadFile (fault_line_of auction (Row GATES_ROW) TREE_GATES) stop → Tests (with_chains auction gates) (Err stop)
trees-stop auction gates stop e r = rw e (test_refused BadFile _ stop (λ next. refl) r (λ count. refl))
