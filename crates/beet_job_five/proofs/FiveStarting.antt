-- An auction that is read can be started among five servers, and ends as its book says.
use Rattle.std.proofs.Common.{◌≡◌, ℕ, ◌*◌, ◌-◌, refl, sym, ap}
use Rattle.beet_plan.specs.FivePlan.{five_over, most_masks, most_secrets}
use Rattle.beet_plan.specs.declared.Finish.{Finish}
use Rattle.beet_run.specs.Outcomes.{outcome_answer}
use Rattle.beet_five_load.specs.FiveLoading.{FiveRead, FiveWithInputs, IsFiveKeptOf}
use Rattle.beet_five_run.specs.FiveRuns.{CanStart, EndsBook}
use Rattle.beet_five_run.proofs.BookStarts.{can-begin}
use Rattle.beet_five_run.specs.FiveOutcomes.{cleared_by_five}

-- five servers can begin it
pub can-start : (kept : FiveWithInputs) (read : FiveRead) → IsFiveKeptOf kept read →
    CanStart (λ script. 2 * script.prices) most_secrets most_masks (five_over kept.grid) kept.inputs kept.masks kept.coefficients
can-start kept read k =
    rw (k.inputs, ← k.grid, ← k.masks, ← k.coefficients)
    (can-begin read.book read.words k.runs (record {
      masks = λ j at. rw k.masks (k.few_masks (j - 1));
      coefficients = λ j at. rw k.coefficients (k.few_coefficients (j - 1));
    }))

-- so the answer tells the finish and the rounds of their run
pub tells-five : (kept : FiveWithInputs) (read : FiveRead) (finish : Finish) (rounds : ℕ) → IsFiveKeptOf kept read →
    EndsBook (five_over kept.grid) kept.inputs kept.masks kept.coefficients finish rounds →
    cleared_by_five read ≡ outcome_answer kept.grid finish rounds
tells-five kept read finish rounds k ends =
    let e = ends read.book read.words k.book k.runs (ap five_over (sym k.grid)) k.inputs (sym k.masks) (sym k.coefficients) in
    rw (e.0, e.1, k.grid) refl
