-- A script that goes on.
use Rattle.std.proofs.Common.{◌≡◌, ◌≢◌, ◌+◌, ◌++◌, ℕ, suc, List, length, false, true≢false, sym, ◌∙◌, ap, subst, arith}
use Rattle.beet_gates.specs.Clear.{is_end}
use Rattle.beet_gates.specs.Ends.{ComesTo}
use Rattle.beet_gates.specs.Scripts.{revealed}
use Rattle.beet_gates.specs.declared.Act.{Act}
use Rattle.beet_gates.specs.declared.Act.TheVariants.{End}
use Rattle.beet_gates.specs.declared.Batch.{Batch}

not-end : (a : Act) → is_end a ≡ false → a ≢ End
not-end a h = λ e. absurd (true≢false (ap is_end (sym e) ∙ h))

-- with the numbers of a batch more, the opened numbers still are some that the script may have opened
pub comes-further : (next : ℕ → List ℕ → Batch) (t : ℕ) (opened new more : List ℕ) (b : Batch) → ComesTo next t opened → b ≡ next t opened →
    is_end b.act ≡ false → length new ≡ revealed b.act → more ≡ opened ++ new → ComesTo next (t + 1) more
comes-further next t opened new more b came is goes count grows =
    let one : suc t ≡ t + 1 = omega arith in
    subst (λ n. ComesTo next n more) one (
      opened,
      new,
      came,
      subst (λ (k : Batch). k.act ≢ End) is (not-end b.act goes),
      count ∙ ap (λ (k : Batch). revealed k.act) is,
      grows,
    )
