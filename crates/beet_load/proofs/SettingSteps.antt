-- A step for a setting that is seen whole.
use Rattle.std.proofs.Common.{◌≡◌, Result, subst}
use Rattle.beet_store.specs.Files.{Seen}
use Rattle.beet_errand.specs.Errands.{Step}
use Rattle.beet_errand.specs.Fetches.{ReadsFor}
use Rattle.beet_errand.specs.declared.answer.Stop.{Stop}
use Rattle.beet_load.specs.Settings.{Setting}

pub for_setting : {A T : Type 0} {shows : T → A → Type 0} {old now : Seen} {result : Result T Stop}
    (step : Setting → Step A) {parts setting : Setting} →
    parts ≡ setting → ReadsFor shows old now (step parts) result → ReadsFor shows old now (step setting) result
for_setting {shows = shows} {old = old} {now = now} {result = result} step e r =
    subst (λ (s : Setting). ReadsFor shows old now (step s) result) e r
