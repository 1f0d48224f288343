-- A step for a value that is seen whole.
use Rattle.std.proofs.Common.{◌≡◌, Result, subst}
use Rattle.beet_store.specs.Files.{Seen}
use Rattle.beet_errand.specs.Errands.{Step}
use Rattle.beet_errand.specs.Fetches.{ReadsFor}
use Rattle.beet_errand.specs.declared.answer.Stop.{Stop}

pub for_value : {V A T : Type 0} {shows : T → A → Type 0} {old now : Seen} {result : Result T Stop} (step : V → Step A)
    {parts value : V} → parts ≡ value → ReadsFor shows old now (step parts) result → ReadsFor shows old now (step value) result
for_value {V = V} {shows = shows} {old = old} {now = now} {result = result} step e r =
    subst (λ (v : V). ReadsFor shows old now (step v) result) e r
