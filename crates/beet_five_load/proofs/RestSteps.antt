-- The words of servers and then the bidders are read of a setting, which is seen whole.
use Rattle.std.proofs.Common.{◌≡◌, List, [], None, Result, Ok, Err, subst, sym}
use Rattle.std.specs.Prelude.{IsErrAnd}
use Rattle.beet_store.specs.Files.{Seen}
use Rattle.beet_book.specs.Farmers.{BidderWithWords}
use Rattle.beet_errand.specs.Errands.{gives}
use Rattle.beet_errand.specs.Fetches.{ReadsFor}
use Rattle.beet_errand.specs.declared.answer.Stop.{Stop}
use Rattle.beet_errand.proofs.Frame.{bound, exits, stopped}
use Rattle.beet_load.specs.Farmers.{farmers_errand}
use Rattle.beet_load.specs.Servers.{ServerWords}
use Rattle.beet_five_load.specs.FiveLoading.{FiveRead, five_rest_errand, read_with}
use Rattle.beet_five_load.specs.FiveServers.{AreServing, ServerLists, lists_of, servers_errand}
use Rattle.beet_five_load.specs.FiveSettings.{FiveSetting}
use Rattle.beet_five_load.specs.FiveWants.{counts_of_five, wanted_of_five}
use Rattle.beet_five_load.proofs.FiveSteps.{for_value}

-- the servers of a setting are read
abbrev pub ReadsServersOf : FiveSetting → Seen → Seen → Result ServerLists Stop → Type 0
ReadsServersOf setting old now result =
    ReadsFor (AreServing (counts_of_five setting.grid) setting.seeds) old now
    (servers_errand (wanted_of_five setting.grid) [] setting.seeds) result

-- and its bidders
abbrev pub ReadsBiddersOf : {V : Type 0} → (V → List BidderWithWords → Type 0) → FiveSetting → Seen → Seen → Result V Stop → Type 0
ReadsBiddersOf shows setting old now result =
    ReadsFor shows old now (farmers_errand (wanted_of_five setting.grid) setting.grid None [] setting.entries) result

-- the servers of one setting are those of another that is equal to it
pub same-servers : (one other : FiveSetting) {old now : Seen} {result : Result ServerLists Stop} → one ≡ other →
    ReadsServersOf one old now result → ReadsServersOf other old now result
same-servers one other {old = old} {now = now} {result = result} e r = subst (λ setting. ReadsServersOf setting old now result) e r

-- the servers stop the job
pub servers-stop : (setting : FiveSetting) {U : Type 0} {last : U → FiveRead → Type 0} {old now : Seen} {result : Result U Stop}
    {stop : Stop} → IsErrAnd result (λ e. e ≡ stop) → ReadsServersOf setting old now (Err stop) →
    ReadsFor last old now (five_rest_errand setting) result
unfolding five_rest_errand
servers-stop setting e r = exits e (stopped r)

module _ {old middle : Seen} {parts setting : FiveSetting} {lists : ServerLists} (same : parts ≡ setting)
    (servers : ReadsServersOf setting old middle (Ok lists)) where
  of-parts : ReadsServersOf parts old middle (Ok lists)
  of-parts = same-servers setting parts (sym same) servers

  module _ {U V : Type 0} {last : U → FiveRead → Type 0} {shows : V → List BidderWithWords → Type 0} {now : Seen}
      {result : Result U Stop} where
    -- the bidders stop it
    pub bidders-stop : {stop : Stop} → IsErrAnd result (λ e. e ≡ stop) → ReadsBiddersOf shows parts middle now (Err stop) →
        ReadsFor last old now (five_rest_errand setting) result
    unfolding five_rest_errand
    bidders-stop e r = exits e (for_value five_rest_errand same (bound of-parts (λ read serving. stopped r)))

    -- both are read
    pub both-read : {value : V} → ReadsBiddersOf shows parts middle now (Ok value) →
        ((read : List ServerWords) (farmers : List BidderWithWords) → AreServing (counts_of_five parts.grid) parts.seeds lists read →
        shows value farmers → ReadsFor last now now (gives (read_with parts.grid (lists_of read) farmers)) result) →
        ReadsFor last old now (five_rest_errand setting) result
    unfolding five_rest_errand
    both-read r f =
        for_value five_rest_errand same
        (bound of-parts (λ read serving. bound r (λ farmers are. f read farmers serving are)))
