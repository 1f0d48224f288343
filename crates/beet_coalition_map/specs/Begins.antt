-- Two worlds of a script among five servers, two of which put together what they see.
use Rattle.std.specs.Prelude.{◌≡◌, ℕ, List}
use Rattle.beet_gates.specs.Clear.{EndsAfter}
use Rattle.beet_gates.specs.declared.Batch.{Batch}
use Rattle.beet_linear_sharing.specs.Runs.{deals_among}
use Rattle.beet_linear_sharing.specs.Schemes.{five_servers}
use Rattle.beet_linear_sharing.specs.Sharings.{IsAmong}
use Rattle.beet_coalition.specs.Lists.{at_server}
use Rattle.beet_coalition.specs.Premise.{MayMap, Secrets}
use Rattle.beet_coalition.specs.Watchers.{two_watch}
use Rattle.beet_coalition.specs.Words.{WordsMapped}

-- what a script begins with: for each server in order its points of the inputs, and the words that it deals
pub record Begins : Type 0 where
  pub inputs : List (List ℕ)
  pub masks : List (List ℕ)

-- at each server a world's points of the inputs, and its words, are these
pub record AreHeld (w : Secrets) (begins : Begins) : Type 0 where
  pub inputs : (j : ℕ) → IsAmong five_servers.servers j → w.inputs j ≡ at_server begins.inputs j
  pub masks : (j : ℕ) → IsAmong five_servers.servers j → w.masks j ≡ at_server begins.masks j

-- two worlds that begin with these and that servers a and b cannot tell apart before any number is drawn, in runs of so
-- many rounds
pub record AreTwoWorlds (a b : ℕ) (next : ℕ → List ℕ → Batch) (rounds : ℕ) (w w' : Secrets) (first second : Begins) :
    Type 0 where
  pub held : AreHeld w first
  pub held' : AreHeld w' second
  pub may : MayMap five_servers (two_watch a b) next rounds w w'
  pub ends : EndsAfter next (deals_among five_servers w.masks) w.values rounds

-- in all such worlds the coefficient words are mapped for a and b
abbrev pub AreMapped : ℕ → ℕ → (ℕ → List ℕ → Batch) → Begins → Begins → List (List ℕ) → List (List ℕ) → Type 0
AreMapped a b next first second words words' =
    (rounds : ℕ) (w w' : Secrets) → AreTwoWorlds a b next rounds w w' first second →
    WordsMapped five_servers (two_watch a b) next rounds w w' (at_server words) (at_server words')
