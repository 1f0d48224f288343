-- Coefficient words of two worlds of a script that go with each other, and with no others.
use Rattle.std.specs.Prelude.{◌≡◌, ℕ, List, slice_index, true}
use Rattle.beet_words.specs.Words.{IsWord, accepted}
use Rattle.beet_gates.specs.declared.Batch.{Batch}
use Rattle.beet_words.specs.Words.{ones_in}
use Rattle.beet_linear_sharing.specs.Sharings.{Sharing, IsAmong}
use Rattle.beet_linear_sharing.specs.Runs.{Setup}
use Rattle.beet_coalition.specs.Coalitions.{Coalition, GateMapped, LooksAlike}
use Rattle.beet_coalition.specs.Premise.{Secrets, begin_in}

-- the run with these coefficient words: of each server the accepted ones are drawn, in order
abbrev pub run_with : (ℕ → List ℕ → Batch) → Secrets → (ℕ → List ℕ) → Setup
run_with next w words = begin_in next w (λ j. accepted (words j))

-- of each server the words that are all ones stand at the same places, and the accepted ones are mapped; so the words
-- of the servers that watch are the same
pub record WordsMapped (q : Sharing) (c : Coalition) (next : ℕ → List ℕ → Batch) (rounds : ℕ) (w w' : Secrets)
    (words words' : ℕ → List ℕ) : Type 0 where
  pub places : (j : ℕ) → IsAmong q.servers j → ones_in (words' j) ≡ ones_in (words j)
  pub numbers : GateMapped q c rounds (run_with next w words) (run_with next w' words')

-- all are words
abbrev pub AreWords : Sharing → (ℕ → List ℕ) → Type 0
AreWords q words = (j n : ℕ) → IsAmong q.servers j → IsWord (slice_index (words j) n)

-- each server has the same words
abbrev pub SameWords : Sharing → (ℕ → List ℕ) → (ℕ → List ℕ) → Type 0
SameWords q e d = (j : ℕ) → IsAmong q.servers j → e j ≡ d j

-- the words of two worlds are mapped, so that the runs look alike to the servers that watch. The words of these servers
-- are the same, and the words of each world are the only ones that go with those of the other
pub record WordsTogether (q : Sharing) (c : Coalition) (next : ℕ → List ℕ → Batch) (rounds : ℕ) (w w' : Secrets)
    (words words' : ℕ → List ℕ) : Type 0 where
  pub mapped : WordsMapped q c next rounds w w' words words'
  pub looks : LooksAlike q c rounds (run_with next w words) (run_with next w' words')
  pub own : (j : ℕ) → IsAmong q.servers j → c.watches j ≡ true → words' j ≡ words j
  pub only : (e : ℕ → List ℕ) → WordsMapped q c next rounds w w' words e → SameWords q e words'
  pub back : (e : ℕ → List ℕ) → AreWords q e → WordsMapped q c next rounds w w' e words' → SameWords q e words
