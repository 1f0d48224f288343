-- Numbers of two worlds of a script that go with each other, and with no others.
use Rattle.std.specs.Prelude.{◌≡◌, ◌<◌, ◌≤◌, ◌+◌, ◌*◌, ℕ, List, length, slice_index}
use Rattle.beet_field.specs.Field.{IsElement}
use Rattle.beet_gates.specs.declared.Batch.{Batch}
use Rattle.beet_gates.specs.Draws.{draws_in}
use Rattle.beet_linear_sharing.specs.Sharings.{Sharing, IsAmong}
use Rattle.beet_linear_sharing.specs.Runs.{Setup, coming, shared_at}
use Rattle.beet_coalition.specs.Coalitions.{Coalition, GateMapped, LooksAlike}
use Rattle.beet_coalition.specs.Premise.{Secrets, begin_in}

-- each server has the same numbers
abbrev pub SameNumbers : Sharing → (ℕ → List ℕ) → (ℕ → List ℕ) → Type 0
SameNumbers q e d = (j : ℕ) → IsAmong q.servers j → e j ≡ d j

-- numbers of the field
abbrev pub AreElements : Sharing → (ℕ → List ℕ) → Type 0
AreElements q numbers = (j n : ℕ) → IsAmong q.servers j → IsElement (slice_index (numbers j) n)

-- each server has the numbers that it draws in so many rounds
abbrev pub HasNumbers : Sharing → ℕ → Setup → Type 0
HasNumbers q rounds o = (t j : ℕ) → IsAmong q.servers j → t < rounds →
    q.degree * ((shared_at q o t).hidden + draws_in (coming q o t).act) ≤ length (o.numbers j)

-- the numbers of two worlds are mapped, so that the runs look alike to the servers that watch; each are the only ones
-- that go with the others
pub record GoTogether (q : Sharing) (c : Coalition) (next : ℕ → List ℕ → Batch) (rounds : ℕ) (w w' : Secrets)
    (d d' : ℕ → List ℕ) : Type 0 where
  pub mapped : GateMapped q c rounds (begin_in next w d) (begin_in next w' d')
  pub looks : LooksAlike q c rounds (begin_in next w d) (begin_in next w' d')
  pub only : (e : ℕ → List ℕ) → GateMapped q c rounds (begin_in next w d) (begin_in next w' e) → SameNumbers q e d'
  pub back : (e : ℕ → List ℕ) → AreElements q e → GateMapped q c rounds (begin_in next w e) (begin_in next w' d') →
      SameNumbers q e d
