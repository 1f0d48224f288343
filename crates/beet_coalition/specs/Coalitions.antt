-- When the numbers that are drawn in a second world show some servers what those of the first do.
use Rattle.std.specs.Prelude.{◌≡◌, ◌<◌, ◌≤◌, ◌*◌, ℕ, length, slice_index, Bool, true, false}
use Rattle.beet_field.specs.Field.{add_of, mul_of, sub_of}
use Rattle.beet_gates.specs.Draws.{draws_in}
use Rattle.beet_linear_sharing.specs.Sharings.{Sharing, IsAmong}
use Rattle.beet_linear_sharing.specs.Runs.{Setup, HasRounds, coming, message, number_drawn, secret_hidden, shared_at}
use Rattle.beet_linear_sharing.specs.Runs.{standing_at}

-- servers that put together what they see, and by how much the m-th of the numbers that hide a secret moves if the
-- secret is one less
pub record Coalition : Type 0 where
  pub watches : ℕ → Bool
  pub factor : ℕ → ℕ

-- the m-th number of those that hid x, moved by what x is more than y
abbrev pub moved_of : Coalition → ℕ → ℕ → ℕ → ℕ → ℕ
moved_of c m number x y = add_of number (mul_of (sub_of x y) (c.factor m))

-- the m-th of the numbers that hide the k-th secret of a server in round t
abbrev pub number_at : Sharing → Setup → ℕ → ℕ → ℕ → ℕ → ℕ
number_at q o t j k m = number_drawn q o (standing_at q o t) j k m

-- this secret
abbrev pub secret_at : Sharing → Setup → ℕ → ℕ → ℕ → ℕ
secret_at q o t j k = secret_hidden o (standing_at q o t) (coming q o t).act j k

-- the numbers of two setups, in a run of so many rounds: those of the servers that watch are the same, and so are those
-- that are not drawn; the numbers that another server draws for a secret are moved by it
pub record GateMapped (q : Sharing) (c : Coalition) (rounds : ℕ) (first second : Setup) : Type 0 where
  pub own : (j : ℕ) → IsAmong q.servers j → c.watches j ≡ true → second.numbers j ≡ first.numbers j
  pub lengths : (j : ℕ) → IsAmong q.servers j → length (second.numbers j) ≡ length (first.numbers j)
  pub moves : (j : ℕ) → IsAmong q.servers j → c.watches j ≡ false → (t k m : ℕ) → t < rounds →
      k < draws_in (coming q first t).act → m < q.degree →
      number_at q second t j k m
      ≡ moved_of c m (number_at q first t j k m) (secret_at q first t j k) (secret_at q second t j k)
  pub rest : (j : ℕ) → IsAmong q.servers j → c.watches j ≡ false → (n : ℕ) →
      q.degree * (shared_at q first rounds).hidden ≤ n →
      slice_index (second.numbers j) n ≡ slice_index (first.numbers j) n

-- both runs have so many rounds; the servers that watch have the same points after each batch, and with the lets of the
-- next, and get the same messages in each; both open the same numbers
pub record LooksAlike (q : Sharing) (c : Coalition) (rounds : ℕ) (first second : Setup) : Type 0 where
  pub first_ends : HasRounds q first rounds
  pub second_ends : HasRounds q second rounds
  pub points : (t i : ℕ) → t ≤ rounds → IsAmong q.servers i → c.watches i ≡ true →
      (shared_at q second t).wires i ≡ (shared_at q first t).wires i
  pub standing : (t i : ℕ) → t ≤ rounds → IsAmong q.servers i → c.watches i ≡ true →
      (standing_at q second t).wires i ≡ (standing_at q first t).wires i
  pub opened : (t : ℕ) → t ≤ rounds → (shared_at q second t).opened ≡ (shared_at q first t).opened
  pub messages : (t from i : ℕ) → t < rounds → IsAmong q.servers from → IsAmong q.servers i → c.watches i ≡ true →
      message q second from i t ≡ message q first from i t
