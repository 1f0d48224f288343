-- The run of a script among five servers with threshold two: that of beet_linear_sharing, with their way to share.
use Rattle.std.specs.Prelude.{ℕ, ◌*◌, List}
use Rattle.beet_gates.specs.declared.Act.{Act}
use Rattle.beet_gates.specs.declared.Batch.{Batch}
use Rattle.beet_gates.specs.Draws.{draws_in as hides_in}
use Rattle.beet_linear_sharing.specs.Runs as among
use Rattle.beet_linear_sharing.specs.Runs.{Setup, Shared}
use Rattle.beet_linear_sharing.specs.Schemes.{five_servers}

-- how many numbers each server has drawn, and how many it draws for an act: two for each secret
abbrev pub drawn : Shared → ℕ
drawn s = 2 * s.hidden

abbrev pub draws_in : Act → ℕ
draws_in a = 2 * hides_in a

-- the run after t batches
abbrev pub shared_at : Setup → ℕ → Shared
shared_at o t = among.shared_at five_servers o t

-- the batch that comes after t batches
abbrev pub coming : Setup → ℕ → Batch
coming o t = among.coming five_servers o t

-- the run in that batch, once its lets are there
abbrev pub standing_at : Setup → ℕ → Shared
standing_at o t = among.standing_at five_servers o t

-- the message from one server to another in round t
abbrev pub message : Setup → ℕ → ℕ → ℕ → List ℕ
message o from to t = among.message five_servers o from to t

-- the run has r rounds
abbrev pub HasRounds : Setup → ℕ → Type 0
HasRounds o r = among.HasRounds five_servers o r
