-- What proofs name of a run of five servers: that of beet_linear_sharing, with their way to share.
use Rattle.std.proofs.Common.{ℕ, List}
use Rattle.beet_gates.specs.declared.Act.{Act}
use Rattle.beet_linear_sharing.specs.Runs as among
use Rattle.beet_linear_sharing.specs.Runs.{Setup, Shared}
use Rattle.beet_linear_sharing.specs.Schemes.{five_servers}

-- the point at i of the k-th secret that server j hides for an act
abbrev pub hidden_at : Setup → Shared → Act → ℕ → ℕ → ℕ → ℕ
hidden_at o s a j i k = among.hidden_at five_servers o s a j i k

-- the point at i of the k-th product
abbrev pub product_at : Setup → Shared → Act → ℕ → ℕ → ℕ
product_at o s a i k = among.product_at five_servers o s a i k

-- the points at i of the wires that an act gives
abbrev pub gained : Setup → Shared → Act → ℕ → List ℕ
gained o s a i = among.gained five_servers o s a i

-- the numbers that an act opens
abbrev pub opened_by : Shared → Act → List ℕ
opened_by s a = among.opened_by five_servers s a

-- the numbers that one server sends another for an act
abbrev pub sent_for : Setup → Shared → Act → ℕ → ℕ → List ℕ
sent_for o s a from to = among.sent_for five_servers o s a from to

-- the rounds of a run of at most so many
abbrev pub rounds_among : Setup → ℕ → ℕ
rounds_among o most = among.rounds_among five_servers o most
