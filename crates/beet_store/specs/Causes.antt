-- The count of faults of the outside, which never falls.
use Rattle.std.specs.Prelude.{◌≢◌, ◌<◌, ◌+◌, ◌-◌, ◌^◌, ℕ, min}

-- the last value of a count
abbrev pub last_count : ℕ
last_count = 2 ^ 64 - 1

-- the count stands higher, unless it stands at its last value
abbrev pub Rose : ℕ → ℕ → Type 0
Rose before now = now ≢ last_count → before < now

-- the count after one more; at its last value it stays
abbrev pub next_count : ℕ → ℕ
next_count count = min (count + 1) last_count
