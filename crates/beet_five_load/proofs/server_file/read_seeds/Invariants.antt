use Rattle.std.proofs.Common.{◌≡◌, ◌<◌, ℕ, [], Ok, length}
use Rattle.std.specs.Prelude.{slice_index_or}
use Rattle.beet_five_load.proofs.SeedRows.{reading_of}
use Rattle.beet_five_load.proofs.server_file.read_seeds.Given as goal

abbrev pub invariant-loop-i : goal.invariant-loop-i
invariant-loop-i l =
    (length l.seeds ≡ 5) × ((k : ℕ) → k < l.i → reading_of l.rows k ≡ Ok (slice_index_or l.seeds k []))
