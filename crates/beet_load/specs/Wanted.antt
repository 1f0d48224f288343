-- What is wanted of the words that a job reads: how many, and for which lot, if it has several.
use Rattle.std.specs.Prelude.{ℕ, Option}
use Rattle.beet_bids.specs.Grids.{Grid}
use Rattle.beet_load.specs.Counts.{counts_of}
use Rattle.beet_load.specs.declared.wanted.Wanted.{Wanted}

-- what the auction over a grid wants, alone or as a lot
abbrev pub wanted_of : Option ℕ → Grid → Wanted
wanted_of lot grid = record { counts = counts_of grid; lot = lot }
