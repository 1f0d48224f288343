-- The words of the servers of a test.
use Rattle.std.specs.Prelude.{ℕ, List, None}
use Rattle.beet_field.specs.declared.trio.Trio.{Trio}
use Rattle.beet_bids.specs.Grids.{Grid}
use Rattle.beet_load.specs.Wanted.{wanted_of}
use Rattle.beet_load.specs.Servers.{ServerWords, seeded}

-- those of three seeds
abbrev pub words_from : Grid → Trio (List ℕ) → Trio ServerWords
words_from grid seeds = record {
  one = seeded (wanted_of None grid) seeds.one;
  two = seeded (wanted_of None grid) seeds.two;
  three = seeded (wanted_of None grid) seeds.three;
}
