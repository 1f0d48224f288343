-- An auction alone, or a lot of a session: its number, from 0.
use Rattle.std.specs.Prelude.{ℕ, ◌+◌, ◌*◌, List, [], ◌++◌, Option, Some, None, codes, decimal}

-- of the streams of a server's seed, the one that its numbers come from; its masks come from the next
abbrev pub first_stream : Option ℕ → ℕ
first_stream None = 0
first_stream (Some lot) = 2 * lot

-- how a line of too few words names the lot, counted from 1
abbrev pub lot_text : Option ℕ → List ℕ
lot_text None = []
lot_text (Some lot) = codes "lot " ++ decimal (lot + 1) ++ codes " "
