-- What a server sees of several lots, and the words of several lots, each as the bytes of one file.
use Rattle.std.specs.Prelude.{ℕ, List, ◌++◌, codes, length, map}
use Rattle.std.specs.List.{flat_map}
use Rattle.beet_words.specs.Bundles.{Words, bundle_bytes}
use Rattle.beet_words.specs.Fields.{number_bytes}

-- the text that what a server sees of a session begins with
abbrev pub view_magic : List ℕ
view_magic = codes "BEETSS01"

-- the text that the words of a session begin with
abbrev pub words_magic : List ℕ
words_magic = codes "BEETSW01"

-- what stands before the lots: a text, and how many there are
abbrev pub lots_start : List ℕ → ℕ → List ℕ
lots_start magic count = magic ++ number_bytes count

-- the bytes of a lot, after their number
abbrev pub lot_part : List ℕ → List ℕ
lot_part bytes = number_bytes (length bytes) ++ bytes

-- a file of lots, of which each has these bytes
abbrev pub lots_bytes : List ℕ → List (List ℕ) → List ℕ
lots_bytes magic lots = lots_start magic (length lots) ++ flat_map lot_part lots

-- the file of what a server sees of a session: its transcript of each lot
abbrev pub session_view_bytes : List (List ℕ) → List ℕ
session_view_bytes transcripts = lots_bytes view_magic transcripts

-- the file of the words of a session: the bundle of those of each lot
abbrev pub session_words_bytes : List Words → List ℕ
session_words_bytes words = lots_bytes words_magic (map bundle_bytes words)
