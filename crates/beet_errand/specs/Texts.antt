-- Lines that are printed.
use Rattle.std.specs.Prelude.{ℕ, List, [], ◌∷◌, ◌++◌, codes}

-- a text and the byte that ends a line
abbrev pub line_of : List ℕ → List ℕ
line_of text = text ++ 10 ∷ []

-- the file of this name cannot be fetched
abbrev pub read_fault_text : List ℕ → List ℕ
read_fault_text name = line_of (codes "read fault: " ++ name)

-- the words name no job
abbrev pub usage_text : List ℕ
usage_text = line_of (codes "usage: beet COMMAND WORDS")
