-- The calls of a desk to which an answer goes out whole.
use Rattle.std.specs.Prelude.{ℕ, List, [], ◌∷◌, Ok}
use Rattle.beet_store.specs.Desks.{DeskCall, Put, Say}
use Rattle.beet_store.specs.Files.{File}

-- the calls that give files and a text, each of which is taken
abbrev pub calls_of : List File → List ℕ → List DeskCall
calls_of [] text = Say text (Ok tt) ∷ []
calls_of (file ∷ files) text = Put file.0 file.1 (Ok tt) ∷ calls_of files text
