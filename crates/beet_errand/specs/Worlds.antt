-- What a job answers that shows two worlds which look the same to a server.
use Rattle.std.specs.Prelude.{ℕ, List, [], ◌∷◌, ◌++◌, codes}
use Rattle.beet_store.specs.Files.{File}
use Rattle.beet_errand.specs.Errands.{Answer}
use Rattle.beet_errand.specs.Texts.{line_of}

-- its files: what the server has seen in either world, and the words of the second
abbrev pub files_of_worlds : List ℕ → List ℕ → List ℕ → List ℕ → List File
files_of_worlds out first second words =
    (out ++ codes ".first", first) ∷ (out ++ codes ".second", second) ∷ (out ++ codes ".words", words) ∷ []

-- the line that tells it
abbrev pub equal_text : List ℕ
equal_text = line_of (codes "transcripts equal")

-- an answer of a text alone, with these files, that tells it besides
abbrev pub telling_equal : Answer → List File → Answer
telling_equal answer files = record { status = answer.status; files = files; text = answer.text ++ equal_text }
