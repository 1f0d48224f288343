-- The words of a command.
use Rattle.std.specs.Prelude.{ℕ, List, [], ◌∷◌, Bool, ◌&&◌, nat_eq, true}
use Rattle.std.specs.Cmp.Lexicographic.{pointwise}
use Rattle.beet_forms.specs.Names.{is_name_of}

-- whether a word is this text
abbrev pub is_word : List ℕ → List ℕ → Bool
is_word word text = pointwise nat_eq word text

-- whether these words are names of files
abbrev pub are_names : List (List ℕ) → Bool
are_names [] = true
are_names (word ∷ words) = is_name_of word && are_names words
