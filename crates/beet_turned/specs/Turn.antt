-- A mask is turned if the number under it changes.
use Rattle.std.specs.Prelude.{ℕ, ◌==◌, if◌then◌else◌}
use Rattle.beet_field.specs.Field.{add_of}
use Rattle.beet_words.specs.Words.{ones}

-- the mask that shows the same sum if the number under it has lost d, modulo p; the word whose bits are all ones
-- stays
abbrev pub turned : ℕ → ℕ → ℕ
turned r d = if r == ones then r else add_of r d
