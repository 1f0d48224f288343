-- What a table of commands makes of the words that are read.
use Rattle.std.proofs.Common.{◌≡◌, ◌∙◌, ℕ, List, ap, sym}
use Rattle.beet_command.specs.Lines.{Words, words_in, words_read}
use Rattle.beet_command.specs.declared.line.Line.{Line}

-- what a table has for a line is what it has for the words that it was read from
pub of_line : {A : Type 0} (table : Words → A) (read line : Line) (words : List (List ℕ)) (value : A) →
    words_read read ≡ words_in words → read ≡ line → value ≡ table (words_read line) → value ≡ table (words_in words)
of_line table read line words value r is e = e ∙ ap (λ l. table (words_read l)) (sym is) ∙ ap table r
