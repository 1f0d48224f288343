use Rattle.std.proofs.Common.{◌≡◌, ◌+◌, ◌-◌, map, take}
use Rattle.std.specs.List.{range_with_len}
use Rattle.beet_words.specs.TapeFiles.{line_at, lines_of, word_in, reason_against}
use Rattle.beet_words.proofs.TapeRows.{rows_from}
use Rattle.beet_words.proofs.tape_file.read_tape.Given as goal
use Rattle.beet_forms.specs.Faults.{first_fault}

abbrev pub invariant-loop-k : goal.invariant-loop-k
invariant-loop-k l = record {
  judged : first_fault (l.k + 1) (rows_from l.bytes l.k (l.count - l.k)) ≡ first_fault 1 (map reason_against (lines_of l.bytes));
  words : l.words ≡ take l.keep (map word_in (map (line_at l.bytes) (range_with_len 0 l.k)));
}
