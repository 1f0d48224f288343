use Rattle.std.proofs.Common.{◌≤◌}
use Rattle.beet_mapped.proofs.MovedWords.{MovedTo}
use Rattle.beet_mapped.proofs.moving.move_words.Given as goal

abbrev pub invariant-loop-word : goal.invariant-loop-word
invariant-loop-word l = record {
  few : l.drawn ≤ l.word-index;
  moved_to : MovedTo l.me l.first l.second l.words l.moved l.word-index l.drawn;
}
