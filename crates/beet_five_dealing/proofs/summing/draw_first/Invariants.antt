use Rattle.std.proofs.Common.{◌≡◌, ◌≤◌, ◌++◌, drop, length, take}
use Rattle.beet_words.specs.Words.{accepted}
use Rattle.beet_five_dealing.proofs.summing.draw_first.Given as goal

abbrev pub invariant-loop-word : goal.invariant-loop-word
invariant-loop-word l = record {
  count : length l.numbers.items ≡ length l.fn.numbers.items;
  within : l.place ≤ length l.numbers.items;
  drawn : take l.place l.numbers.items ++ accepted (drop l.word-index l.words) ≡ accepted l.words;
}
