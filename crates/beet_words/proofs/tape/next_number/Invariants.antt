use Rattle.std.proofs.Common.{◌≡◌, ◌≤◌, drop}
use Rattle.beet_words.specs.Words.{accepted}
use Rattle.beet_words.proofs.tape.next_number.Given as goal

abbrev pub invariant-loop-place : goal.invariant-loop-place
invariant-loop-place l = record {
  forward : l.fn.from ≤ l.place;
  left : accepted (drop l.place l.words) ≡ accepted (drop l.fn.from l.words);
}
