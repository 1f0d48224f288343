use Rattle.std.proofs.Common.{◌≡◌, ◌<◌, ◌≤◌, drop, length, get_or, ℕ}
use Rattle.beet_words.specs.Words.{accepted}
use Rattle.beet_words.specs.Tapes.{drawn_from, left_of}
use Rattle.beet_words.proofs.tape.Tape.draw_each.Given as goal

abbrev pub invariant-loop-number : goal.invariant-loop-number
invariant-loop-number l = record {
  same_length : length l.numbers ≡ length l.fn.numbers;
  filled : (k : ℕ) → k < l.number-index → get_or l.numbers k 0 ≡ get_or (left_of l.fn.self) k 0;
  left : accepted (drop l.place l.words) ≡ drop l.number-index (left_of l.fn.self);
  drawn : record l.fn.self { passed = l.place } ≡ drawn_from l.fn.self l.number-index;
  within : l.place ≤ length l.words;
}
