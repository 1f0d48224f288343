use Rattle.std.proofs.Common.{◌≡◌, ◌%◌, ◌^◌, drop}
use Rattle.beet_words.proofs.HexDigits.{joined, seen_of}
use Rattle.beet_words.proofs.digits.read_digits.Given as goal

abbrev pub invariant-loop-digit : goal.invariant-loop-digit
invariant-loop-digit l = record {
  number : joined l.number (drop l.digit-index l.text) % 2 ^ 64 ≡ joined 0 l.text % 2 ^ 64;
  seen : seen_of l.seen (drop l.digit-index l.text) ≡ seen_of 0 l.text;
}
