use Rattle.std.proofs.Common.{◌≡◌, ◌<◌, ◌++◌, ℕ, drop, slice_index}
use Rattle.beet_words.specs.Words.{IsWord, accepted}
use Rattle.beet_words.proofs.accepted.numbers_in.Given as goal

abbrev pub invariant-loop-word : goal.invariant-loop-word
invariant-loop-word l = record {
  rest : l.numbers.items ++ accepted (drop l.word-index l.words) ≡ accepted l.words;
  below : (k : ℕ) → k < l.word-index → IsWord (slice_index l.words k);
}
