use Rattle.std.proofs.Common.{◌≡◌, ◌*◌}
use Rattle.beet_words.specs.Seeds.{seed_words}
use Rattle.rand_chacha.specs.ChaCha.{key_of}
use Rattle.beet_words.proofs.seed.words_of_seed.Given as goal

abbrev pub invariant-loop-k : goal.invariant-loop-k
invariant-loop-k l = record {
  key : l.rng.key ≡ key_of l.seed;
  stream : l.rng.stream ≡ l.stream;
  place : l.rng.word_pos ≡ 2 * l._k;
  words : l.words ≡ seed_words l.seed l.stream l._k;
}
