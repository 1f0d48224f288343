use Rattle.std.proofs.Common.{◌≡◌, ◌≤◌, ◌*◌, length, take}
use Rattle.rand_chacha.specs.ChaCha.{key_of}
use Rattle.beet_words.proofs.SeedNumbers.{seed_numbers}
use Rattle.beet_words.proofs.seed.draw_seed.Given as goal

abbrev pub invariant-loop-k : goal.invariant-loop-k
invariant-loop-k l = record {
  key : l.rng.key ≡ key_of l.seed;
  stream : l.rng.stream ≡ l.stream;
  place : l.rng.word_pos ≡ 2 * l._k;
  count : l.have ≡ length (seed_numbers l.seed l.stream l._k);
  numbers : take l.have l.numbers ≡ seed_numbers l.seed l.stream l._k;
  room : l.have ≤ length l.numbers;
  length : length l.numbers ≡ length l.fn.numbers;
}
