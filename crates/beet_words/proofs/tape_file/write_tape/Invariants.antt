use Rattle.std.proofs.Common.{◌≡◌, take, All}
use Rattle.beet_words.specs.Words.{IsWord}
use Rattle.beet_words.specs.TapeFiles.{tape_bytes}
use Rattle.beet_words.proofs.tape_file.write_tape.Given as goal

abbrev pub invariant-loop-word : goal.invariant-loop-word
invariant-loop-word l = record {
  file : l.file.items ≡ tape_bytes (take l.word-index l.words);
  below : All IsWord (take l.word-index l.words);
}
