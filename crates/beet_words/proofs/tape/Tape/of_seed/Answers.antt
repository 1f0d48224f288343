use Rattle.std.proofs.Common.{arith}
use Rattle.std.proofs.lemmas.List.FromFn.{length-map-range_with_len}
use Rattle.beet_words.specs.Seeds.{seed_word}
use Rattle.beet_words.proofs.tape.Tape.of_seed.Goals as goal

pub of_words-requires : goal.of_words-requires
of_words-requires c =
    rw (c.in_ok-words.ensures, length-map-range_with_len (seed_word c.args.seed.now c.args.stream) 0 c.args.n) (omega arith)
