use Rattle.std.proofs.Common.{rules}
use Rattle.std.proofs.lemmas.Result.{err_from_is_err_and}
use Rattle.beet_words.specs.Bundles.{word_at}
use Rattle.beet_words.proofs.bundle.read_words.Goals as goal

pub returns-in_err-words-clause-words : goal.returns-in_err-words-clause-words
returns-in_err-words-clause-words c =
    let given = err_from_is_err_and c.from_residual.result c.from_residual.ensures.1 in
    rw (given.1, given.2) (c.in_err-words.ensures.items (word_at c.args.bytes.now) (λ from read within given. search rules))
