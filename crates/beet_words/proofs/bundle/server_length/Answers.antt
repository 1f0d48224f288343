use Rattle.std.proofs.Common.{arith}
use Rattle.std.proofs.lemmas.List.{length-append}
use Rattle.beet_words.specs.Bundles.{list_bytes}
use Rattle.beet_words.proofs.bundle.server_length.Goals as goal

pub returns-clause-value : goal.returns-clause-value
returns-clause-value c =
    omega (
      arith,
      length-append (list_bytes c.args.masks.now) (list_bytes c.args.coefficients.now),
      c.list_length.ensures.value,
      c.list_length-2.ensures.value,
    )
