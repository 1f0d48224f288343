use Rattle.std.proofs.Common.{◌≡◌, rules}
use Rattle.beet_book.specs.Totals.{wires_of}
use Rattle.beet_book.proofs.Sums.{wires-carry}
use Rattle.beet_book.proofs.summing.Totals.inputs.Goals as goal

pub returns-clause-values : goal.returns-clause-values
returns-clause-values c =
    let same : c.map.result ≡ wires_of c.args.self = search rules in
    wires-carry c.args.self _ same
