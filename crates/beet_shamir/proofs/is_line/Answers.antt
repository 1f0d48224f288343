use Rattle.std.proofs.Common.{◌↔◌, IsTrue, rules}
use Rattle.beet_shamir.specs.Line.{IsLine}
use Rattle.beet_shamir.proofs.Laws.{has-line, line-is}
use Rattle.beet_shamir.proofs.is_line.Goals as goal

pub returns-clause-line : goal.returns-clause-line
returns-clause-line c = λ elements.
    let exact : IsTrue c.eq.result ↔ IsLine c.args.points = search rules in
    (λ yes. has-line c.args.points elements (exact.0 yes), λ line. exact.1 (line-is c.args.points line))
