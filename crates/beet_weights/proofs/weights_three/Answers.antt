use Rattle.std.proofs.Common.{◌≡◌, ◌∷◌, [], sym, subst, rules}
use Rattle.beet_weights.specs.Weights.{AreWeights, three_weights}
use Rattle.beet_weights.proofs.Laws.{three-are}
use Rattle.beet_weights.proofs.weights_three.Goals as goal

pub returns-clause-sums : goal.returns-clause-sums
returns-clause-sums c =
    let is : c.reduce.result ∷ c.neg.result ∷ c.reduce-3.result ∷ [] ≡ three_weights = search rules in
    subst AreWeights (sym is) three-are
