use Rattle.std.proofs.Common.{◌≡◌, ◌∷◌, [], sym, subst, rules}
use Rattle.beet_weights.specs.Weights.{AreWeights, five_weights}
use Rattle.beet_weights.proofs.Laws.{five-are}
use Rattle.beet_weights.proofs.weights_five.Goals as goal

pub returns-clause-sums : goal.returns-clause-sums
returns-clause-sums c =
    let is : c.reduce.result ∷ c.neg.result ∷ c.reduce-3.result ∷ c.neg-2.result ∷ c.reduce-5.result ∷ [] ≡ five_weights = search rules in
    subst AreWeights (sym is) five-are
