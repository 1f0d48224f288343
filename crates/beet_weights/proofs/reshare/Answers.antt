use Rattle.std.proofs.Common.{◌≡◌, ◌∷◌, [], ◌%◌, sym, ◌∙◌, rules}
use Rattle.beet_field.specs.Field.{p}
use Rattle.beet_weights.specs.Weights.{five_weights, weighted}
use Rattle.beet_weights.proofs.Laws.{reshared-dealt}
use Rattle.beet_weights.proofs.reshare.Goals as goal

pub returns-clause-product : goal.returns-clause-product
returns-clause-product c = λ v a b w d e firsts seconds to one two three four five.
    value ∙ (λ t. weighted five_weights (sym one t ∷ sym two t ∷ sym three t ∷ sym four t ∷ sym five t ∷ []) % p)
    ∙ reshared-dealt v a b w d e firsts seconds to
  where
    value : c.add-4.result ≡ weighted five_weights (c.args.one ∷ c.args.two ∷ c.args.three ∷ c.args.four ∷ c.args.five ∷ []) % p
    value = search rules
