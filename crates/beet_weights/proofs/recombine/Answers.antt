use Rattle.std.proofs.Common.{◌≡◌, ◌∷◌, [], ◌%◌, sym, ◌∙◌, rules}
use Rattle.beet_field.specs.Field.{p}
use Rattle.beet_weights.specs.Weights.{three_weights, weighted}
use Rattle.beet_weights.proofs.Laws.{recombined-point}
use Rattle.beet_weights.proofs.recombine.Goals as goal

pub returns-clause-shared : goal.returns-clause-shared
returns-clause-shared c = λ v a b small one two three.
    value ∙ (λ t. weighted three_weights (sym one t ∷ sym two t ∷ sym three t ∷ []) % p) ∙ recombined-point v a b small
  where
    value : c.add-2.result ≡ weighted three_weights (c.args.one ∷ c.args.two ∷ c.args.three ∷ []) % p
    value = search rules
