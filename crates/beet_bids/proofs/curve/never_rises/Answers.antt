use Rattle.std.proofs.Common.{rules, nat_le}
use Rattle.std.proofs.lemmas.List.Sorted.{answers_always}
use Rattle.beet_bids.proofs.CurveFacts.{falls_answer}
use Rattle.beet_bids.proofs.curve.never_rises.Goals as goal

pub returns : goal.returns
returns c =
    falls_answer c.args.quantities.now c.is_sorted_by.result
    (c.is_sorted_by.ensures.cases (λ x y. nat_le y x) (answers_always _ _ _ (λ f a r g call. search rules)))
