use Rattle.std.proofs.Common.{rules, nat_le}
use Rattle.std.proofs.lemmas.List.Sorted.{answers_always}
use Rattle.beet_bids.proofs.CurveFacts.{rises_answer}
use Rattle.beet_bids.proofs.curve.never_falls.Goals as goal

pub returns : goal.returns
returns c =
    rises_answer c.args.quantities.now c.is_sorted_by.result
    (c.is_sorted_by.ensures.cases (λ x y. nat_le x y) (answers_always _ _ _ (λ f a r g call. search rules)))
