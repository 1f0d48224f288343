use Rattle.std.proofs.Common.{ap, sym, ◌∙◌, ◌-◌}
use Rattle.beet_sale_script.proofs.Batches.{tail-some}
use Rattle.beet_sale_script.proofs.walk.Walk.tail_length.Goals as goal

pub returns-in-Some-clause-length : goal.returns-in-Some-clause-length
returns-in-Some-clause-length c =
    ap (λ n. n - 1) c.compare_rounds.ensures ∙ sym (tail-some c.args.self.now c.in-Some.field-0 c.in-Some.is)
