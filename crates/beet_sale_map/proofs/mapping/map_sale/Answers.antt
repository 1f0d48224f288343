use Rattle.std.proofs.lemmas.Result.{err_from_is_err_and}
use Rattle.beet_sale_map.proofs.Refused.{refused-map}
use Rattle.beet_sale_map.proofs.mapping.map_sale.Goals as goal

pub returns-in_err-agreement-clause-refused : goal.returns-in_err-agreement-clause-refused
returns-in_err-agreement-clause-refused c =
    let p = err_from_is_err_and c.from_residual.result c.from_residual.ensures.1 in
    rw (p.1, p.2) (refused-map c.args.me c.args.first.now c.args.second.now c.in_err-agreement.field-0.0 c.in_err-agreement.ensures.refused)
