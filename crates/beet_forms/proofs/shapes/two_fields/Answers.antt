use Rattle.std.proofs.Common.{arith}
use Rattle.std.proofs.lemmas.List.{drop_all}
use Rattle.beet_forms.proofs.RowFacts.{drop-field}
use Rattle.beet_forms.proofs.shapes.two_fields.Goals as goal

pub returns : goal.returns
returns c =
    let field0 = drop-field c.args.row.now 0 c.field_within.result.now c.field_within.ensures in
    let field1 = drop-field c.args.row.now 1 c.field_within-2.result.now c.field_within-2.ensures in
    let end = drop_all 2 c.args.row.now (omega arith) in
    cc (end, field0, field1)
