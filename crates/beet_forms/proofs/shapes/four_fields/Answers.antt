use Rattle.std.proofs.Common.{arith}
use Rattle.std.proofs.lemmas.List.{drop_all}
use Rattle.beet_forms.proofs.RowFacts.{drop-field}
use Rattle.beet_forms.proofs.shapes.four_fields.Goals as goal

pub returns : goal.returns
returns c =
    let field0 = drop-field c.args.row.now 0 c.field_within-first.result.now c.field_within-first.ensures in
    let field1 = drop-field c.args.row.now 1 c.field_within-second.result.now c.field_within-second.ensures in
    let field2 = drop-field c.args.row.now 2 c.field_within.result.now c.field_within.ensures in
    let field3 = drop-field c.args.row.now 3 c.field_within-2.result.now c.field_within-2.ensures in
    let end = drop_all 4 c.args.row.now (omega arith) in
    cc (end, field0, field1, field2, field3)
