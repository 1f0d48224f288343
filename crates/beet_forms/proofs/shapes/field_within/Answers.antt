use Rattle.std.proofs.Common.{sym, ◌∙◌, ap, option_map}
use Rattle.beet_forms.proofs.RowFacts.{field-there}
use Rattle.beet_forms.proofs.shapes.field_within.Goals as goal

pub unreachable-requires : goal.unreachable-requires
unreachable-requires c =
    field-there c.args.row.now c.args.i c.requires (sym c.field.ensures ∙ ap (option_map (λ s. s.now)) c.in-None.is)
