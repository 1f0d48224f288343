use Rattle.std.proofs.Common.{sym, ◌∙◌}
use Rattle.beet_book.proofs.Begins.{begins-field, begins-none}
use Rattle.beet_five_load.proofs.server_file.begins_with.Goals as goal

pub returns-in-Some : goal.returns-in-Some
returns-in-Some c = c.eq.ensures ∙ sym (begins-field c.args.row.now c.args.text.now c.in-Some.field.now (sym c.in-Some.ensures))

pub returns-in-None : goal.returns-in-None
returns-in-None c = sym (begins-none c.args.row.now c.args.text.now (sym c.in-None.ensures))
