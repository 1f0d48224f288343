use Rattle.std.proofs.Common.{string_bytes, sym, ◌∙◌}
use Rattle.beet_app.proofs.Tables.{first-names}
use Rattle.beet_app.proofs.five.names_five.Goals as goal

pub returns-in-Some : goal.returns-in-Some
returns-in-Some c =
    (rw c.as_str.ensures.value at c.is_five.ensures)
    ∙ sym (first-names string_bytes c.args.words.now c.in-Some.name.now c.in-Some.ensures.value)
