use Rattle.std.proofs.Common.{Ok, Err}
use Rattle.std.proofs.lemmas.Result.{err_from_is_err_and}
use Rattle.beet_farmer.proofs.EntryParts.{entry-answers}
use Rattle.beet_farmer.proofs.list_file.read_entry.Goals as goal

pub returns-in_err-name-2-clause-entry : goal.returns-in_err-name-2-clause-entry
returns-in_err-name-2-clause-entry c =
    let fields = c.in-Some in
    let p = err_from_is_err_and c.from_residual-in_err-name-2.result c.from_residual-in_err-name-2.ensures.1 in
    rw (p.1, p.2)
    (entry-answers c.args.number c.args.row.now fields.name.now fields.one.now fields.two.now fields.three.now
    c.in_ok-name.name (Err c.in_err-name-2.field-0.0) fields.ensures c.in_ok-name.ensures
    (rw c.in_err-name-2.ensures at (c.read_envelopes.ensures c.in_ok-name.name)))

pub returns-clause-entry : goal.returns-clause-entry
returns-clause-entry c =
    let fields = c.in-Some in
    let both = c.in_ok-name-2.ensures in
    rw both.0
    (entry-answers c.args.number c.args.row.now fields.name.now fields.one.now fields.two.now fields.three.now c.in_ok-name.name
    (Ok (record { name = c.in_ok-name.name; envelopes = c.in_ok-name-2.envelopes })) fields.ensures c.in_ok-name.ensures
    (rw both.1 at (c.read_envelopes.ensures c.in_ok-name.name)))
