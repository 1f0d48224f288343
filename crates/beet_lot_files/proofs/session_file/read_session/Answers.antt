use Rattle.std.proofs.lemmas.Result.{err_from_is_err_and}
use Rattle.beet_lot_files.proofs.SessionRows.{lots-read, lots-unread}
use Rattle.beet_lot_files.proofs.session_file.read_session.Goals as goal

pub returns-in_err-rows : goal.returns-in_err-rows
returns-in_err-rows c =
    let p = err_from_is_err_and c.from_residual.result c.from_residual.ensures.1 in
    rw (p.1, p.2) (lots-unread _ c.in_err-rows.field-0.0 c.in_err-rows.ensures.reads)

pub returns : goal.returns
returns c = lots-read _ c.in_ok-rows.rows.items c.lots_of.result c.in_ok-rows.ensures.reads c.lots_of.ensures
