use Rattle.std.proofs.Common.{sym, subst, ap}
use Rattle.std.proofs.lemmas.Result.{err_from_is_err_and}
use Rattle.beet_delivery.specs.Events.{nothing}
use Rattle.beet_server.specs.Cores.{Core, IsFresh}
use Rattle.beet_server.specs.Fits.{Fits}
use Rattle.beet_server.specs.Kept.{KeptMessages}
use Rattle.beet_server.proofs.Starting.{started, is-fresh, begins}
use Rattle.beet_server.proofs.server.ServerCore.start.Goals as goal

pub returns-in_err-received-clause-words : goal.returns-in_err-received-clause-words
returns-in_err-received-clause-words g c = λ have.
    let given = err_from_is_err_and c.from_residual.result c.from_residual.ensures.1 in
    let told = c.in_err-received.ensures.words have in
    rw (given.1, given.2) (λ is. told.0 (cc is), λ few. cc (told.1 few))

pub returns-in_err-received-clause-masks : goal.returns-in_err-received-clause-masks
returns-in_err-received-clause-masks g c = λ have.
    let given = err_from_is_err_and c.from_residual.result c.from_residual.ensures.1 in
    let told = c.in_err-received.ensures.masks have in
    rw (given.1, given.2) (λ is. told.0 (cc is), λ few. cc (told.1 few))

pub returns-clause-fresh : goal.returns-clause-fresh
returns-clause-fresh g c =
    let next = g.S.Script.batch_of in
    let is = started next c.args.me c.args.script c.args.inputs c.args.masks c.args.coefficients
    c.start-engine.result c.in_ok-received.received.messages c.new-mail.result c.size.result
    (rw c.as_slice.ensures at c.start-engine.ensures)
    (ap (λ (k : KeptMessages). k.messages) c.in_ok-received.ensures.received) c.new-mail.ensures c.size.ensures.size in
    subst (λ (v : Core g.row.S.Denot). IsFresh next g.S.Script.inputs_of v) (sym is)
    (is-fresh next c.args.me c.args.script c.args.inputs c.args.masks c.args.coefficients c.requires.masks c.requires.coefficients
    g.S.Script.inputs_of c.requires.inputs)

pub returns-clause-fits : goal.returns-clause-fits
returns-clause-fits g c o opens =
    let next = g.S.Script.batch_of in
    let is = started next c.args.me c.args.script c.args.inputs c.args.masks c.args.coefficients
    c.start-engine.result c.in_ok-received.received.messages c.new-mail.result c.size.result
    (rw c.as_slice.ensures at c.start-engine.ensures)
    (ap (λ (k : KeptMessages). k.messages) c.in_ok-received.ensures.received) c.new-mail.ensures c.size.ensures.size in
    subst (λ (v : Core g.row.S.Denot). Fits next o nothing v) (sym is)
    (begins next c.args.me c.args.script c.args.inputs c.args.masks c.args.coefficients c.requires.masks c.requires.coefficients o opens)
