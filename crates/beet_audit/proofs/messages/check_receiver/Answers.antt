use Rattle.std.proofs.Common.{Ok, Err}
use Rattle.beet_round.specs.Sides.{peer}
use Rattle.beet_round.specs.declared.sides.Side.TheVariants.{Low, High}
use Rattle.beet_sharing.specs.Runs.{message}
use Rattle.beet_audit.specs.Audits.{Message, held_from}
use Rattle.beet_audit.proofs.RoundFacts.{judged-peer}
use Rattle.beet_audit.proofs.VerdictFacts.{exits, goes_on, stops}
use Rattle.beet_audit.proofs.messages.check_receiver.Goals as goal

pub returns-in_err-check_sender-clause-messages : goal.returns-in_err-check_sender-clause-messages
returns-in_err-check_sender-clause-messages c = λ o rounds at lt.
    let s = c.args.receiver in
    let t = c.args.round in
    let view = c.args.view.now in
    let core = c.args.core.now in
    stops (Message (peer s Low) s t (held_from view t (peer s Low)) (message o (peer s Low) s t))
    (Message (peer s High) s t (held_from view t (peer s High)) (message o (peer s High) s t))
    _ _ c.from_residual.ensures.1
    (judged-peer {U = Unit {0}} Low (Err c.in_err-check_sender.field-0.0) o rounds s view core t c.peer.result at lt
    c.peer.ensures.value c.in_err-check_sender.ensures.message)

pub returns-in_err-check_sender-2-clause-messages : goal.returns-in_err-check_sender-2-clause-messages
returns-in_err-check_sender-2-clause-messages c = λ o rounds at lt.
    let s = c.args.receiver in
    let t = c.args.round in
    let view = c.args.view.now in
    let core = c.args.core.now in
    let high = Message (peer s High) s t (held_from view t (peer s High)) (message o (peer s High) s t) in
    goes_on (Message (peer s Low) s t (held_from view t (peer s Low)) (message o (peer s Low) s t)) high _
    (judged-peer {U = Unit {0}} Low (Ok tt) o rounds s view core t c.peer.result at lt c.peer.ensures.value
    c.in_ok-check_sender.ensures.message)
    (exits high _ _ c.from_residual-in_err-check_sender-2.ensures.1
    (judged-peer {U = Unit {0}} High (Err c.in_err-check_sender-2.field-0.0) o rounds s view core t c.peer-2.result at lt
    c.peer-2.ensures.value c.in_err-check_sender-2.ensures.message))

pub returns-clause-messages : goal.returns-clause-messages
returns-clause-messages c = λ o rounds at lt.
    let s = c.args.receiver in
    let t = c.args.round in
    let view = c.args.view.now in
    let core = c.args.core.now in (
      judged-peer {U = Unit {0}} Low (Ok tt) o rounds s view core t c.peer.result at lt c.peer.ensures.value
          c.in_ok-check_sender.ensures.message,
      judged-peer {U = Unit {0}} High (Ok tt) o rounds s view core t c.peer-2.result at lt c.peer-2.ensures.value
          c.in_ok-check_sender-2.ensures.message,
    )
