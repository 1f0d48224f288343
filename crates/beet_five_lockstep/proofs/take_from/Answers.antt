use Rattle.std.proofs.Common.{◌≡◌, ◌≢◌, ◌-◌, Some, slice_get, sym, ◌∙◌, arith}
use Rattle.std.specs.Prelude.{slice_index_or}
use Rattle.std.proofs.lemmas.Option.{same_Some, slice_get-get_or}
use Rattle.beet_five_server.specs.Fits.{message_of, messages_from}
use Rattle.beet_five_server.specs.Network.{rank}
use Rattle.beet_five_server.proofs.Peers.{peer-sends}
use Rattle.beet_five_server.proofs.Ranks.{at-rank}
use Rattle.beet_five_lockstep.proofs.OneRound.{is-quiet, passes-over, takes-one}
use Rattle.beet_five_lockstep.proofs.take_from.Given.{Over}
use Rattle.beet_five_lockstep.proofs.take_from.Goals.{After-index-sent-from}
use Rattle.beet_five_lockstep.proofs.take_from.Goals as goal

-- what the sender handed out is at its place
here : (g : Over) (c : After-index-sent-from g) →
    slice_get c.args.sent.now (c.args.from - 1)
    ≡ Some (slice_index_or c.args.sent.now (c.args.from - 1) c.index-sent-from.result)
here g c =
    slice_get-get_or c.args.sent.now (c.args.from - 1) c.index-sent-from.result (omega (arith, c.requires.may.room, c.requires.from))

pub deliver-requires : goal.deliver-requires
deliver-requires g c =
    let r = c.requires.may in
    let may = peer-sends c.args.from r.s c.requires.from r.server
    (λ e. c.if-from-to.false (e ∙ sym (c.me-to.ensures.value ∙ r.has_handed.name))) in
    record {
      sent = is-quiet g.S.Script.batch_of r.o r.script r.t r.s r.server r.is_round c.args.from may c.args.core.now r.has_handed;
    }

pub unreachable-requires : goal.unreachable-requires
unreachable-requires g c =
    let is = c.requires.may.are_sent c.args.from c.requires.from _ (here g (goal.at.unreachable-requires g c).After-index-sent-from) in
    cc (is, c.in-None.is)

pub returns-then-from-to : goal.returns-then-from-to
returns-then-from-to g c = λ o script t s server is sent h.
    let next = g.S.Script.batch_of in
    let own : c.args.from ≡ s = c.if-from-to.true ∙ c.me-to.ensures.value ∙ h.name in
    rw own (passes-over next o script t s server is c.args.core.now (rw own at h))

pub returns : goal.returns
returns g c = λ o script t s server is sent h.
    let next = g.S.Script.batch_of in
    let from = c.args.from in
    let name : c.me-to.result ≡ s = c.me-to.ensures.value ∙ h.name in
    let apart : from ≢ s = λ e. c.if-from-to.false (e ∙ sym name) in
    let row : c.in-Some.messages ≡ messages_from o from t =
    same_Some c.in-Some.messages (messages_from o from t)
    (sym c.in-Some.is ∙ sent from c.requires.from _ (here g (goal.at.returns g c).After-index-sent-from)) in
    let m_is : c.copy.result ≡ message_of o from s t =
    c.copy.ensures
    ∙ same_Some c.message_to.result.now (message_of o from s t)
    (sym c.message_to.ensures ∙ (λ i. slice_get (row i) (rank from (name i))) ∙ at-rank o from s t c.requires.from server apart) in
    takes-one next o script t s server is from (peer-sends from s c.requires.from server apart) c.args.core.now h c.deliver.new.self
    c.copy.result (record { verdict = c.deliver.result; answers = c.deliver.ensures.verdict; fits_by = c.deliver.ensures.fits }) m_is
