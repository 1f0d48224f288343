use Rattle.std.proofs.Common.{◌≡◌, ◌+◌, ◌*◌, [], None, ap, subst, sym, ◌∙◌}
use Rattle.std.specs.Prelude.{replicate}
use Rattle.beet_delivery.specs.Networks.{nothing}
use Rattle.beet_gates.specs.Scripts.{size_of}
use Rattle.beet_five_server.specs.Answers.{Core, fresh_core}
use Rattle.beet_five_server.specs.Cores.{Work, batch_of, fresh}
use Rattle.beet_five_server.specs.Fits.{Fits}
use Rattle.beet_five_server.proofs.Beginning.{begins}
use Rattle.beet_five_server.proofs.server.FiveCore.start.Goals as goal

pub returns-clause-fits : goal.returns-clause-fits
returns-clause-fits g c = λ o opens.
    let next = g.S.Script.batch_of in
    let rounds = g.S.Script.rounds_of c.args.script in
    let start : Core g.row.S.Denot = fresh_core next c.args.me c.args.script c.args.inputs c.args.masks c.args.coefficients rounds in
    let engine : c.start-engine.result ≡ fresh next c.args.me c.args.script c.args.inputs c.args.masks c.args.coefficients =
    rw c.as_slice.ensures at c.start-engine.ensures in
    let want : c.size.result ≡ size_of (next c.args.script 0 []).act =
    c.size.ensures.size ∙ ap (λ (w : Work g.row.S.Denot). size_of (batch_of next w).act) engine in
    let mail : c.in_ok-mail.mail ≡ start.mail =
    c.in_ok-mail.ensures
    ∙ (λ i. record { me = c.args.me; round = 0; want = want i; places = replicate (5 * (c.rounds-rounds.ensures.value i + 2)) None }) in
    subst (λ (v : Core g.row.S.Denot). Fits next o nothing v.work v.mail) (λ i. record { work = sym engine i; mail = sym mail i })
    (begins next c.args.me c.args.script c.args.inputs c.args.masks c.args.coefficients rounds
    c.requires.masks c.requires.coefficients o opens)
