use Rattle.std.proofs.Common.{◌≡◌, subst, ◌∙◌}
use Rattle.beet_five_server.specs.Answers.{Core, MovesOn}
use Rattle.beet_five_server.specs.Cores.{passing}
use Rattle.beet_five_server.specs.Mails.{Turned, numbers_at}
use Rattle.beet_five_server.specs.Parts.{by_sender}
use Rattle.beet_five_server.proofs.Handing.{passing-same}
use Rattle.beet_five_server.proofs.server.FiveCore.turn.Goals as goal

pub returns : goal.returns
returns g c =
    let next = g.S.Script.batch_of in
    let w = c.self.inside.engine in
    let b = c.self.inside.mail in
    let work : c.pass.new.self ≡ passing next w (numbers_at b) =
    c.pass.ensures.work
    ∙ (λ i. passing next w
    (by_sender (c.numbers.ensures.numbers i) (c.numbers-2.ensures.numbers i) (c.numbers-3.ensures.numbers i)
    (c.numbers-4.ensures.numbers i) (c.numbers-5.ensures.numbers i)))
    ∙ passing-same next w (numbers_at b) in
    subst (λ (v : Core g.row.S.Denot). MovesOn next v (record { work = c.pass.new.self; mail = c.turn.new.self })) c.self.view_is
    (record { work = work; mail = subst (λ n. Turned b c.turn.new.self n) c.size-size.ensures.size c.turn.ensures })
