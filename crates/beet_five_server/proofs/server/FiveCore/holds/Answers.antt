use Rattle.std.proofs.Common.{is_some, ap, ◌∙◌, arith}
use Rattle.beet_five_server.specs.Answers.{Core}
use Rattle.beet_five_server.specs.Mails.{cell}
use Rattle.beet_five_server.proofs.server.FiveCore.holds.Goals as goal

pub is_filled-requires-clause-near : goal.is_filled-requires-clause-near
is_filled-requires-clause-near g c =
    let same = ap (λ (v : Core g.row.S.Denot). v.work.round) c.self.view_is in
    omega (arith, c.requires.near, same, c.self.invariant.round)

pub returns : goal.returns
returns g c =
    c.is_filled.ensures
    ∙ ap (λ (v : Core g.row.S.Denot). is_some (cell v.mail.places c.args.round c.args.from)) c.self.view_is
