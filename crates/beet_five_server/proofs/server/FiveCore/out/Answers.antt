use Rattle.std.proofs.Common.{arith, sym, ◌∙◌}
use Rattle.beet_five_server.specs.Cores.{has_ended}
use Rattle.beet_five_server.proofs.Standing.{after-out, messages-are}
use Rattle.beet_five_server.proofs.server.FiveCore.out.Goals as goal
use Rattle.beet_server.proofs.Delivering.{not-handed}

pub returns-clause-fits : goal.returns-clause-fits
returns-clause-fits g c = λ o x fits.
    let next = g.S.Script.batch_of in
    let old = c.args.self.now in
    let quiet = sym c.sent.ensures ∙ c.if-sent.false in
    let both = not-handed old.work.handed (has_ended next old.work) quiet in
    let tied = c.hand_out.ensures.tied in
    after-out next o x old c.hand_out.new.self tied.server tied.round (omega (arith, tied.room, c.hand_out.ensures.within))
    both.0 both.1 c.hand_out.ensures.leaves fits

pub returns-clause-messages : goal.returns-clause-messages
returns-clause-messages g c = λ o x fits.
    let next = g.S.Script.batch_of in
    let old = c.args.self.now in
    let quiet = sym c.sent.ensures ∙ c.if-sent.false in
    let both = not-handed old.work.handed (has_ended next old.work) quiet in
    c.hand_out.ensures.hands
    ∙ messages-are next o x old.work old.mail c.hand_out.ensures.tied.server fits.stands both.0

pub returns-clause-room : goal.returns-clause-room
returns-clause-room g c = omega (arith, c.hand_out.ensures.tied.room, c.hand_out.ensures.within)
