use Rattle.std.proofs.Common.{◌≡◌, ◌<◌, length, ap, subst, sym, ◌∙◌}
use Rattle.beet_five_server.specs.Answers.{AreTied, Core}
use Rattle.beet_five_server.specs.Cores.{sends}
use Rattle.beet_five_server.specs.Parts.{by_sender}
use Rattle.beet_five_server.proofs.Handing.{length-sends, sender-is}
use Rattle.beet_five_server.proofs.server.FiveCore.hand_out.Given.{Over}
use Rattle.beet_five_server.proofs.server.FiveCore.hand_out.Goals as goal

pub put_own-requires-clause-wanted : goal.put_own-requires-clause-wanted
put_own-requires-clause-wanted g c =
    let next = g.S.Script.batch_of in
    let w = c.self.inside.engine in
    ap (λ m. length m.numbers.items) c.address-own.ensures.own
    ∙ (λ i. length
    (by_sender (c.hand_out.ensures.one i) (c.hand_out.ensures.two i) (c.hand_out.ensures.three i) (c.hand_out.ensures.four i)
    (c.hand_out.ensures.five i) (c.me-me.ensures i)))
    ∙ ap length (sender-is (sends next w) w.me c.self.invariant.server) ∙ length-sends next w w.me ∙ sym c.self.invariant.want

-- what holds of the server inside holds of it as it is seen
tied-seen : (g : Over) (seen inside : Core g.row.S.Denot) → inside ≡ seen →
    AreTied g.S.Script.batch_of (g.S.Script.rounds_of inside.work.script) inside.work inside.mail →
    AreTied g.S.Script.batch_of (g.S.Script.rounds_of seen.work.script) seen.work seen.mail
tied-seen g seen inside e =
    subst (λ (v : Core g.row.S.Denot). AreTied g.S.Script.batch_of (g.S.Script.rounds_of v.work.script) v.work v.mail) e

within-seen : (g : Over) (seen inside : Core g.row.S.Denot) → inside ≡ seen →
    inside.work.round < g.S.Script.rounds_of inside.work.script → seen.work.round < g.S.Script.rounds_of seen.work.script
within-seen g seen inside e = subst (λ (v : Core g.row.S.Denot). v.work.round < g.S.Script.rounds_of v.work.script) e

pub returns-then-ready-clause-tied : goal.returns-then-ready-clause-tied
returns-then-ready-clause-tied g c = tied-seen g _ _ c.self.view_is c.self.invariant

pub returns-then-ready-clause-within : goal.returns-then-ready-clause-within
returns-then-ready-clause-within g c = within-seen g _ _ c.self.view_is c.hand_out.ensures.within

pub returns-else-ready-clause-tied : goal.returns-else-ready-clause-tied
returns-else-ready-clause-tied g c = tied-seen g _ _ c.self.view_is c.self.invariant

pub returns-else-ready-clause-within : goal.returns-else-ready-clause-within
returns-else-ready-clause-within g c = within-seen g _ _ c.self.view_is c.hand_out.ensures.within
