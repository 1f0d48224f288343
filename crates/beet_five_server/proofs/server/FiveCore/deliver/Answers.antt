use Rattle.std.proofs.Common.{true≢false, sym, ap, subst, ◌∙◌}
use Rattle.beet_five_server.specs.Answers.{Answers, Core, MovesOn}
use Rattle.beet_five_server.specs.Cores.{has_ended, is_quiet}
use Rattle.beet_five_server.specs.Mails.{left_by}
use Rattle.beet_five_server.proofs.Delivering.{FitsAfter, after-late, after-ready, after-waits}
use Rattle.beet_five_server.proofs.server.FiveCore.deliver.Goals as goal
use Rattle.beet_server.proofs.Delivering.{handed-first}

pub returns-then-ended-clause-fits : goal.returns-then-ended-clause-fits
returns-then-ended-clause-fits g c =
    let next = g.S.Script.batch_of in
    let old : Core g.row.S.Denot = record { work = c.self.inside.engine; mail = c.self.inside.mail } in
    subst (λ (v : Core g.row.S.Denot). FitsAfter next v v c.args.m) c.self.view_is
    (after-late next old c.self.invariant.server c.args.m (sym c.ended.ensures ∙ c.if-ended.true))

pub returns-in-Ready-clause-fits : goal.returns-in-Ready-clause-fits
returns-in-Ready-clause-fits g c =
    let next = g.S.Script.batch_of in
    let old : Core g.row.S.Denot = record { work = c.self.inside.engine; mail = c.self.inside.mail } in
    let goes = sym c.ended.ensures ∙ c.if-ended.false in
    let quiet = ap (λ (v : Core g.row.S.Denot). is_quiet next v.work) c.self.view_is ∙ c.requires.sent in
    let handed = handed-first old.work.handed (has_ended next old.work) quiet goes in
    let inv = c.self.invariant in
    let room = rw inv.round at c.offer-verdict.ensures.room in
    let moves = subst (λ b. MovesOn next (record { work = old.work; mail = b }) c.turn.new.self) c.in-Ready.ensures.leaves c.turn.ensures in
    subst (λ (v : Core g.row.S.Denot). FitsAfter next v c.turn.new.self c.args.m) c.self.view_is
    (after-ready next old inv.server inv.me inv.round inv.want room handed c.args.m c.turn.new.self goes
    (sym c.in-Ready.ensures.verdict) moves)

pub returns-in_default : goal.returns-in_default
returns-in_default g c =
    let next = g.S.Script.batch_of in
    let old : Core g.row.S.Denot = record { work = c.self.inside.engine; mail = c.self.inside.mail } in
    let new : Core g.row.S.Denot = record { work = c.self.inside.engine; mail = c.offer-verdict.new.self } in
    let goes = sym c.ended.ensures ∙ c.if-ended.false in
    let quiet = ap (λ (v : Core g.row.S.Denot). is_quiet next v.work) c.self.view_is ∙ c.requires.sent in
    let handed = handed-first old.work.handed (has_ended next old.work) quiet goes in
    let inv = c.self.invariant in
    let room = rw inv.round at c.offer-verdict.ensures.room in
    let v = c.offer-verdict.ensures.verdict in
    let left = c.offer-verdict.ensures.leaves in
    let fits = after-waits next old inv.server inv.me inv.round inv.want room handed c.args.m (λ e. c.in_default.not-Ready (v ∙ e)) in
    record {
      ended = λ e. absurd (true≢false (sym e ∙ ap (λ (v : Core g.row.S.Denot). has_ended next v.work) (sym c.self.view_is) ∙ goes));
      verdict = λ _. subst (λ (k : Core g.row.S.Denot). Answers next k new c.args.m c.offer-verdict.result) c.self.view_is (record {
        verdict = v;
        waits = λ _. λ i. record { work = old.work; mail = left i };
        passes = λ e. absurd (c.in_default.not-Ready e);
      });
      fits = subst (λ (k : Core g.row.S.Denot). FitsAfter next k new c.args.m) c.self.view_is
          (subst (λ b. FitsAfter next old (record { work = old.work; mail = b }) c.args.m)
          (ap (λ r. left_by r old.mail c.args.m) (sym v) ∙ sym left) fits);
    }
