use Rattle.std.proofs.Common.{true≢false, refl, sym, ap, subst, ◌∙◌}
use Rattle.beet_server.specs.Cores.{Core, has_ended, is_quiet}
use Rattle.beet_server.specs.Steps.{core_of, moved_on}
use Rattle.beet_server.specs.Answers.{Keeps, Answers}
use Rattle.beet_server.proofs.Delivering.{FitsAfter, ToldAfter, after-late, after-offer, after-ready, handed-first, told-ended, told-offer}
use Rattle.beet_server.proofs.server.ServerCore.deliver.Goals as goal

pub returns-then-ended : goal.returns-then-ended
returns-then-ended g c =
    let next = g.S.Script.batch_of in
    let ended = ap (λ (v : Core g.row.S.Denot). has_ended next v) (sym c.self.view_is) ∙ sym c.ended.ensures ∙ c.if-ended.true in
    record {
      keeps = record { me = refl; script = refl; masks = refl; coefficients = refl };
      masks = refl;
      coefficients = refl;
      ended = λ _. (refl, c.late_verdict.ensures);
      verdict = λ goes. absurd (true≢false (sym ended ∙ goes));
      fits = after-late next c.args.self.now c.args.m.now ended;
      told = told-ended next c.args.self.now c.args.m.now c.late_verdict.result ended c.late_verdict.ensures;
    }

pub returns-in-Ready : goal.returns-in-Ready
returns-in-Ready g c =
    let next = g.S.Script.batch_of in
    let old = core_of c.self.inside.engine c.self.inside.received.messages c.self.inside.mail in
    let new = moved_on next (core_of c.self.inside.engine c.self.inside.received.messages c.offer-verdict.new.self) in
    let goes = sym c.ended.ensures ∙ c.if-ended.false in
    let quiet = ap (λ (v : Core g.row.S.Denot). is_quiet next v) c.self.view_is ∙ c.requires.sent in
    let handed = handed-first c.self.inside.engine.handed (has_ended next old) quiet goes in
    let fits = after-ready next old c.offer-verdict.new.self c.args.m.now c.self.invariant.me c.self.invariant.round
    c.in-Ready.ensures handed goes in
    record {
      keeps = rw c.turn.ensures (subst (λ (v : Core g.row.S.Denot). Keeps v new) c.self.view_is
          (record { me = refl; script = refl; masks = refl; coefficients = refl }));
      masks = rw c.turn.ensures (ap (λ (v : Core g.row.S.Denot). v.masks) c.self.view_is);
      coefficients = rw c.turn.ensures (ap (λ (v : Core g.row.S.Denot). v.coefficients) c.self.view_is);
      ended = λ e. absurd (true≢false (sym e ∙ ap (λ (v : Core g.row.S.Denot). has_ended next v) (sym c.self.view_is) ∙ goes));
      verdict = λ _. subst (λ (v : Core g.row.S.Denot).
          Answers next v c.turn.new.self c.args.m.now c.offer-verdict.result) c.self.view_is (record {
            box = c.offer-verdict.new.self;
            judged = c.offer-verdict.ensures;
            waits = λ other. absurd (other c.in-Ready.is);
            passes = λ _. c.turn.ensures;
          });
      fits = subst (λ (v : Core g.row.S.Denot). FitsAfter next c.args.self.now v c.args.m.now) (sym c.turn.ensures)
          (subst (λ (v : Core g.row.S.Denot). FitsAfter next v new c.args.m.now) c.self.view_is fits);
      told = subst (λ (v : Core g.row.S.Denot). ToldAfter next v c.args.m.now c.offer-verdict.result) c.self.view_is
          (told-offer next old c.offer-verdict.new.self c.args.m.now c.offer-verdict.result c.self.invariant.me c.self.invariant.round
          c.self.invariant.want c.offer-verdict.ensures);
    }

pub returns-in_default : goal.returns-in_default
returns-in_default g c =
    let next = g.S.Script.batch_of in
    let old = core_of c.self.inside.engine c.self.inside.received.messages c.self.inside.mail in
    let new = core_of c.self.inside.engine c.self.inside.received.messages c.offer-verdict.new.self in
    let goes = sym c.ended.ensures ∙ c.if-ended.false in
    let quiet = ap (λ (v : Core g.row.S.Denot). is_quiet next v) c.self.view_is ∙ c.requires.sent in
    let handed = handed-first c.self.inside.engine.handed (has_ended next old) quiet goes in
    record {
      keeps = subst (λ (v : Core g.row.S.Denot). Keeps v new) c.self.view_is
          (record { me = refl; script = refl; masks = refl; coefficients = refl });
      masks = ap (λ (v : Core g.row.S.Denot). v.masks) c.self.view_is;
      coefficients = ap (λ (v : Core g.row.S.Denot). v.coefficients) c.self.view_is;
      ended = λ e. absurd (true≢false (sym e ∙ ap (λ (v : Core g.row.S.Denot). has_ended next v) (sym c.self.view_is) ∙ goes));
      verdict = λ _. subst (λ (v : Core g.row.S.Denot). Answers next v new c.args.m.now c.offer-verdict.result) c.self.view_is (record {
        box = c.offer-verdict.new.self;
        judged = c.offer-verdict.ensures;
        waits = λ _. refl;
        passes = λ e. absurd (c.in_default.not-Ready e);
      });
      fits = subst (λ (v : Core g.row.S.Denot). FitsAfter next v new c.args.m.now) c.self.view_is
          (after-offer next old c.offer-verdict.new.self c.args.m.now c.offer-verdict.result c.self.invariant.me c.self.invariant.round
          c.self.invariant.want c.offer-verdict.ensures c.in_default.not-Ready handed);
      told = subst (λ (v : Core g.row.S.Denot). ToldAfter next v c.args.m.now c.offer-verdict.result) c.self.view_is
          (told-offer next old c.offer-verdict.new.self c.args.m.now c.offer-verdict.result c.self.invariant.me c.self.invariant.round
          c.self.invariant.want c.offer-verdict.ensures);
    }
