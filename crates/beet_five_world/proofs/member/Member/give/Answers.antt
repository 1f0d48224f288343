use Rattle.std.proofs.Common.{◌≤◌, ℕ, sym, ap, subst, ◌∙◌}
use Rattle.std.specs.Prelude.{vec_capacity}
use Rattle.beet_delivery.specs.Networks.{Delivered, with_triple}
use Rattle.beet_weights.specs.Quadratics.{IsServer}
use Rattle.beet_five_server.specs.Cores.{is_quiet}
use Rattle.beet_five_server.specs.Network.{five}
use Rattle.beet_five_world.specs.Members.{Gives, Seen, verdict_at}
use Rattle.beet_five_world.proofs.MemberFacts.{delivered-goes, delivered-same, quiet-after, still-member, verdict-told}
use Rattle.beet_five_world.proofs.member.Member.give.Goals as goal

pub hand_out-requires : goal.hand_out-requires
hand_out-requires g c =
    let next = g.S.Script.batch_of in
    let old = c.self.inside.core in
    let d = c.deliver-verdict.new.self in
    let k = c.self.invariant in
    let quiet = ap (λ (v : Seen g.row.S.Denot). is_quiet next v.core.work) c.self.view_is ∙ c.requires in
    let same = delivered-same next old d c.args.m c.deliver-verdict.result quiet
    (λ e. (c.deliver-verdict.ensures.ended e).0) c.deliver-verdict.ensures.verdict in
    record {
      server = subst IsServer (sym same.0) k.server;
      counted = k.counted ∙ sym same.2;
      fit = subst (λ s. g.S.Script.rounds_of s ≤ vec_capacity c.self.inside.sent) (sym same.1) k.fit;
    }

pub returns : goal.returns
returns g c =
    let next = g.S.Script.batch_of in
    let old = c.self.inside.core in
    let d = c.deliver-verdict.new.self in
    let quiet = ap (λ (v : Seen g.row.S.Denot). is_quiet next v.core.work) c.self.view_is ∙ c.requires in
    let same = delivered-same next old d c.args.m c.deliver-verdict.result quiet
    (λ e. (c.deliver-verdict.ensures.ended e).0) c.deliver-verdict.ensures.verdict in
    let server = subst IsServer (sym same.0) c.self.invariant.server in
    record {
      gives = subst
          (λ (v : Seen g.row.S.Denot). Gives next v
          (record { core = c.hand_out-2.new.core; sent = c.hand_out-2.new.sent.items }) c.args.m) c.self.view_is
          (λ o x j t k may is is_round near.
          let y : Delivered ℕ = with_triple five x (record { from = j; to = old.work.me; round = t }) in
          let fits = c.deliver-verdict.ensures.fits o x j t k.fits may is is_round near in
          let first = c.hand_out.ensures.members o y (still-member next o y old d c.self.inside.sent.items same.0 same.2 fits k.messages
          (delivered-goes next old d c.args.m c.deliver-verdict.result
          (λ e. (c.deliver-verdict.ensures.ended e).0) c.deliver-verdict.ensures.verdict k.goes)) in
          let second = c.hand_out-2.ensures.members o y first in (
            second,
            quiet-after next o y d c.hand_out.new.core c.hand_out-2.new.core server fits first.fits
                (λ q. (c.hand_out.ensures.same q).0) (λ q. (c.hand_out.ensures.moved q).0)
                (λ q. (c.hand_out-2.ensures.same q).0) c.hand_out-2.ensures.moved,
          ));
      me = c.hand_out-2.ensures.me ∙ c.hand_out.ensures.me ∙ same.0 ∙ ap (λ (v : Seen g.row.S.Denot). v.core.work.me) c.self.view_is;
      script = c.hand_out-2.ensures.script ∙ c.hand_out.ensures.script ∙ same.1
          ∙ ap (λ (v : Seen g.row.S.Denot). v.core.work.script) c.self.view_is;
      verdict =
          verdict-told next old c.args.m c.deliver-verdict.result (λ e. (c.deliver-verdict.ensures.ended e).1)
          (λ goes. (c.deliver-verdict.ensures.verdict goes).verdict)
          ∙ ap (λ (v : Seen g.row.S.Denot). verdict_at next v.core c.args.m) c.self.view_is;
    }
