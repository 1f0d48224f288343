use Rattle.std.proofs.Common.{◌≡◌, ◌&&◌, not, nat_lt, false, length, is_some, sym, ap, subst, ◌∙◌, arith}
use Rattle.std.specs.Prelude.{if◌then◌else◌}
use Rattle.beet_five_server.specs.Answers.{Core}
use Rattle.beet_five_server.specs.Mails.{cell}
use Rattle.beet_delivery.specs.Networks.{is_missing}
use Rattle.beet_five_server.specs.Network.{five}
use Rattle.beet_five_world.specs.Members.{triple}
use Rattle.beet_five_world.proofs.MissingFacts.{missing-is, none-own}
use Rattle.beet_five_world.proofs.world.FiveWorld.missing.Goals as goal

pub holds-came-requires-clause-near : goal.holds-came-requires-clause-near
holds-came-requires-clause-near g c =
    let core = c.core.ensures in
    let near = c.requires.near c.args.to core.0 c.requires.to core.1 in
    let same = ap (λ (k : Core g.row.S.Denot). k.work.round) core.2 in
    omega (arith, near, same)

pub returns-then-from-to-clause-missing : goal.returns-then-from-to-clause-missing
returns-then-from-to-clause-missing g c = λ script o rounds x f.
    let none : is_missing five rounds x (triple c.args.from c.args.to c.args.round) ≡ false =
    subst (λ to. is_missing five rounds x (triple c.args.from to c.args.round) ≡ false) c.if-from-to.true
    (none-own rounds x c.args.round c.args.from c.requires.from) in
    sym (ap (λ b. if b then 1 else 0) none)

pub returns-clause-missing : goal.returns-clause-missing
returns-clause-missing g c = λ script o rounds x f.
    let core = c.core.ensures in
    let held = c.holds-came.ensures ∙ ap (λ (k : Core g.row.S.Denot). is_some (cell k.mail.places c.args.round c.args.from)) core.2 in
    let is = missing-is g.S.Script.batch_of script o rounds x c.args.self.now f c.args.from c.args.to c.args.round
    c.requires.from c.requires.to (λ e. c.if-from-to.false e) c.member.result.now core.0 c.member.ensures core.1 in
    c.one_if_missing.ensures ∙ ap (λ b. if b then 1 else 0)
    ((λ i. nat_lt c.args.round (length (c.sent.ensures i)) && not (held i)) ∙ sym is)

pub returns-clause-own : goal.returns-clause-own
returns-clause-own g c = λ e. absurd (c.if-from-to.false e)
