use Rattle.std.proofs.Common.{◌≡◌, sym, subst, false, true≢false}
use Rattle.std.proofs.lemmas.Bool.{false_from_ne_true}
use Rattle.beet_five_server.specs.Cores.{is_quiet}
use Rattle.beet_five_world.specs.Members.{IsMember}
use Rattle.beet_five_world.proofs.MemberFacts.{member-out, steps-out}
use Rattle.beet_five_world.proofs.member.hand_out.Goals as goal

pub returns-in-Some-clause-members : goal.returns-in-Some-clause-members
returns-in-Some-clause-members g c = λ o x k.
    let next = g.S.Script.batch_of in
    let old = c.args.core.now in
    let quiet : is_quiet next old.work ≡ false = false_from_ne_true _ (λ e. absurd (true≢false (c.in-Some.ensures.quiet.1 e))) in
    subst (IsMember next o x c.out.new.self) (sym c.push_reserved.ensures.items)
    (member-out next o x old c.out.new.self c.args.sent.now.items c.in-Some.messages quiet c.in-Some.ensures.leaves
    (c.in-Some.ensures.fits o x k.fits) (c.in-Some.ensures.messages o x k.fits) k)

pub returns-in-Some-clause-me : goal.returns-in-Some-clause-me
returns-in-Some-clause-me g c =
    let next = g.S.Script.batch_of in
    let old = c.args.core.now in
    let quiet : is_quiet next old.work ≡ false = false_from_ne_true _ (λ e. absurd (true≢false (c.in-Some.ensures.quiet.1 e))) in
    (steps-out next old c.out.new.self quiet c.in-Some.ensures.leaves).me

pub returns-in-Some-clause-script : goal.returns-in-Some-clause-script
returns-in-Some-clause-script g c =
    let next = g.S.Script.batch_of in
    let old = c.args.core.now in
    let quiet : is_quiet next old.work ≡ false = false_from_ne_true _ (λ e. absurd (true≢false (c.in-Some.ensures.quiet.1 e))) in
    (steps-out next old c.out.new.self quiet c.in-Some.ensures.leaves).script
