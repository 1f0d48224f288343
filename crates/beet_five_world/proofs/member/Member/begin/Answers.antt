use Rattle.std.proofs.Common.{◌≡◌, sym, ap, ◌∙◌, true≢false}
use Rattle.beet_gates.specs.Each.{each}
use Rattle.beet_gates.proofs.EachFacts.{each-zero}
use Rattle.beet_five_server.specs.Fits.{messages_from, taken}
use Rattle.beet_five_world.specs.Members.{IsMember, handed_rounds}
use Rattle.beet_five_world.proofs.MemberFacts.{quiet-after}
use Rattle.beet_five_world.proofs.member.Member.begin.Goals as goal

pub returns : goal.returns
returns g c =
    let next = g.S.Script.batch_of in
    let core = c.args.core in
    let none : handed_rounds core ≡ 0 = λ i. taken (c.requires.round i) (c.requires.handed i) in
    record {
      me = c.hand_out-2.ensures.me ∙ c.hand_out.ensures.me;
      script = c.hand_out-2.ensures.script ∙ c.hand_out.ensures.script;
      begins = λ o x fits.
          let start : IsMember next o x core c.in_ok-sent.sent.items = record {
            fits = fits;
            messages = c.in_ok-sent.ensures.items
                ∙ sym (ap (each (messages_from o core.work.me)) none ∙ each-zero (messages_from o core.work.me));
            goes = λ h. absurd (true≢false (sym h ∙ c.requires.handed));
          } in
          let first = c.hand_out.ensures.members o x start in (
            c.hand_out-2.ensures.members o x first,
            quiet-after next o x core c.hand_out.new.core c.hand_out-2.new.core c.requires.server fits first.fits
                (λ q. (c.hand_out.ensures.same q).0) (λ q. (c.hand_out.ensures.moved q).0)
                (λ q. (c.hand_out-2.ensures.same q).0) c.hand_out-2.ensures.moved,
          );
    }
