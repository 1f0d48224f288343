use Rattle.std.proofs.Common.{◌≡◌, Bool, sym, subst}
use Rattle.std.proofs.lemmas.Result.{IfErr-weaker}
use Rattle.beet_field.specs.Trio.{member}
use Rattle.beet_field.specs.declared.point.Point.{Point}
use Rattle.beet_two_books.specs.Agreement.{AgreeFor}
use Rattle.beet_five_map.specs.FiveWorlds.{watching}
use Rattle.beet_five_map.proofs.Differing.{refused-for}
use Rattle.beet_five_map.proofs.agreeing.agreement.Goals as goal

pub returns-clause-agreed : goal.returns-clause-agreed
returns-clause-agreed c =
    let is : member c.watched.result ≡ watching c.args.two.a c.args.two.b = λ i s. c.watched.ensures s i in
    let agreed = c.agreement.ensures.agreed in (
      λ ok. subst (λ (knows : Point → Bool). AgreeFor knows c.args.first.now c.args.second.now) is (agreed.0 ok),
      λ a. agreed.1 (subst (λ (knows : Point → Bool). AgreeFor knows c.args.first.now c.args.second.now) (sym is) a),
    )

pub returns-clause-refused : goal.returns-clause-refused
returns-clause-refused c =
    IfErr-weaker c.agreement.result _ _
    (refused-for c.args.two.a c.args.two.b (member c.watched.result) c.watched.ensures c.args.first.now c.args.second.now)
    c.agreement.ensures.refused
