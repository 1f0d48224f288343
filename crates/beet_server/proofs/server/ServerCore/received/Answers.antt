use Rattle.std.proofs.Common.{◌≡◌, ◌≤◌, None, Some, sym, ap, subst, ◌∙◌, arith}
use Rattle.beet_server.specs.Cores.{Core}
use Rattle.beet_server.specs.Steps.{core_of, received_from}
use Rattle.beet_round.specs.Sides.{side_of}
use Rattle.beet_server.proofs.Receiving.{none-received}
use Rattle.beet_server.proofs.KeptFacts.{from-kept}
use Rattle.beet_server.proofs.server.ServerCore.received.Goals as goal

pub returns-then-round-clause-numbers : goal.returns-then-round-clause-numbers
returns-then-round-clause-numbers g c =
    let old = core_of c.self.inside.engine c.self.inside.received.messages c.self.inside.mail in
    let late : c.self.inside.engine.round ≤ c.args.round = omega (arith, c.round.ensures, c.if-round.true) in
    subst (λ (v : Core g.row.S.Denot). None ≡ received_from v c.args.round c.args.sender) c.self.view_is
    (none-received old c.args.round c.args.sender c.self.invariant.count late)

pub numbers-requires : goal.numbers-requires
numbers-requires g c =
    omega (arith, c.round.ensures, c.if-round.false, c.self.invariant.count)

pub returns-clause-numbers : goal.returns-clause-numbers
returns-clause-numbers g c =
    let old = core_of c.self.inside.engine c.self.inside.received.messages c.self.inside.mail in
    let side = ap (λ p. side_of p c.args.sender) (sym c.me.ensures) ∙ sym c.of.ensures.value ∙ c.in_ok-side.was in
    subst (λ (v : Core g.row.S.Denot). Some c.numbers.result.now ≡ received_from v c.args.round c.args.sender) c.self.view_is
    (c.numbers.ensures.numbers ∙ from-kept old c.args.round c.args.sender c.in_ok-side.side side)
