use Rattle.std.proofs.Common.{◌≡◌, ◌+◌, ◌++◌, sym, ap, ◌∙◌, true, false}
use Rattle.beet_gates.specs.Clear.{is_end, with_lets}
use Rattle.beet_gates.specs.Scripts.{size_of}
use Rattle.beet_gates.specs.declared.Act.{Act}
use Rattle.beet_gates.specs.declared.Batch.{Batch}
use Rattle.beet_five_server.specs.Cores.{Work, batch_of, passing}
use Rattle.beet_five_server.specs.Parts.{by_sender, numbers_opened, points_given}
use Rattle.beet_five_server.proofs.Givings.{numbers-are, points-are}
use Rattle.beet_five_server.proofs.engine.Engine.pass.Goals as goal

pub pass_round-requires : goal.pass_round-requires
pass_round-requires g c =
    let e = c.self.inside in
    let handed : e.handed ≡ true = ap (λ (w : Work g.row.S.Denot). w.handed) c.self.view_is ∙ c.requires.handed in
    let same = ap (λ (b : Batch). b.act) c.self.invariant.0.coming
    ∙ ap (λ (w : Work g.row.S.Denot). (batch_of g.S.Script.batch_of w).act) c.self.view_is in
    let one = sym c.requires.one in
    record {
      goes = ap is_end same ∙ c.requires.goes;
      even = (c.requires.two ∙ one, c.requires.three ∙ one, c.requires.four ∙ one, c.requires.five ∙ one);
      count = c.requires.one ∙ ap size_of (sym same);
      place = c.self.invariant.1;
      sound = (2, e.tapes.masks, e.tapes.coefficients, rw handed at c.self.invariant.0);
    }

pub returns-clause-work : goal.returns-clause-work
returns-clause-work g c =
    let e = c.self.inside in
    let next = g.S.Script.batch_of in
    let given = c.args.given in
    let from = by_sender given.one.now given.two.now given.three.now given.four.now given.five.now in
    let coming = ap (λ (b : Batch). b.act) c.self.invariant.0.coming in
    let points = points-are from e.batch.act ∙ ap (λ (a : Act). points_given a from) coming in
    let numbers = numbers-are from e.batch.act ∙ ap (λ (a : Act). numbers_opened a from) coming in
    let opened = c.pass_round.ensures.opened ∙ ap (λ l. e.opened.items ++ l) numbers in
    let wires = c.pass_round.ensures.wires
    ∙ (λ i. with_lets (e.wires.items ++ points i) (next e.script (e.round + 1) (opened i)).lets.items) in
    (λ i. record {
      me = e.me;
      script = e.script;
      masks = e.tapes.masks;
      coefficients = e.tapes.coefficients;
      round = e.round + 1;
      wires = wires i;
      opened = opened i;
      handed = false;
    }) ∙ ap (λ (w : Work g.row.S.Denot). passing next w from) c.self.view_is

pub invariant_of-self : goal.invariant_of-self
invariant_of-self g c =
    let e = c.self.inside in
    let handed : e.handed ≡ true = ap (λ (w : Work g.row.S.Denot). w.handed) c.self.view_is ∙ c.requires.handed in (
      c.pass_round.ensures.sound 2 e.tapes.masks e.tapes.coefficients (rw handed at c.self.invariant.0),
      c.pass_round.ensures.place,
      c.pass_round.ensures.came c.self.invariant.2,
      c.self.invariant.3,
    )
