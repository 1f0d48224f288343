use Rattle.std.proofs.Common.{◌≡◌, ◌+◌, ◌++◌, ℕ, List, None, Option, Some, length, sym, ap, ◌∙◌, true, false}
use Rattle.beet_field.specs.declared.point.Point.TheVariants.{One, Two, Three}
use Rattle.beet_gates.specs.Clear.{is_end, with_lets}
use Rattle.beet_gates.specs.Scripts.{size_of}
use Rattle.beet_gates.specs.declared.Act.{Act}
use Rattle.beet_gates.specs.declared.Batch.{Batch}
use Rattle.beet_round.specs.Sides.{side_of}
use Rattle.beet_round.specs.declared.sides.Side.{Side}
use Rattle.beet_round.specs.declared.sides.Side.TheVariants.{Low, High}
use Rattle.beet_sharing.specs.Steps.{numbers_opened, points_given}
use Rattle.beet_server.specs.Sound.{if_handed}
use Rattle.beet_server.specs.Steps.{Work, at_side, batch_of, passing}
use Rattle.beet_server.proofs.Givings.{numbers-are, points-are}
use Rattle.beet_server.proofs.engine.Engine.pass.Given.{Over}
use Rattle.beet_server.proofs.engine.Engine.pass.Goals.{After-of_sender-three}
use Rattle.beet_server.proofs.engine.Engine.pass.Goals as goal

-- one of three lists of this length
side-length : (o : Option Side) (own low high : List ℕ) (n : ℕ) → length own ≡ n → length low ≡ n → length high ≡ n →
    length (at_side o own low high) ≡ n
side-length None own low high n a b c = a
side-length (Some Low) own low high n a b c = b
side-length (Some High) own low high n a b c = c

-- what came of each sender
module _ (g : Over) (c : After-of_sender-three g) where
  is-handed : c.self.inside.handed ≡ true
  is-handed = ap (λ (w : Work g.row.S.Denot). w.handed) c.self.view_is ∙ c.requires.handed

  coming : c.self.inside.batch.act ≡ (g.S.Script.batch_of c.self.inside.script c.self.inside.round c.self.inside.opened.items).act
  coming = ap (λ (b : Batch). b.act) c.self.invariant.0.coming

  same : c.self.inside.batch.act ≡ (batch_of g.S.Script.batch_of c.args.self.now).act
  same = coming ∙ ap (λ (w : Work g.row.S.Denot). (batch_of g.S.Script.batch_of w).act) c.self.view_is

  own-length : length c.as_slice-own.result.now ≡ size_of c.self.inside.batch.act
  own-length = ap length c.as_slice-own.ensures.value ∙ c.self.invariant.1
      ∙ ap (λ b. if_handed b (size_of c.self.inside.batch.act)) is-handed

  of-side : (o : Option Side) →
      length (at_side o c.as_slice-own.result.now c.args.low.now c.args.high.now) ≡ size_of c.self.inside.batch.act
  of-side o = side-length o _ _ _ (size_of c.self.inside.batch.act) own-length (c.requires.low ∙ ap size_of (sym same))
      (c.requires.high ∙ ap size_of (sym same))

  one-length : length c.of_sender-one.result.now ≡ size_of c.self.inside.batch.act
  one-length = ap length c.of_sender-one.ensures ∙ of-side (side_of c.self.inside.me One)

  two-length : length c.of_sender-two.result.now ≡ size_of c.self.inside.batch.act
  two-length = ap length c.of_sender-two.ensures ∙ of-side (side_of c.self.inside.me Two)

  three-length : length c.of_sender-three.result.now ≡ size_of c.self.inside.batch.act
  three-length = ap length c.of_sender-three.ensures ∙ of-side (side_of c.self.inside.me Three)

pub pass_round-requires : goal.pass_round-requires
pass_round-requires g c =
    let after = (goal.at.pass_round-requires g c).After-of_sender-three in
    let e = c.self.inside in
    record {
      goes = ap is_end (same g after) ∙ c.requires.goes;
      even = (two-length g after ∙ sym (one-length g after), three-length g after ∙ sym (one-length g after));
      count = one-length g after;
      place = c.self.invariant.2;
      sound = (1, e.tapes.masks, e.tapes.coefficients, rw (is-handed g after) at c.self.invariant.0);
    }

pub returns-clause-work : goal.returns-clause-work
returns-clause-work g c =
    let after = (goal.at.returns-clause-work g c).After-of_sender-three in
    let e = c.self.inside in
    let next = g.S.Script.batch_of in
    let low = c.args.low.now in
    let high = c.args.high.now in
    let one = c.of_sender-one.result.now in
    let two = c.of_sender-two.result.now in
    let three = c.of_sender-three.result.now in
    let act = (next e.script e.round e.opened.items).act in
    let own = c.as_slice-own.ensures.value in
    let of_one = c.of_sender-one.ensures ∙ ap (λ l. at_side (side_of e.me One) l low high) own in
    let of_two = c.of_sender-two.ensures ∙ ap (λ l. at_side (side_of e.me Two) l low high) own in
    let of_three = c.of_sender-three.ensures ∙ ap (λ l. at_side (side_of e.me Three) l low high) own in
    let points = points-are one two three e.batch.act (one-length g after)
    ∙ ap (λ (a : Act). points_given a one two three) (coming g after)
    ∙ (λ i. points_given act (of_one i) (of_two i) (of_three i)) in
    let numbers = numbers-are one two three e.batch.act (one-length g after)
    ∙ ap (λ (a : Act). numbers_opened a one two three) (coming g after)
    ∙ (λ i. numbers_opened act (of_one i) (of_two i) (of_three i)) in
    let opened = c.pass_round.ensures.opened ∙ ap (λ l. e.opened.items ++ l) numbers in
    let wires = c.pass_round.ensures.wires
    ∙ (λ i. with_lets (e.wires.items ++ points i) (next e.script (e.round + 1) (opened i)).lets.items) in
    (λ i. record {
      me = e.me;
      script = e.script;
      masks = e.tapes.masks;
      coefficients = e.tapes.coefficients;
      round = e.round + 1;
      wires = wires i;
      opened = opened i;
      own = c.clear.ensures i;
      handed = false;
    }) ∙ ap (λ (w : Work g.row.S.Denot). passing next w low high) c.self.view_is

pub invariant_of-self : goal.invariant_of-self
invariant_of-self g c =
    let after = (goal.at.invariant_of-self g c).After-of_sender-three in
    let e = c.self.inside in (
      c.pass_round.ensures.sound 1 e.tapes.masks e.tapes.coefficients (rw (is-handed g after) at c.self.invariant.0),
      ap length c.clear.ensures,
      c.pass_round.ensures.place,
    )
