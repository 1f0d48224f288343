use Rattle.std.proofs.Common.{◌≡◌, ◌+◌, ◌<◌, ℕ, List, refl, arith, subst, take, drop, length, slice_index, ap, ◌∙◌, true, false}
use Rattle.std.proofs.lemmas.List.{length-map}
use Rattle.std.specs.Int.{bit_at}
use Rattle.beet_field.specs.declared.point.Point.{Point}
use Rattle.beet_words.specs.Tapes.{drawn_from, left_of}
use Rattle.beet_words.proofs.DrawnFrom.{left-drawn}
use Rattle.beet_gates.specs.Scripts.{deals_in, size_of}
use Rattle.beet_sharing.specs.Steps.{numbers_for}
use Rattle.beet_server.proofs.Soundness.{enough, hands-sound, in-wires, small-act, still-going, words-left}
use Rattle.beet_gates.specs.Clear.{is_end, product_of}
use Rattle.beet_gates.specs.declared.Act.{Act}
use Rattle.beet_gates.specs.declared.Act.TheVariants.{Deal, Mul, Reveal, End}
use Rattle.beet_gates.proofs.EachFacts.{length-each}
use Rattle.beet_gates.specs.declared.Batch.{Batch}
use Rattle.beet_gates.specs.Draws.{draws_in}
use Rattle.beet_server.specs.Steps.{Work, batch_of, handing}
use Rattle.beet_server.proofs.engine.Engine.hand_out.Goals as goal

-- a message has the size of its batch
length-numbers_for : (a : Act) (points : List ℕ) (word : ℕ) (drawn : List ℕ) (to : Point) →
    length (numbers_for a points word drawn to) ≡ size_of a
length-numbers_for Deal points word drawn to = length-each _ _ ∙ length-each (bit_at word) 61
length-numbers_for (Mul pairs) points word drawn to = length-each _ _ ∙ length-map pairs.items (product_of points)
length-numbers_for (Reveal shown) points word drawn to = length-map shown.items _
length-numbers_for End points word drawn to = refl

pub put_numbers-requires : goal.put_numbers-requires
put_numbers-requires g c =
    let s = c.self.invariant.0 in
    let handed : c.self.inside.handed ≡ false = ap (λ (w : Work g.row.S.Denot). w.handed) c.self.view_is ∙ c.requires.handed in
    record {
      below = rw c.as_slice.ensures.value (in-wires 3 1 _ _ _ _ _ _ _ _ _ _ _ _ s);
      few = small-act 3 1 _ _ _ _ _ _ _ _ _ _ _ _ s;
      words = words-left 3 1 _ _ _ _ _ _ _ _ _ _ _ _ s handed;
      enough = omega (arith, enough 3 1 _ _ _ _ _ _ _ _ _ _ _ _ s handed);
    }

pub returns-clause-work : goal.returns-clause-work
returns-clause-work g c =
    let e = c.self.inside in
    let next = g.S.Script.batch_of in
    let act = ap (λ (b : Batch). b.act) c.self.invariant.0.coming in
    let dealt = c.put_numbers.ensures.dealt ∙ ap (λ (a : Act). record e.tapes.masks { passed = e.tapes.masks.passed + deals_in a }) act in
    let drawn = c.put_numbers.ensures.drawn ∙ ap (λ (a : Act). drawn_from e.tapes.coefficients (draws_in a)) act in
    let own = c.put_numbers.ensures.own ∙ ap (λ l. numbers_for e.batch.act l (slice_index e.tapes.masks.words e.tapes.masks.passed)
    (take (draws_in e.batch.act) (left_of e.tapes.coefficients)) e.me) c.as_slice.ensures.value
    ∙ ap (λ (a : Act). numbers_for a e.wires.items (slice_index e.tapes.masks.words e.tapes.masks.passed)
    (take (draws_in a) (left_of e.tapes.coefficients)) e.me) act in
    (λ i. record {
      me = e.me;
      script = e.script;
      masks = dealt i;
      coefficients = drawn i;
      round = e.round;
      wires = e.wires.items;
      opened = e.opened.items;
      own = own i;
      handed = true;
    }) ∙ ap (λ (w : Work g.row.S.Denot). handing next w) c.self.view_is

pub invariant_of-self : goal.invariant_of-self
invariant_of-self g c =
    let s = c.self.invariant.0 in
    let handed : c.self.inside.handed ≡ false = ap (λ (w : Work g.row.S.Denot). w.handed) c.self.view_is ∙ c.requires.handed in (
      hands-sound 3 1 _ _ _ _ _ _ _ _ _ _ _ _ s handed _ _ c.put_numbers.ensures.dealt
          (ap left_of c.put_numbers.ensures.drawn ∙ left-drawn c.self.inside.tapes.coefficients (draws_in c.self.inside.batch.act)
          ∙ ap (λ n. drop n (left_of c.self.inside.tapes.coefficients)) (omega arith)),
      ap length c.put_numbers.ensures.own ∙ length-numbers_for c.self.inside.batch.act _ _ _ _,
      c.self.invariant.2,
    )

pub returns-clause-within : goal.returns-clause-within
returns-clause-within g c =
    let s = c.self.invariant.0 in
    let goes : is_end c.self.inside.batch.act ≡ false =
    ap (λ (b : Batch). is_end b.act) s.coming
    ∙ ap (λ (w : Work g.row.S.Denot). is_end (batch_of g.S.Script.batch_of w).act) c.self.view_is ∙ c.requires.goes in
    subst (λ (w : Work g.row.S.Denot). w.round < g.S.Script.rounds_of w.script) c.self.view_is
    (still-going 3 1 _ _ _ _ _ _ _ _ _ _ _ _ s goes)
