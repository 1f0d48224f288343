use Rattle.std.proofs.Common.{◌≡◌, ◌<◌, List, true, false, arith, sym, ◌∙◌, ap, subst, length, Vec, Global, vec_len, rules, get_or}
use Rattle.std.specs.Prelude.{slice_index_or}
use Rattle.std.proofs.lemmas.List.{get_or_default}
use Rattle.beet_field.specs.Trio.{member}
use Rattle.beet_gates.specs.Scripts.{Standing, bounds_of}
use Rattle.beet_round.specs.declared.message.RoundMessage.{RoundMessage}
use Rattle.beet_world.specs.Marks.{mark_at}
use Rattle.beet_delivery.specs.Events.{is_missing}
use Rattle.beet_world.specs.Missing.{one_if, to_side}
use Rattle.beet_world.specs.Worlds.{World, delivered_in, rounds_in}
use Rattle.beet_world.proofs.Delivered.{in-marks, is-marked, is-unmarked, not-missing}
use Rattle.beet_world.proofs.world.World.missing.Given.{Over}
use Rattle.beet_world.proofs.world.World.missing.Goals.{After-len}
use Rattle.beet_world.proofs.world.World.missing.Goals as goal

module _ (g : Over) (c : After-len g) where
  abbrev seen : World g.row.S.Denot
  seen = record { start = c.self.inside.start.value; marks = c.self.inside.marks.items }

  abbrev limits : Standing
  limits =
      let first = seen.start.one.script in
      bounds_of (g.S.Script.wires_of first) (g.S.Script.masks_of first) (g.S.Script.secrets_of first)

  long : c.len.result ≡ length (member c.self.inside.sent c.args.from).items
  long =
      c.len.ensures ∙ ap (λ (v : Vec (List RoundMessage) Global). vec_len v) c.get.ensures ∙ (member c.self.inside.sent c.args.from).ok.0

  -- the place of a message that was sent is one of the marks
  within : c.args.round < c.len.result → mark_at c.args.from c.args.side c.args.round < length seen.marks
  within lt =
      in-marks g.S.Script.batch_of g.S.Script.inputs_of g.S.Script.rounds_of limits seen c.self.inside.cores c.self.inside.sent
      (g.met.S.Script.lawful _) c.self.invariant c.args.from c.args.side c.args.round (omega (arith, long, lt))

pub mark_place-requires : goal.mark_place-requires
mark_place-requires g c =
    let inside = within g (goal.at.mark_place-requires g c).After-len (omega (arith, c.if-round-len.false)) in
    omega (arith, inside, c.self.inside.marks.ok.0, c.self.inside.marks.small)

pub index-requires : goal.index-requires
index-requires g c =
    let inside = within g (goal.at.index-requires g c).After-len (omega (arith, c.if-round-len.false)) in
    omega (arith, inside, c.mark_place.ensures, c.self.inside.marks.ok.0)

pub returns-then-round-len-clause-missing : goal.returns-then-round-len-clause-missing
returns-then-round-len-clause-missing g c =
    let script = g.S.Script in
    let after = (goal.at.returns-then-round-len-clause-missing g c).After-len in
    subst (λ (v : World g.row.S.Denot). 0 ≡ one_if (is_missing (rounds_in script.batch_of script.inputs_of
    script.rounds_of v) (delivered_in v) (to_side c.args.from c.args.side c.args.round))) c.self.view_is
    (sym (not-missing script.batch_of script.inputs_of script.rounds_of (limits g after)
    (seen g after) c.self.inside.cores c.self.inside.sent
    (g.met.S.Script.lawful _) c.self.invariant c.args.from c.args.side c.args.round (omega (arith, long g after, c.if-round-len.true))))

pub returns-then-index-clause-missing : goal.returns-then-index-clause-missing
returns-then-index-clause-missing g c =
    let script = g.S.Script in
    let after = (goal.at.returns-then-index-clause-missing g c).After-len in
    let lt : c.args.round < length (member c.self.inside.sent c.args.from).items = omega (arith, long g after, c.if-round-len.false) in
    let mark : slice_index_or c.self.inside.marks.items (mark_at c.args.from c.args.side c.args.round) false ≡ true =
    get_or_default c.self.inside.marks.items (mark_at c.args.from c.args.side c.args.round) false c.index.result.now
    (within g after (omega (arith, c.if-round-len.false)))
    ∙ ap (λ k. get_or c.self.inside.marks.items k c.index.result.now) (sym c.mark_place.ensures) ∙ sym c.index.ensures ∙ c.if-index.true in
    subst (λ (v : World g.row.S.Denot). 0 ≡ one_if (is_missing (rounds_in script.batch_of script.inputs_of
    script.rounds_of v) (delivered_in v) (to_side c.args.from c.args.side c.args.round))) c.self.view_is
    (sym (is-marked script.batch_of script.inputs_of script.rounds_of (limits g after) (seen g after) c.self.inside.cores c.self.inside.sent
    (g.met.S.Script.lawful _) c.self.invariant c.args.from c.args.side c.args.round lt mark))

pub returns-clause-missing : goal.returns-clause-missing
returns-clause-missing g c =
    let script = g.S.Script in
    let after = (goal.at.returns-clause-missing g c).After-len in
    let lt : c.args.round < length (member c.self.inside.sent c.args.from).items = omega (arith, long g after, c.if-round-len.false) in
    let inside = within g after (omega (arith, c.if-round-len.false)) in
    let mark : slice_index_or c.self.inside.marks.items (mark_at c.args.from c.args.side c.args.round) false ≡ false = search rules in
    subst (λ (v : World g.row.S.Denot). 1 ≡ one_if (is_missing (rounds_in script.batch_of script.inputs_of
    script.rounds_of v) (delivered_in v) (to_side c.args.from c.args.side c.args.round))) c.self.view_is
    (sym (is-unmarked script.batch_of script.inputs_of script.rounds_of (limits g after)
    (seen g after) c.self.inside.cores c.self.inside.sent
    (g.met.S.Script.lawful _) c.self.invariant c.args.from c.args.side c.args.round lt mark))
