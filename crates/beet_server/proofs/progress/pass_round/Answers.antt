use Rattle.std.proofs.Common.{◌≡◌, ◌+◌, ◌++◌, ℕ, List, length, length-append, refl, sym, ap, subst, ◌∙◌, arith}
use Rattle.beet_gates.specs.Clear.{with_lets}
use Rattle.beet_gates.specs.Scripts.{revealed}
use Rattle.beet_gates.specs.declared.Batch.{Batch}
use Rattle.beet_server.specs.Values.{numbers_by, points_by}
use Rattle.beet_server.proofs.Going.{comes-further}
use Rattle.beet_server.proofs.Soundness.{gains-room, next-lets, next-room, opens-room, passes-sound, still-going}
use Rattle.beet_server.proofs.progress.pass_round.Given.{Over}
use Rattle.beet_server.proofs.progress.pass_round.Goals.{After-absorb}
use Rattle.beet_server.proofs.progress.pass_round.Goals as goal

-- what the round has brought
module _ (g : Over) (c : After-absorb g) where
  abbrev new_numbers : List ℕ
  new_numbers = numbers_by c.args.batch.now.act (g.G.Given.made c.args.given.now)

  count : length new_numbers ≡ revealed c.args.batch.now.act
  count = omega (arith, ap length c.absorb.ensures.opened, length-append c.args.opened.now.items new_numbers, c.absorb.ensures.opened_count)

pub absorb-requires : goal.absorb-requires
absorb-requires g c =
    let s = c.requires.sound in
    record {
      even = c.requires.even;
      count = c.requires.count;
      wires_room = gains-room g.row.SERVERS s.0 _ _ _ _ _ _ _ _ _ _ _ _ s.3;
      opened_room = opens-room g.row.SERVERS s.0 _ _ _ _ _ _ _ _ _ _ _ _ s.3 c.requires.goes;
    }

pub refill-requires : goal.refill-requires
refill-requires g c =
    let after = (goal.at.refill-requires g c).After-absorb in
    subst (λ opened. g.S.Script.is_at c.args.script.now (c.args.round + 1) opened c.args.place.now)
    (sym (c.as_slice.ensures.value ∙ c.absorb.ensures.opened))
    (g.met.S.Script.goes_on c.args.script.now c.args.round (c.args.round + 1) c.args.opened.now.items (new_numbers g after)
    c.args.place.now c.requires.place (omega arith))

pub append_lets-requires-clause-below : goal.append_lets-requires-clause-below
append_lets-requires-clause-below g c =
    let after = (goal.at.append_lets-requires-clause-below g c).After-absorb in
    let s = c.requires.sound in
    let batch_is = c.refill.ensures.batch
    ∙ ap (λ l. g.S.Script.batch_of c.args.script.now (c.args.round + 1) l) c.as_slice.ensures.value in
    let lets_are = c.as_slice-2.ensures.value ∙ ap (λ (b : Batch). b.lets.items) batch_is in
    rw lets_are (next-lets g.row.SERVERS s.0 _ _ _ _ _ _ _ _ _ _ _ _ s.3 refl c.requires.goes _ _ (new_numbers g after)
    c.absorb.ensures.wires_count c.absorb.ensures.opened (count g after))

pub append_lets-requires-clause-room : goal.append_lets-requires-clause-room
append_lets-requires-clause-room g c =
    let after = (goal.at.append_lets-requires-clause-room g c).After-absorb in
    let s = c.requires.sound in
    let batch_is = c.refill.ensures.batch
    ∙ ap (λ l. g.S.Script.batch_of c.args.script.now (c.args.round + 1) l) c.as_slice.ensures.value in
    let lets_are = c.as_slice-2.ensures.value ∙ ap (λ (b : Batch). b.lets.items) batch_is in
    rw (lets_are, c.absorb.ensures.wires_capacity)
    (next-room g.row.SERVERS s.0 _ _ _ _ _ _ _ _ _ _ _ _ s.3 refl c.requires.goes _ _ (new_numbers g after)
    c.absorb.ensures.wires_count c.absorb.ensures.opened (count g after))

pub returns-clause-within : goal.returns-clause-within
returns-clause-within g c =
    let s = c.requires.sound in still-going g.row.SERVERS s.0 _ _ _ _ _ _ _ _ _ _ _ _ s.3 c.requires.goes

pub returns-clause-counted : goal.returns-clause-counted
returns-clause-counted g c =
    let s = c.requires.sound in
    let within = still-going g.row.SERVERS s.0 _ _ _ _ _ _ _ _ _ _ _ _ s.3 c.requires.goes in
    omega (arith, within, s.3.small)

pub returns-clause-place : goal.returns-clause-place
returns-clause-place g c = rw c.as_slice.ensures.value at c.refill.ensures.place

pub returns-clause-wires : goal.returns-clause-wires
returns-clause-wires g c =
    let batch_is = c.refill.ensures.batch
    ∙ ap (λ l. g.S.Script.batch_of c.args.script.now (c.args.round + 1) l) c.as_slice.ensures.value in
    let points = points_by c.args.batch.now.act (g.G.Given.all c.args.given.now) (g.G.Given.made c.args.given.now) in
    c.append_lets.ensures.wires ∙ ap (λ l. with_lets l c.as_slice-2.result.now) c.absorb.ensures.wires
    ∙ ap (λ l. with_lets (c.args.wires.now.items ++ points) l) (c.as_slice-2.ensures.value ∙ ap (λ (b : Batch). b.lets.items) batch_is)

pub returns-clause-came : goal.returns-clause-came
returns-clause-came g c = λ came.
    let after = (goal.at.returns-clause-came g c).After-absorb in
    comes-further (g.S.Script.batch_of c.args.script.now) c.args.round c.args.opened.now.items (new_numbers g after)
    c.absorb.new.opened.items c.args.batch.now came c.requires.sound.3.coming c.requires.goes (count g after) c.absorb.ensures.opened

pub returns-clause-sound : goal.returns-clause-sound
returns-clause-sound g c = λ numbers masks coefficients s.
    let after = (goal.at.returns-clause-sound g c).After-absorb in
    let batch_is = c.refill.ensures.batch
    ∙ ap (λ l. g.S.Script.batch_of c.args.script.now (c.args.round + 1) l) c.as_slice.ensures.value in
    rw (c.append_lets.ensures.capacity, c.absorb.ensures.wires_capacity, c.absorb.ensures.opened_capacity)
    (passes-sound g.row.SERVERS numbers _ _ _ _ _ _ _ _ _ _ _ _ s refl c.requires.goes _ _ (new_numbers g after)
    c.absorb.ensures.wires_count c.absorb.ensures.opened (count g after)
    _ _ batch_is (c.append_lets.ensures.wires ∙ ap (λ l. with_lets c.absorb.new.wires.items l) c.as_slice-2.ensures.value))
