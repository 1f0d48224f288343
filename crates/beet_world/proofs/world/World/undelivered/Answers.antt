use Rattle.std.proofs.Common.{◌≡◌, ◌≤◌, ◌+◌, ℕ, arith, refl, sym, ◌∙◌, subst}
use Rattle.std.specs.Prelude.{min}
use Rattle.beet_field.specs.Trio.{member}
use Rattle.beet_field.specs.declared.point.Point.{Point}
use Rattle.beet_field.specs.declared.point.Point.TheVariants.{One, Two, Three}
use Rattle.beet_gates.specs.Scripts.{bounds_of}
use Rattle.beet_delivery.specs.Events.{is_missing, three, undelivered}
use Rattle.beet_delivery.specs.Networks.{of_round}
use Rattle.beet_delivery.proofs.ThreeServers.{three-is}
use Rattle.beet_delivery.proofs.TwoRounds.{lesser_is}
use Rattle.beet_delivery.proofs.Undelivered.{passed_all}
use Rattle.beet_world.specs.Worlds.{World, delivered_in, rounds_in}
use Rattle.beet_world.proofs.Delivered.{two-rounds}
use Rattle.beet_server.proofs.Rounds.{by_point}
use Rattle.beet_world.proofs.world.World.undelivered.Goals as goal

pub returns-clause-count : goal.returns-clause-count
returns-clause-count g c =
    let script = g.S.Script in
    let next = script.batch_of in
    let w : World g.row.S.Denot = record { start = c.self.inside.start.value; marks = c.self.inside.marks.items } in
    let first = w.start.one.script in
    let bounds = bounds_of (script.wires_of first) (script.masks_of first) (script.secrets_of first) in
    let law = g.met.S.Script.lawful first in
    let cores = c.self.inside.cores in
    let behind = c.min-behind.result in
    let is : behind ≡ min (min cores.one.round cores.two.round) cores.three.round =
    c.min-behind.ensures ∙ (λ i. min ((c.min.ensures ∙ (λ j. min (c.round.ensures j) (c.round-2.ensures j))) i) (c.round-3.ensures i)) in
    let At : ℕ → Type 0 = λ n. (s : Point) × (n ≡ (member cores s).round) in
    let least = lesser_is At (min cores.one.round cores.two.round) cores.three.round
    (lesser_is At cores.one.round cores.two.round (One, refl) (Two, refl)) (Three, refl) in
    let two = two-rounds next script.inputs_of script.rounds_of bounds w cores c.self.inside.sent law c.self.invariant behind least.0
    (is ∙ least.1) (by_point (λ s. behind ≤ (member cores s).round) (omega (arith, is)) (omega (arith, is)) (omega (arith, is))) in
    (λ i. c.missing_of.ensures.missing i + c.missing_of-2.ensures.missing i)
    ∙ sym (subst (λ (v : World g.row.S.Denot). undelivered (rounds_in next script.inputs_of script.rounds_of v) (delivered_in v)
    ≡ of_round three (is_missing (rounds_in next script.inputs_of script.rounds_of v) (delivered_in v)) behind
    + of_round three (is_missing (rounds_in next script.inputs_of script.rounds_of v) (delivered_in v)) (behind + 1)) c.self.view_is two)

pub returns-clause-ended : goal.returns-clause-ended
returns-clause-ended g c = λ none.
    let script = g.S.Script in
    passed_all three-is (rounds_in script.batch_of script.inputs_of script.rounds_of c.args.self.now) (delivered_in c.args.self.now)
    (sym (returns-clause-count g c) ∙ none)
