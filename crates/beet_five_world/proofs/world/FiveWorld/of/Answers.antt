use Rattle.std.proofs.Common.{◌≡◌, ◌∷◌, ◌++◌, [], List, length, sym, ap, subst, ◌∙◌, arith, append-nil}
use Rattle.std.specs.Vec.Iter.{into_iter_items}
use Rattle.std.proofs.lemmas.List.{append_assoc}
use Rattle.std.proofs.lemmas.List.{nil_from_length}
use Rattle.beet_gates.specs.Scripts.{bounds_of}
use Rattle.beet_linear_sharing.specs.Schemes.{five_servers}
use Rattle.beet_linear_sharing.proofs.Ends.{lawful-rounds}
use Rattle.beet_five_server.specs.Answers.{Core}
use Rattle.beet_five_server.proofs.RunNames.{rounds_among}
use Rattle.beet_delivery.specs.Networks.{nothing}
use Rattle.beet_five_world.proofs.WorldFacts.{all-begin, begun-fit, HaveBegun, more-begun, their_setup, unused}
use Rattle.beet_five_world.proofs.world.FiveWorld.of.Given.{Over}
use Rattle.beet_five_world.proofs.world.FiveWorld.of.Goals.{After-drop-core-iterator-2}
use Rattle.beet_five_world.proofs.world.FiveWorld.of.Goals as goal

pub begin-requires-clause-round : goal.begin-requires-clause-round
begin-requires-clause-round g c =
    let all = ap (λ (l : List (Core g.row.S.Denot)). c.loop-core.yielded ++ l) (sym c.in-Some.ensures.steps.0)
    ∙ c.loop-core.invariant.rest in
    (unused g.S.Script.batch_of g.S.Script.rounds_of c.args.cores.items c.requires c.loop-core.yielded
    (into_iter_items c.next.new.self) c.in-Some.core all).1

pub begin-requires-clause-handed : goal.begin-requires-clause-handed
begin-requires-clause-handed g c =
    let all = ap (λ (l : List (Core g.row.S.Denot)). c.loop-core.yielded ++ l) (sym c.in-Some.ensures.steps.0)
    ∙ c.loop-core.invariant.rest in
    (unused g.S.Script.batch_of g.S.Script.rounds_of c.args.cores.items c.requires c.loop-core.yielded
    (into_iter_items c.next.new.self) c.in-Some.core all).2

pub loop-core-preserved : goal.loop-core-preserved
loop-core-preserved g c =
    let next = g.S.Script.batch_of in
    let inv = c.loop-core.invariant in
    let steps = c.in-Some.ensures.steps in
    let rest = into_iter_items c.next.new.self in
    record {
      rest = append_assoc c.loop-core.yielded (c.in-Some.core ∷ []) rest
          ∙ ap (λ (l : List (Core g.row.S.Denot)). c.loop-core.yielded ++ l) (sym steps.0) ∙ inv.rest;
      begun = subst (HaveBegun next (c.loop-core.yielded ++ c.in-Some.core ∷ [])) (sym c.push_reserved.ensures.items)
          (more-begun next c.loop-core.yielded c.loop-core.members.items c.in-Some.core c.in_ok-begin.field-0 inv.begun
          c.in_ok-begin.ensures);
      room = omega (arith, c.push_reserved.ensures.capacity, inv.room);
      left = omega (arith, steps.1, inv.left, ap length steps.0);
    }

-- all cores began
module _ (g : Over) (c : After-drop-core-iterator-2 g) where
  all-begun : HaveBegun g.S.Script.batch_of c.args.cores.items c.loop-core.members.items
  all-begun =
      let inv = c.loop-core.invariant in
      let empty : into_iter_items c.loop-core.core-iterator ≡ [] = nil_from_length _ (sym inv.left ∙ c.in-None.ensures.steps.0) in
      let all = sym (append-nil c.loop-core.yielded) ∙ rw empty at inv.rest in
      subst (λ (l : List (Core g.row.S.Denot)). HaveBegun g.S.Script.batch_of l c.loop-core.members.items) all inv.begun

pub invariant_of-result : goal.invariant_of-result
invariant_of-result g c =
    let of_script = g.S.Script in
    let at = (goal.at.invariant_of-result g c).After-drop-core-iterator-2 in
    let cores = c.args.cores.items in
    let fresh = c.requires in
    let first = fresh.script in
    let most = of_script.rounds_of first in
    let o = their_setup of_script.batch_of of_script.rounds_of cores fresh in
    let bounds = bounds_of (of_script.wires_of first) (of_script.masks_of first) (of_script.secrets_of first) in
    let has = (lawful-rounds five_servers o bounds 5 (of_script.inputs_of first) most (g.met.S.Script.lawful first)).0 in
    record {
      script = first;
      o = o;
      rounds = rounds_among o most;
      x = nothing;
      fit = begun-fit of_script.batch_of first o (rounds_among o most) nothing cores c.loop-core.members.items has fresh.count
          (all-begun g at) (all-begin of_script.batch_of of_script.rounds_of cores fresh);
    }

pub returns : goal.returns
returns g c = λ script o rounds has all.
    let at = (goal.at.returns g c).After-drop-core-iterator-2 in
    begun-fit g.S.Script.batch_of script o rounds nothing c.args.cores.items c.loop-core.members.items has c.requires.count
    (all-begun g at) all
