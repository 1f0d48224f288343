use Rattle.std.proofs.Common.{◌≡◌, true, ap, sym, ◌∙◌}
use Rattle.crossbeam_queue.specs.Passes.{view}
use Rattle.beet_field.specs.Trio.{member, with_member}
use Rattle.beet_field.specs.declared.point.Point.TheVariants.{One, Two, Three}
use Rattle.beet_queue.specs.Rule.{both, no_one}
use Rattle.beet_queue.proofs.Keeps.{merges}
use Rattle.beet_desk.specs.Ends.{left_of}
use Rattle.beet_desk.proofs.NoteFacts.{counts-back, rights-back}
use Rattle.beet_desk.proofs.ends.NoteRx.close.Goals as goal

pub absorb-requires-clause-queue : goal.absorb-requires-clause-queue
absorb-requires-clause-queue c =
    let at = ap (λ q. q.table.shared.table_id) (sym c.deref.ensures) in (
      (c.self.invariant.0.0 ∙ at, c.self.invariant.0.1),
      (
        ap (λ e. e.queue) c.one.view_is ∙ c.requires.queues One ∙ sym (ap (λ e. e.queue) c.self.view_is) ∙ c.self.invariant.0.0
            ∙ at,
        c.one.invariant.0.1,
      ),
    )

pub absorb-requires-clause-rule : goal.absorb-requires-clause-rule
absorb-requires-clause-rule c = merges _ _ _ _ _ c.self.invariant.1

pub absorb-requires-2-clause-queue : goal.absorb-requires-2-clause-queue
absorb-requires-2-clause-queue c =
    let at = ap (λ q. q.table.shared.table_id) (sym c.deref-2.ensures) in (
      (c.absorb.ensures.queue.0 ∙ c.self.invariant.0.0 ∙ at, c.absorb.ensures.queue.2 ∙ c.self.invariant.0.1),
      (
        ap (λ e. e.queue) c.two.view_is ∙ c.requires.queues Two ∙ sym (ap (λ e. e.queue) c.self.view_is) ∙ c.self.invariant.0.0
            ∙ at,
        c.two.invariant.0.1,
      ),
    )

pub absorb-requires-2-clause-rule : goal.absorb-requires-2-clause-rule
absorb-requires-2-clause-rule c = merges _ _ _ _ _ (ap (λ u. u.takes) c.absorb.ensures.rule ∙ c.self.invariant.1)

pub absorb-requires-3-clause-queue : goal.absorb-requires-3-clause-queue
absorb-requires-3-clause-queue c =
    let at = ap (λ q. q.table.shared.table_id) (sym c.deref-3.ensures) in (
      (
        c.absorb-2.ensures.queue.0 ∙ c.absorb.ensures.queue.0 ∙ c.self.invariant.0.0 ∙ at,
        c.absorb-2.ensures.queue.2
            ∙ c.absorb.ensures.queue.2 ∙ c.self.invariant.0.1,
      ),
      (
        ap (λ e. e.queue) c.three.view_is ∙ c.requires.queues Three ∙ sym (ap (λ e. e.queue) c.self.view_is) ∙ c.self.invariant.0.0
            ∙ at,
        c.three.invariant.0.1,
      ),
    )

pub absorb-requires-3-clause-rule : goal.absorb-requires-3-clause-rule
absorb-requires-3-clause-rule c =
    merges _ _ _ _ _ (ap (λ u. u.takes) c.absorb-2.ensures.rule ∙ ap (λ u. u.takes) c.absorb.ensures.rule ∙ c.self.invariant.1)

pub invariant_of-result : goal.invariant_of-result
invariant_of-result c =
    let joined : view c.absorb-3.new.pass ≡ both
    (both (both (view c.self.inside.pass) (view c.one.inside.pass)) (view c.two.inside.pass)) (view c.three.inside.pass) =
    c.absorb-3.ensures.rule ∙ ap (λ u. both u (view c.three.inside.pass)) c.absorb-2.ensures.rule
    ∙ ap (λ u. both (both u (view c.two.inside.pass)) (view c.three.inside.pass)) c.absorb.ensures.rule in
    let one = c.one.invariant.1 ∙ ap (λ s. with_member no_one s true) (ap (λ e. e.server) c.one.view_is ∙ c.requires.servers One) in
    let two = c.two.invariant.1 ∙ ap (λ s. with_member no_one s true) (ap (λ e. e.server) c.two.view_is ∙ c.requires.servers Two) in
    let three = c.three.invariant.1 ∙ ap (λ s. with_member no_one s true) (ap (λ e. e.server) c.three.view_is ∙ c.requires.servers Three)
    in (
      (
        c.absorb-3.ensures.queue.0 ∙ c.absorb-2.ensures.queue.0 ∙ c.absorb.ensures.queue.0 ∙ c.self.invariant.0.0,
        c.absorb-3.ensures.queue.2 ∙ c.absorb-2.ensures.queue.2 ∙ c.absorb.ensures.queue.2 ∙ c.self.invariant.0.1,
      ),
      ap (λ u. u.takes) joined ∙ c.self.invariant.1,
      λ s. ap (λ u. member u.puts s) joined
          ∙ rights-back (view c.self.inside.pass) (view c.one.inside.pass) (view c.two.inside.pass) (view c.three.inside.pass)
          c.self.invariant.2 one two three s,
    )

pub returns : goal.returns
returns c =
    let v = view c.self.inside.pass in
    let joined : view c.absorb-3.new.pass ≡ both
    (both (both (view c.self.inside.pass) (view c.one.inside.pass)) (view c.two.inside.pass)) (view c.three.inside.pass) =
    c.absorb-3.ensures.rule ∙ ap (λ u. both u (view c.three.inside.pass)) c.absorb-2.ensures.rule
    ∙ ap (λ u. both (both u (view c.two.inside.pass)) (view c.three.inside.pass)) c.absorb.ensures.rule in
    let is_one = ap (λ e. e.server) c.one.view_is ∙ c.requires.servers One in
    let is_two = ap (λ e. e.server) c.two.view_is ∙ c.requires.servers Two in
    let is_three = ap (λ e. e.server) c.three.view_is ∙ c.requires.servers Three in
    let one = c.one.invariant.1 ∙ ap (λ s. with_member no_one s true) is_one in
    let two = c.two.invariant.1 ∙ ap (λ s. with_member no_one s true) is_two in
    let three = c.three.invariant.1 ∙ ap (λ s. with_member no_one s true) is_three in
    let count_one = ap (member (view c.one.inside.pass).put) (sym is_one) ∙ ap (λ e. e.pushed) c.one.view_is in
    let count_two = ap (member (view c.two.inside.pass).put) (sym is_two) ∙ ap (λ e. e.pushed) c.two.view_is in
    let count_three = ap (member (view c.three.inside.pass).put) (sym is_three) ∙ ap (λ e. e.pushed) c.three.view_is in
    ap (λ u. left_of u.streams u.put u.taken) joined
    ∙ ap (λ p. left_of v.streams p v.taken)
    (counts-back (view c.self.inside.pass) (view c.one.inside.pass) (view c.two.inside.pass) (view c.three.inside.pass)
    c.self.invariant.2 one two three)
    ∙ (λ i. left_of (c.self.view_is i).notes (record { one = count_one i; two = count_two i; three = count_three i })
    (c.self.view_is i).taken)
