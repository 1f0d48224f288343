use Rattle.std.proofs.Common.{arith, ap, sym, refl, ◌∙◌, ◌≡◌, ◌<◌, ◌-◌, ℕ, suc, List, length, Some, slice_get, slice_index}
use Rattle.beet_server.specs.Rows.{Rows, rows_of}
use Rattle.beet_server.proofs.RowFacts.{length-shown, next-row, end-le, in-order}
use Rattle.beet_server.proofs.rows.Rows.row.Goals.{After-end_at-end-2}
use Rattle.beet_server.proofs.rows.Rows.row.Goals as goal

pub end_at-end-requires : goal.end_at-end-requires
end_at-end-requires c =
    let count = length-shown c.args.self.now c.self.inside.items.items c.self.inside.ends.items _ _ _ c.self.view_is in
    omega (arith, count, c.requires, ap length c.as_slice.ensures.value)

pub between-requires-clause-end : goal.between-requires-clause-end
between-requires-clause-end c =
    let count = length-shown c.args.self.now c.self.inside.items.items c.self.inside.ends.items _ _ _ c.self.view_is in
    let below = c.requires in
    let end = c.end_at-end.ensures ∙ ap (λ l. slice_index l 0) c.as_slice.ensures.value in
    omega (
      arith,
      end,
      ap length c.as_slice-then-k-eq0.ensures.value,
      end-le 0 c.self.inside.ends.items (length c.self.inside.items.items) 0 c.self.invariant (omega arith),
    )

pub end_at-start-requires : goal.end_at-start-requires
end_at-start-requires c =
    let count = length-shown c.args.self.now c.self.inside.items.items c.self.inside.ends.items _ _ _ c.self.view_is in
    omega (arith, count, c.requires, ap length c.as_slice-2.ensures.value)

pub end_at-end-requires-2 : goal.end_at-end-requires-2
end_at-end-requires-2 c =
    let count = length-shown c.args.self.now c.self.inside.items.items c.self.inside.ends.items _ _ _ c.self.view_is in
    omega (arith, count, c.requires, ap length c.as_slice-3.ensures.value)

-- a list after the first lies from the end before to its own
module _ (c : After-end_at-end-2) where
  abbrev before : ℕ
  before = c.args.k - 1

  abbrev ends : List ℕ
  ends = c.self.inside.ends.items

  is-after : c.args.k ≡ suc before
  is-after = omega arith

  there : suc before < length ends
  there =
      let count = length-shown c.args.self.now c.self.inside.items.items ends _ _ _ c.self.view_is in
      omega (arith, count, c.requires, is-after)

  start : c.end_at-start.result ≡ slice_index ends before
  start = c.end_at-start.ensures ∙ ap (λ l. slice_index l before) c.as_slice-2.ensures.value

  end : c.end_at-end-2.result ≡ slice_index ends (suc before)
  end = c.end_at-end-2.ensures ∙ ap (λ l. slice_index l c.args.k) c.as_slice-3.ensures.value ∙ ap (slice_index ends) is-after

pub between-requires-2-clause-start : goal.between-requires-2-clause-start
between-requires-2-clause-start c =
    let a = (goal.at.between-requires-2-clause-start c).After-end_at-end-2 in
    let order = in-order 0 (ends a) (length c.self.inside.items.items) (before a) c.self.invariant (there a) in
    omega (arith, start a, end a, order)

pub between-requires-2-clause-end : goal.between-requires-2-clause-end
between-requires-2-clause-end c =
    let a = (goal.at.between-requires-2-clause-end c).After-end_at-end-2 in
    let last = end-le 0 (ends a) (length c.self.inside.items.items) (suc (before a)) c.self.invariant (there a) in
    omega (arith, end a, last, ap length c.as_slice-4.ensures.value)

pub returns : goal.returns
returns c =
    let a = (goal.at.returns c).After-end_at-end-2 in
    let row = next-row c.self.inside.items.items 0 (ends a) (before a) (there a) in
    ap (λ l. Some l) (c.between-2.ensures ∙ rw (start a, end a, c.as_slice-4.ensures.value) refl) ∙ sym row
    ∙ ap (slice_get (rows_of c.self.inside.items.items 0 (ends a))) (sym (is-after a))
    ∙ ap (λ (v : Rows). slice_get v.rows c.args.k) c.self.view_is
