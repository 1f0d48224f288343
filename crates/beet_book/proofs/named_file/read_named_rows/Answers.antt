use Rattle.std.proofs.Common.{◌≡◌, ◌∷◌, length, arith, rules}
use Rattle.std.specs.BTreeSet.{contains_text}
use Rattle.beet_book.proofs.NamedRows.{none_read, row_read}
use Rattle.beet_book.proofs.named_file.read_named_rows.Goals as goal

pub loop-values-preserved : goal.loop-values-preserved
loop-values-preserved g c =
    let is : c.loop-values.rows ≡ c.next.new.row ∷ c.next.new.self = rw c.if-branch.true at c.in_ok-next.ensures in
    let count : c.len.result ≡ length c.loop-values.values.items = omega arith in
    rw c.in_ok-push.ensures.items
    (row_read _ g.V.NamedRow.value_in c.args.first c.args.one_too_many c.args.rows.now c.loop-values.rows c.loop-values.values.items
    (contains_text c.loop-values.seen) (contains_text c.read_row.new.seen)
    c.next.new.row c.next.new.self c.in_ok-value.value c.loop-values.invariant is
    (rw count at c.in_ok-value.ensures.value) c.in_ok-value.ensures.seen)

pub loop-values-init : goal.loop-values-init
loop-values-init g c =
    rw c.new-values.ensures.items
    (none_read _ g.V.NamedRow.value_in c.args.first c.args.one_too_many c.args.rows.now (contains_text c.new-seen.result)
    c.requires (λ text. search rules))
