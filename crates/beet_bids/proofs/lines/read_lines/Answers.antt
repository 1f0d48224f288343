use Rattle.std.proofs.Common.{◌≡◌, ◌+◌, ◌<◌, [], ◌∷◌, arith, ap, sym, ◌∙◌, refl, filter_map, map, length, length-append}
use Rattle.std.proofs.Common.{append-nil, Some, None, Vec}
use Rattle.std.specs.Global.{Global}
use Rattle.std.proofs.lemmas.Result.{err_from_is_err_and}
use Rattle.beet_bids.specs.declared.lines.Line.{Line}
use Rattle.beet_bids.specs.BidFiles.{bid_line_of, line_reason, line_reasons}
use Rattle.beet_bids.proofs.LineFacts.{rows_accepted, turn_reasons, turn_goes_on, lines_more, some_rows, row_read, row_refuses}
use Rattle.beet_bids.proofs.lines.read_lines.Goals as goal
use Rattle.beet_forms.specs.Faults.{first_fault}

pub returns-in_err-line-clause-reads : goal.returns-in_err-line-clause-reads
returns-in_err-line-clause-reads c =
    let is : c.loop-lines.rows ≡ c.next.new.row ∷ c.next.new.self = rw c.if-branch.true at c.in_ok-next.ensures in
    let number : c.len.result ≡ length c.loop-lines.lines.items = omega arith in
    let some : 0 < length c.args.rows.now = omega (arith, ap length is, c.loop-lines.invariant.count) in
    let fault = rw (← number) at c.loop-lines.invariant.fault in
    let turn = turn_reasons c.args.grid.now (c.len.result + 2) c.loop-lines.before c.next.new.row c.loop-lines.rows c.next.new.self is in
    let p = err_from_is_err_and c.from_residual-in_err-line.result c.from_residual-in_err-line.ensures.1 in
    rw (← some_rows c.args.grid.now c.args.rows.now some, ← (sym turn ∙ fault), p.1, p.2)
    (row_refuses {T = Vec Line Global} (c.len.result + 2) _ _ _ _ (λ (line : Line). Some line)
    (λ v. v.items) c.in_err-line.field-0.0 c.in_err-line.ensures)

pub loop-lines-preserved : goal.loop-lines-preserved
loop-lines-preserved c =
    let inv = c.loop-lines.invariant in
    let is : c.loop-lines.rows ≡ c.next.new.row ∷ c.next.new.self = rw c.if-branch.true at c.in_ok-next.ensures in
    let read = row_read (c.len.result + 2) (line_reason c.args.grid.now c.loop-lines.before
    (bid_line_of c.next.new.row)) (bid_line_of c.next.new.row) (Some c.in_ok-line.line) c.in_ok-line.ensures in
    let items = c.in_ok-push.ensures.items in
    let number : length c.push.new.self.items + 2 ≡ length c.loop-lines.lines.items + 2 + 1 = rw (items, length-append) (omega arith) in
    record {
      fault = rw number (turn_goes_on c.args.grid.now (length c.loop-lines.lines.items + 2) c.loop-lines.before
          c.next.new.row c.loop-lines.rows c.next.new.self c.in_ok-line.line is read.0 read.1 ∙ inv.fault);
      lines = rw items (lines_more c.loop-lines.lines.items c.next.new.row c.loop-lines.rows c.next.new.self
          c.args.rows.now c.in_ok-line.line is read.1 inv.lines);
      count = omega (arith, number, ap length is, inv.count);
    }

pub returns-clause-lines : goal.returns-clause-lines
returns-clause-lines c =
    let inv = c.loop-lines.invariant in
    let end : c.loop-lines.rows ≡ [] = rw c.if-branch.false at c.in_ok-next.ensures in
    let long : 0 < length c.loop-lines.lines.items = grind (arith, c.if-is_empty.ensures) in
    let some : 0 < length c.args.rows.now = omega (arith, inv.count, long) in
    let none : first_fault 2 (line_reasons c.args.grid.now (map bid_line_of c.args.rows.now)) ≡ None =
    ap (first_fault 2) (sym (some_rows c.args.grid.now c.args.rows.now some)) ∙ (sym inv.fault ∙ rw end refl) in
    let lines : c.loop-lines.lines.items ≡ filter_map bid_line_of c.args.rows.now = sym (append-nil _) ∙ rw end at inv.lines in
    rw lines (rows_accepted c.args.grid.now c.args.rows.now none)
