use Rattle.std.proofs.Common.{arith, ap, sym, ◌∙◌, length, length-drop, Ok, Vec}
use Rattle.std.specs.Global.{Global}
use Rattle.std.proofs.lemmas.Result.{err_from_is_err_and}
use Rattle.beet_bids.specs.BidFiles.{curve_in}
use Rattle.beet_bids.specs.declared.lines.Line.{Line}
use Rattle.beet_bids.proofs.LineFacts.{header_passes, part_read, file_refused}
use Rattle.beet_bids.proofs.bid_file.read_curve.Goals as goal

pub read_lines-requires : goal.read_lines-requires
read_lines-requires c =
    let rest = c.in_ok-begins_with.ensures.1 c.if-not-branch.false in
    omega (arith, c.requires, ap length rest, length-drop 1 c.args.rows.now)

pub returns-in_err-lines-clause-reads : goal.returns-in_err-lines-clause-reads
returns-in_err-lines-clause-reads c =
    let same = c.if-not-branch.false in
    let header = c.in_ok-begins_with.ensures in
    let p = err_from_is_err_and c.from_residual-in_err-lines.result c.from_residual-in_err-lines.ensures.1 in
    rw (p.1, p.2)
    (file_refused {T = Vec Line Global} c.args.grid.now c.args.rows.now c.begins_with.new.self _
    (λ v. v.items) c.in_err-lines.field-0.0 (sym header.0 ∙ same) (header.1 same) c.in_err-lines.ensures.reads)

pub returns : goal.returns
returns c =
    let same = c.if-not-branch.false in
    let header = c.in_ok-begins_with.ensures in
    record {
      reads = header_passes c.args.grid.now c.args.rows.now c.begins_with.new.self (sym header.0 ∙ same) (header.1 same)
          ∙ part_read _ _ c.in_ok-lines.lines.items (curve_in c.args.grid.now) c.in_ok-lines.ensures.reads
          ∙ ap Ok (sym (rw c.deref.ensures.value at c.in_ok-curve_of.ensures.value));
      of_grid = c.in_ok-curve_of.ensures.of_grid;
    }
