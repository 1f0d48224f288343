use Rattle.std.proofs.Common.{◌≡◌, ◌+◌, ◌++◌, None, length, map, filter_map}
use Rattle.beet_bids.specs.BidFiles.{bid_line_of}
use Rattle.beet_bids.proofs.LineFacts.{reasons_after}
use Rattle.beet_bids.proofs.lines.read_lines.Given as goal
use Rattle.beet_forms.specs.Faults.{first_fault}

abbrev pub invariant-loop-lines : goal.invariant-loop-lines
invariant-loop-lines l = record {
  fault : first_fault (length l.lines.items + 2) (reasons_after l.grid l.before (map bid_line_of l.rows))
      ≡ first_fault 2 (reasons_after l.grid None (map bid_line_of l.fn.rows));
  lines : l.lines.items ++ filter_map bid_line_of l.rows ≡ filter_map bid_line_of l.fn.rows;
  count : length l.lines.items + length l.rows ≡ length l.fn.rows;
}

abbrev pub decreases-loop-lines : goal.decreases-loop-lines
decreases-loop-lines l = length l.rows
