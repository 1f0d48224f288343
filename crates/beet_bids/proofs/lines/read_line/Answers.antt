use Rattle.std.proofs.Common.{◌+◌, rules}
use Rattle.beet_bids.proofs.LineFacts.{row_accepted, row_refused}
use Rattle.beet_bids.specs.BidFiles.{bid_line_of}
use Rattle.beet_bids.proofs.lines.read_line.Goals as goal

pub returns-in-Some-line_reason : goal.returns-in-Some-line_reason
returns-in-Some-line_reason c =
    rw c.at_row-in-Some-line_reason.ensures
    (row_refused c.args.grid.now c.args.before (c.args.i + 2)
    (bid_line_of c.args.row.now) c.in-Some.line c.in-Some-line_reason.reason (search rules) (search rules))

pub returns-in-None : goal.returns-in-None
returns-in-None c =
    row_accepted c.args.grid.now c.args.before (c.args.i + 2) (bid_line_of c.args.row.now) c.in-Some.line (search rules) (search rules)
