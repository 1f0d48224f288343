use Rattle.std.proofs.Common.{◌≡◌, map}
use Rattle.std.specs.List.{range_with_len}
use Rattle.beet_bids.specs.Lines.{begin_at}
use Rattle.beet_bids.specs.BidFiles.{held_line}
use Rattle.beet_bids.proofs.lines.curve_of.Given as goal

abbrev pub invariant-loop-i : goal.invariant-loop-i
invariant-loop-i l = record {
  buy : l.buy.items ≡ map (λ place. (held_line l.grid l.lines place).buy) (range_with_len 0 (begin_at l.grid l.lines l.i));
  sell : l.sell.items ≡ map (λ place. (held_line l.grid l.lines place).sell) (range_with_len 0 (begin_at l.grid l.lines l.i));
}
