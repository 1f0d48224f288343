use Rattle.std.proofs.Common.{slice_index}
use Rattle.beet_coalition.specs.Watchers.{two_watch}
use Rattle.beet_five_map.specs.PairsMoved.{PairsMoved}
use Rattle.beet_five_map.proofs.bidders.move_numbers.Given as goal

abbrev pub invariant-loop-n : goal.invariant-loop-n
invariant-loop-n l =
    PairsMoved (two_watch l.fn.two.a l.fn.two.b) l.n (slice_index l.first) (slice_index l.second) l.fn.numbers l.numbers
