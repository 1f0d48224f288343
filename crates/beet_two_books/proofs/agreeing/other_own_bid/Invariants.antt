use Rattle.beet_field.specs.Trio.{member}
use Rattle.beet_two_books.proofs.Known.{SameSoFar}
use Rattle.beet_two_books.proofs.agreeing.other_own_bid.Given as goal

abbrev pub invariant-loop-i : goal.invariant-loop-i
invariant-loop-i l = record { same : SameSoFar (member l.watch) l.first.bidders l.second.bidders l.i }
