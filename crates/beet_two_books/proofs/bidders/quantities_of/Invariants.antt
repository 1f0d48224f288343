use Rattle.std.proofs.Common.{◌≡◌, ◌*◌, take}
use Rattle.beet_book.specs.Dealing.{quantities}
use Rattle.beet_two_books.proofs.bidders.quantities_of.Given as goal

abbrev pub invariant-loop-n : goal.invariant-loop-n
invariant-loop-n l = record {
  end : l.count ≡ 2 * l.grid.prices;
  so_far : l.numbers.items ≡ take l.n (quantities l.curve);
}
