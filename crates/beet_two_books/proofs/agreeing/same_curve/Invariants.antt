use Rattle.std.proofs.Common.{◌≡◌, ◌<◌, ℕ, slice_index}
use Rattle.beet_two_books.proofs.agreeing.same_curve.Given as goal

abbrev pub invariant-loop-place : goal.invariant-loop-place
invariant-loop-place l = record {
  end : l.place-end ≡ l.grid.prices;
  buy : (k : ℕ) → k < l.place → slice_index l.second.buy k ≡ slice_index l.first.buy k;
  sell : (k : ℕ) → k < l.place → slice_index l.second.sell k ≡ slice_index l.first.sell k;
}
