use Rattle.std.proofs.Common.{◌≡◌, ℕ, ◌≤◌, ◌*◌, List, Some, length}
use Rattle.std.specs.Prelude.{All, vec_capacity}
use Rattle.std.specs.List.{slice_get}
use Rattle.beet_field.specs.declared.trio.Trio.{Trio}
use Rattle.beet_words.specs.Tapes.{Tape}
use Rattle.beet_bids.specs.Curves.{Curve}
use Rattle.beet_book.specs.Dealing.{DealsBidder, HasLengths}
use Rattle.beet_book.proofs.dealing.deal_in_order.Given as goal

abbrev pub invariant-loop-i : goal.invariant-loop-i
invariant-loop-i l = record {
  tapes : length l.tapes ≡ length l.fn.tapes;
  count : length l.dealt.items ≡ l.i;
  room : length l.curves ≤ vec_capacity l.dealt;
  each : (i : ℕ) (curve : Curve) (before after : Tape) (points : Trio (List ℕ)) →
      slice_get l.curves i ≡ Some curve → slice_get l.fn.tapes i ≡ Some before → slice_get l.tapes i ≡ Some after →
      slice_get l.dealt.items i ≡ Some points → DealsBidder curve before after points;
  rest : (i : ℕ) → l.i ≤ i → slice_get l.tapes i ≡ slice_get l.fn.tapes i;
  lengths : All (λ points. HasLengths points (2 * l.grid.prices)) l.dealt.items;
}
