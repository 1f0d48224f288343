use Rattle.std.proofs.Common.{◌≡◌, ◌+◌, ◌*◌}
use Rattle.beet_book.proofs.Deals.{front}
use Rattle.beet_book.specs.Dealing.{dealt_points}
use Rattle.beet_words.specs.Tapes.{drawn_from, left_of}
use Rattle.beet_book.proofs.dealing.deal_bidder.Given as goal

abbrev pub invariant-loop-place : goal.invariant-loop-place
invariant-loop-place l = record {
  room : l.columns.room ≡ 2 * l.prices;
  points : l.columns.points ≡ front l.place (dealt_points l.fn.curve (left_of l.fn.tape));
  drawn : l.tape ≡ drawn_from l.fn.tape l.place;
}

abbrev pub invariant-loop-place-2 : goal.invariant-loop-place-2
invariant-loop-place-2 l = record {
  room : l.columns.room ≡ 2 * l.prices;
  points : l.columns.points ≡ front (l.prices + l.place) (dealt_points l.fn.curve (left_of l.fn.tape));
  drawn : l.tape ≡ drawn_from l.fn.tape (l.prices + l.place);
}
