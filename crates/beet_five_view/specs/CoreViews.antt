-- What a server of five has received in the rounds that it has passed, and sees with it.
use Rattle.std.specs.Prelude.{ℕ, List, [], map, unwrap_or}
use Rattle.beet_gates.specs.Each.{each}
use Rattle.beet_bids.specs.Books.{Book}
use Rattle.beet_book.specs.Farmers.{farmers_of}
use Rattle.beet_coalition.specs.Lists.{at_server}
use Rattle.beet_five_server.specs.Answers.{Core}
use Rattle.beet_five_server.specs.Network.{peers}
use Rattle.beet_five_server.specs.Received.{received_from}
use Rattle.beet_five_dealing.specs.FiveWords.{FiveWords}
use Rattle.beet_five_view.specs.JointBooks.{seen_at}
use Rattle.beet_five_view.specs.JointViews.{FiveView}

-- the numbers of a peer in a round
abbrev pub numbers_received : {S : Type 0} → Core S → ℕ → ℕ → List ℕ
numbers_received c t from = unwrap_or (received_from c from t) []

-- those of the four peers, in rising order
abbrev pub round_received : {S : Type 0} → Core S → ℕ → List (List ℕ)
round_received c t = map (numbers_received c t) (peers c.work.me)

-- those of each round that it has passed
abbrev pub rounds_received : {S : Type 0} → Core S → List (List (List ℕ))
rounds_received c = each (round_received c) c.work.round

-- what a core sees of the auction of a book with these words
abbrev pub view_of_core : {S : Type 0} → Book → FiveWords → Core S → FiveView
view_of_core book words c = record {
  server = c.work.me;
  grid = book.grid;
  bidders = map (seen_at book.grid.prices c.work.me) (farmers_of book.bidders words.bidders);
  masks = at_server words.masks c.work.me;
  coefficients = at_server words.coefficients c.work.me;
  rounds = rounds_received c;
}
