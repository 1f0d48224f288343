-- What servers see of the auction of a book.
use Rattle.std.specs.Prelude.{ℕ, ◌*◌, ◌==◌, List, map, Option}
use Rattle.beet_gates.specs.Each.{each}
use Rattle.beet_bids.specs.Books.{Book}
use Rattle.beet_bids.specs.Curves.{Curve}
use Rattle.beet_book.specs.Farmers.{BidderWithWords, farmers_of}
use Rattle.beet_view.specs.BookViews.{kept_if}
use Rattle.beet_view.specs.Transcripts.{mark_of}
use Rattle.beet_view.specs.declared.view.Seen.{Seen}
use Rattle.beet_linear_sharing.specs.Runs.{Setup}
use Rattle.beet_coalition.specs.Lists.{at_server}
use Rattle.beet_five_server.specs.Network.{peers}
use Rattle.beet_five_server.specs.Runs.{message}
use Rattle.beet_five_dealing.specs.FiveInputs.{rounds_of, setup_of, share_for}
use Rattle.beet_five_dealing.specs.FiveWords.{FiveWords}
use Rattle.beet_five_view.specs.JointViews.{FiveView, JointView, joint_bytes}

-- the curve and the words of a bidder, if server s knows it
abbrev pub own_at : ℕ → BidderWithWords → Option (Curve × List ℕ)
own_at s farmer = kept_if (mark_of farmer.bidder.known == s) farmer.bidder.curve farmer.words

-- a bidder with these points, as server s sees it
abbrev pub seen_with : ℕ → BidderWithWords → List ℕ → Seen
seen_with s farmer points = record { known = farmer.bidder.known; points = points; own = own_at s farmer }

-- a bidder as server s sees it, over so many prices: its mark, its shares at the server, and its curve and words if the
-- server knows it
abbrev pub seen_at : ℕ → ℕ → BidderWithWords → Seen
seen_at prices s farmer = seen_with s farmer (each (share_for farmer s) (2 * prices))

-- the numbers that server s gets in a round of a run from its four peers, in rising order
abbrev pub messages_to : Setup → ℕ → ℕ → List (List ℕ)
messages_to o s t = map (λ j. message o j s t) (peers s)

-- what server s sees of the auction of a book with these words: all of them, also if a run reads fewer
abbrev pub view_at : Book → FiveWords → ℕ → FiveView
view_at book words s = record {
  server = s;
  grid = book.grid;
  bidders = map (seen_at book.grid.prices s) (farmers_of book.bidders words.bidders);
  masks = at_server words.masks s;
  coefficients = at_server words.coefficients s;
  rounds = each (messages_to (setup_of book words) s) (rounds_of book words.masks);
}

-- what servers a and b see of it together
abbrev pub joint_view_of : ℕ → ℕ → Book → FiveWords → JointView
joint_view_of a b book words = record { lower = view_at book words a; higher = view_at book words b }

-- their joint transcript
abbrev pub joint_transcript : ℕ → ℕ → Book → FiveWords → List ℕ
joint_transcript a b book words = joint_bytes (joint_view_of a b book words)
