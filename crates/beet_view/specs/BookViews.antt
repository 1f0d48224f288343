-- The view of a server of the auction of a book.
use Rattle.std.specs.Prelude.{ℕ, ◌*◌, List, map, Bool, false, if◌then◌else◌, Option, Some, None}
use Rattle.beet_field.specs.Trio.{member}
use Rattle.beet_field.specs.declared.point.Point.{Point}
use Rattle.beet_field.specs.declared.trio.Trio.{Trio}
use Rattle.beet_gates.specs.Each.{each}
use Rattle.beet_words.specs.Bundles.{Words}
use Rattle.beet_bids.specs.Books.{Book}
use Rattle.beet_bids.specs.Curves.{Curve}
use Rattle.beet_bids.specs.Grids.{Grid}
use Rattle.beet_plan.specs.Auction.{most_rounds, auction_over}
use Rattle.beet_delivery.specs.Events.{same}
use Rattle.beet_sharing.specs.Runs.{rounds_among}
use Rattle.beet_auction.specs.Setups.{book_setup}
use Rattle.beet_book.specs.Farmers.{BidderWithWords, point_for, farmers_of}
use Rattle.beet_view.specs.declared.view.Seen.{Seen}
use Rattle.beet_view.specs.RunViews.{view_of_run}
use Rattle.beet_view.specs.Transcripts.{view_bytes}
use Rattle.beet_view.specs.Views.{Viewed}

-- whether a mark names a server
abbrev pub names : Option Point → Point → Bool
names None s = false
names (Some at) s = same at s

-- the curve and the words of a bidder, as a server keeps them that knows it
abbrev pub kept_if : Bool → Curve → List ℕ → Option (Curve × List ℕ)
kept_if known curve words = if known then Some (curve, words) else None

-- the curve and the words of a bidder, if this server knows it
abbrev pub own_at : Point → BidderWithWords → Option (Curve × List ℕ)
own_at s farmer = kept_if (names farmer.bidder.known s) farmer.bidder.curve farmer.words

-- a bidder with these points, as this server sees it
abbrev pub seen_with : Point → BidderWithWords → List ℕ → Seen
seen_with s farmer points = record { known = farmer.bidder.known; points = points; own = own_at s farmer }

-- a bidder as a server sees it: its mark, its points at the server, and its curve and words if the server knows it
abbrev pub seen_at : Grid → Point → BidderWithWords → Seen
seen_at grid s farmer = seen_with s farmer (each (point_for farmer s) (2 * grid.prices))

-- what a server sees of the auction of a book, with these mask words and coefficient words
abbrev pub view_of_book : Grid → List BidderWithWords → Trio (List ℕ) → Trio (List ℕ) → Point → Viewed
view_of_book grid farmers masks coefficients s =
    let o = book_setup grid farmers masks coefficients in
    view_of_run o s (rounds_among o (most_rounds (auction_over grid))) grid (map (seen_at grid s) farmers)
    (member masks s)
    (member coefficients s)

-- the transcript of that server
abbrev pub transcript_of_book : Grid → List BidderWithWords → Trio (List ℕ) → Trio (List ℕ) → Point → List ℕ
transcript_of_book grid farmers masks coefficients s = view_bytes (view_of_book grid farmers masks coefficients s)

-- what a server sees of the auction of a book with these words of servers and bidders: with all of them, also if
-- they are more than a run keeps
abbrev pub view_for : Book → Words → Point → Viewed
view_for book words s = view_of_book book.grid (farmers_of book.bidders words.bidders) words.masks words.coefficients s

-- the transcript of that server
abbrev pub transcript_for : Book → Words → Point → List ℕ
transcript_for book words s = view_bytes (view_for book words s)
