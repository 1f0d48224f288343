-- What a server sees of the auction of a book with given words, of which as many are kept as a run reads.
use Rattle.std.specs.Prelude.{ℕ, List}
use Rattle.beet_field.specs.declared.point.Point.{Point}
use Rattle.beet_words.specs.Bundles.{Words}
use Rattle.beet_bids.specs.Books.{Book}
use Rattle.beet_bids.specs.Grids.{Grid}
use Rattle.beet_view.specs.BookViews.{view_for}
use Rattle.beet_view.specs.Transcripts.{view_bytes}
use Rattle.beet_view.specs.Views.{Viewed}
use Rattle.beet_trades.specs.Enough.{read_words}
use Rattle.beet_auction_map.specs.Enough.{wants_over}

-- the words that are read for an auction
abbrev pub cut_words : Grid → Words → Words
cut_words grid words = read_words (wants_over grid) words

-- what a server sees of the auction of a book with these words, which may be more than are kept: `view_for` of those
-- that are
abbrev pub view_with : Book → Words → Point → Viewed
view_with book words s = view_for book (cut_words book.grid words) s

-- the transcript of that server
abbrev pub transcript_with : Book → Words → Point → List ℕ
transcript_with book words s = view_bytes (view_with book words s)
