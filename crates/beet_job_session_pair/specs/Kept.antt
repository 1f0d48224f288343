-- What the program keeps of two sessions that are read.
use Rattle.std.specs.Prelude.{◌≡◌, List, [], ◌∷◌, ◌++◌, ◌+◌, map}
use Rattle.beet_words.specs.Bundles.{Words}
use Rattle.beet_bids.specs.Books.{Book}
use Rattle.beet_load.specs.Loading.{AuctionWithBidders}
use Rattle.beet_load.specs.Wholes.{CanStart}
use Rattle.beet_load.specs.WholeViews.{loaded_with}
use Rattle.beet_job_session_pair.specs.Reading.{Both, LimitedLot, taken_by}
use Rattle.beet_job_session_pair.specs.declared.sessions.BothSessions.{BothSessions}
use Rattle.beet_job_session_pair.specs.declared.sessions.WholeLots.{WholeLots}

-- the lots that are read, by the book and the words that are kept of each
abbrev pub loaded_each : List Book → List Words → List AuctionWithBidders
loaded_each (book ∷ books) (held ∷ words) = loaded_with book held ∷ loaded_each books words
loaded_each _ _ = []

-- one lot more is kept
pub record KeepsLot (before after : WholeLots) (limited : LimitedLot) : Type 0 where
  pub book : Book
  pub held : Words
  pub books : after.books.items ≡ before.books.items ++ book ∷ []
  pub words : after.words.items ≡ before.words.items ++ held ∷ []
  pub runs : CanStart book held
  pub lot : limited.lot ≡ loaded_with book held
  pub product : after.product ≡ before.product + limited.product

-- these lots are kept
pub record AreKept (kept : WholeLots) (read : List LimitedLot) : Type 0 where
  pub lots : map (λ limited. limited.lot) read ≡ loaded_each kept.books.items kept.words.items
  pub product : kept.product ≡ taken_by read

-- both sessions, by what is kept of them
abbrev pub both_of : BothSessions → Both
both_of kept = record {
  rows = kept.rows;
  lots = loaded_each kept.lots.books.items kept.lots.words.items;
  seconds = kept.seconds.items;
}
