-- The kinds of files that jobs read, and what each is read as.
use Rattle.std.specs.Prelude.{ℕ, List}
use Rattle.beet_words.specs.Bundles.{Words}
use Rattle.beet_bids.specs.Curves.{Curve}
use Rattle.beet_bids.specs.Grids.{Grid}
use Rattle.beet_book.specs.declared.entries.Entry.{Entry}
use Rattle.beet_book.specs.declared.sources.Servers.{Servers}
use Rattle.beet_farmer.specs.declared.envelope.Envelope.{Envelope}
use Rattle.beet_farmer.specs.declared.list_file.ListEntry.{ListEntry}
use Rattle.beet_world.specs.declared.schedule.Delivery.{Delivery}
use Rattle.beet_view.specs.Views.{Viewed}

pub data FileKind : Type 0 where
  AuctionFile : FileKind
  ServersFile : FileKind
  BookFile : FileKind
  BidFile : FileKind
  TapeFile : FileKind
  BundleFile : FileKind
  ScheduleFile : FileKind
  ListFile : FileKind
  EnvelopeFile : FileKind
  TranscriptFile : FileKind

-- what a file of a kind is read as
abbrev pub ValueOf : FileKind → Type 0
ValueOf AuctionFile = Grid
ValueOf ServersFile = Servers
ValueOf BookFile = List Entry
ValueOf BidFile = Curve
ValueOf TapeFile = List ℕ
ValueOf BundleFile = Words
ValueOf ScheduleFile = List Delivery
ValueOf ListFile = List ListEntry
ValueOf EnvelopeFile = Envelope
ValueOf TranscriptFile = Viewed
