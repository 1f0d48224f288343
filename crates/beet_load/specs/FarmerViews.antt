-- What the program keeps of a bidder.
use Rattle.beet_book.specs.declared.entries.Entry.{Entry}
use Rattle.beet_book.specs.Farmers.{BidderWithWords}
use Rattle.beet_load.specs.declared.farmers.BidderWithTape.{BidderWithTape}

-- the bidder of an entry, by what the program keeps of it
abbrev pub farmer_of : Entry → BidderWithTape → BidderWithWords
farmer_of entry kept = record { bidder = record { known = entry.known; curve = kept.curve }; words = kept.tape.words }
