-- What is read of the bidders of a book: of each its bid, and then its words, of which there have to be enough.
use Rattle.std.specs.Prelude.{ℕ, ◌+◌, List, [], ◌∷◌, ◌++◌, length, map, take, slice_get, nat_lt, if◌then◌else◌, Option}
use Rattle.std.specs.Prelude.{Some, None, option_and_then}
use Rattle.beet_words.specs.Words.{accepted}
use Rattle.beet_words.specs.Seeds.{seed_words}
use Rattle.beet_words.specs.TapeFiles.{tape_of}
use Rattle.beet_bids.specs.Grids.{Grid}
use Rattle.beet_bids.specs.BidFiles.{bid_of}
use Rattle.beet_bids.specs.declared.book.Bidder.{Bidder}
use Rattle.beet_book.specs.Farmers.{BidderWithWords}
use Rattle.beet_book.specs.declared.entries.Entry.{Entry}
use Rattle.beet_book.specs.declared.entries.BidderSource.{BidderSource}
use Rattle.beet_book.specs.declared.entries.BidderSource.TheVariants.{Seed, Tape}
use Rattle.beet_errand.specs.Errands.{Errand, Step, gives, reads, refuses, ◌>>=◌, ◌>>◌}
use Rattle.beet_masking.specs.Masks.{with_spare}
use Rattle.beet_load.specs.WordTexts.{too_few_text}
use Rattle.beet_load.specs.declared.wanted.Wanted.{Wanted}
use Rattle.beet_errand.specs.declared.answer.Refusal.TheVariants.{TooFewWords}
use Rattle.beet_words.specs.declared.tape_file.TheConstants.{TAPE_LIMIT}
use Rattle.beet_bids.specs.declared.bid_file.TheConstants.{BID_LIMIT}

-- the list of the bidder at a place, if lists are given
abbrev pub list_at : Option (List (List ℕ)) → ℕ → Option (List ℕ)
list_at lists i = option_and_then (λ all. slice_get all i) lists

-- the words of a bidder, cut to so many: those that are given, or else those of its source
abbrev pub words_errand : Option (List ℕ) → BidderSource → ℕ → Step (List ℕ)
words_errand (Some words) source kept = gives (take kept words)
words_errand None (Seed seed) kept = gives (seed_words seed 0 kept)
words_errand None (Tape name) kept = reads name TAPE_LIMIT (λ bytes. tape_of bytes kept)

-- so many accepted words are enough, or the bidder with this number has too few
abbrev pub enough_accepted : Option ℕ → ℕ → ℕ → ℕ → Errand → Errand
enough_accepted lot number wanted held next =
    if nat_lt held wanted then refuses TooFewWords (too_few_text lot number held wanted) else next

-- of these words enough are accepted, or the bidder has too few
abbrev pub enough_words : Option ℕ → ℕ → ℕ → List ℕ → Errand → Errand
enough_words lot number wanted words next = enough_accepted lot number wanted (length (accepted words)) next

-- the words of the bidder with this number: those that are given, or else those of its source
abbrev pub bidder_errand : Wanted → Option (List ℕ) → ℕ → BidderSource → Step (List ℕ)
bidder_errand wanted given number source = do
  words ← words_errand given source (with_spare wanted.counts.words)
  enough_words wanted.lot number wanted.counts.words words
  gives words

-- the bidder of an entry, with this number: first its bid, then its words, unless they are given
abbrev pub farmer_errand : Wanted → Grid → Option (List ℕ) → ℕ → Entry → Step BidderWithWords
farmer_errand wanted grid given number entry = do
  curve ← reads entry.bid BID_LIMIT (bid_of grid)
  words ← bidder_errand wanted given number entry.source
  gives (record { bidder = record { known = entry.known; curve = curve }; words = words })

-- the bidders of a book in order, after those that are read, with the lists of words that are given; they are numbered
-- from 1
abbrev pub farmers_errand : Wanted → Grid → Option (List (List ℕ)) → List BidderWithWords → List Entry →
    Step (List BidderWithWords)
farmers_errand wanted grid lists read [] = gives read
farmers_errand wanted grid lists read (entry ∷ entries) = do
  farmer ← farmer_errand wanted grid (list_at lists (length read)) (length read + 1) entry
  farmers_errand wanted grid lists (read ++ farmer ∷ []) entries

-- the bidders alone
abbrev pub bidders_of : List BidderWithWords → List Bidder
bidders_of farmers = map (λ farmer. farmer.bidder) farmers
