-- How the auction of a book ends among five servers, with the words that are dealt.
use Rattle.std.proofs.Common.{refl}
use Rattle.beet_bids.specs.Books.{Book, IsBook}
use Rattle.beet_plan.specs.FivePlan.{five_over}
use Rattle.beet_five_auction.specs.FiveEndings.{FiveAuctionEnds, book_finish, book_rounds}
use Rattle.beet_five_auction.proofs.FiveEnds.{book-ends-among}
use Rattle.beet_coalition.specs.Lists.{at_server}
use Rattle.beet_five_dealing.specs.FiveInputs.{setup_of}
use Rattle.beet_five_dealing.specs.FiveWords.{CanRun, FiveWords}
use Rattle.beet_five_dealing.proofs.Lists.{at-words, words-five}
use Rattle.beet_five_dealing.proofs.Shares.{book-shared}

pub words-end : (book : Book) (words : FiveWords) → IsBook book → CanRun book words →
    FiveAuctionEnds (five_over book.grid) (setup_of book words) (book_rounds book (at_server words.masks))
    (book_finish book (at_server words.masks))
words-end book words is can =
    book-ends-among book (setup_of book words) is
    (words-five (at_server words.masks) (at-words words.masks can.are_words.masks.small)) refl (book-shared book words is can.count)
