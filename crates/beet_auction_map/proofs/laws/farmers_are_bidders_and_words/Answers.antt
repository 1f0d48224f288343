use Rattle.beet_auction_map.proofs.Drawn.{farmers-words, words-told}
use Rattle.beet_auction_map.proofs.laws.farmers_are_bidders_and_words.Goals as goal
use Rattle.beet_book.proofs.FarmerLists.{book-whole}

pub returns-clause-book : goal.returns-clause-book
returns-clause-book c = book-whole

pub returns-clause-words : goal.returns-clause-words
returns-clause-words c = words-told

pub returns-clause-are_words : goal.returns-clause-are_words
returns-clause-are_words c = farmers-words
