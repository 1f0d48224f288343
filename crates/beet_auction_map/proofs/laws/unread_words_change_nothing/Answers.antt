use Rattle.beet_trades.proofs.ReadRuns.{messages-read, rounds-read, run-read}
use Rattle.beet_auction_map.specs.Enough.{wants_over}
use Rattle.beet_auction_map.specs.MappedWords.{trade_of}
use Rattle.beet_auction_map.proofs.CutRuns.{reads}
use Rattle.beet_auction_map.proofs.laws.unread_words_change_nothing.Goals as goal

pub returns-clause-rounds : goal.returns-clause-rounds
returns-clause-rounds c = λ book words rounds enough runs.
    rounds-read (trade_of book) (wants_over book.grid) words (reads book words enough) rounds runs

pub returns-clause-runs : goal.returns-clause-runs
returns-clause-runs c = λ book words rounds t enough runs le.
    run-read (trade_of book) (wants_over book.grid) words (reads book words enough) rounds runs t le

pub returns-clause-messages : goal.returns-clause-messages
returns-clause-messages c = λ book words rounds t from to enough runs lt.
    messages-read (trade_of book) (wants_over book.grid) words (reads book words enough) rounds runs t lt from to
