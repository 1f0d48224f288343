use Rattle.beet_highbid.proofs.Pairs.{pair-here, pair-there}
use Rattle.beet_highbid.proofs.WinningBids.{two-sales}
use Rattle.beet_highbid.proofs.laws.winning_bids_look_alike.Goals as goal

pub returns-clause-agree : goal.returns-clause-agree
returns-clause-agree c = two-sales

pub returns-clause-second : goal.returns-clause-second
returns-clause-second c = λ s gates first second words differ. pair-there s gates first second words (two-sales s first second differ)

pub returns-clause-first : goal.returns-clause-first
returns-clause-first c = λ s gates first second words' differ. pair-here s gates first second words' (two-sales s first second differ)
