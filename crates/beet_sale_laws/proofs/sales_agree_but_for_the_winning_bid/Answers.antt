use Rattle.beet_sale_laws.proofs.Examples.{known-winning-bid, other-price, other-winner, other-winning-bid}
use Rattle.beet_sale_laws.proofs.sales_agree_but_for_the_winning_bid.Goals as goal

pub returns-clause-bid : goal.returns-clause-bid
returns-clause-bid c = other-winning-bid

pub returns-clause-price : goal.returns-clause-price
returns-clause-price c = other-price

pub returns-clause-winner : goal.returns-clause-winner
returns-clause-winner c = other-winner

pub returns-clause-known : goal.returns-clause-known
returns-clause-known c = known-winning-bid
