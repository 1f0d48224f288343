use Rattle.beet_coalition.proofs.Examples.{from-five, from-one, opened, points}
use Rattle.beet_coalition.proofs.five_product_example.Goals as goal

pub returns-clause-from_one : goal.returns-clause-from_one
returns-clause-from_one c = from-one

pub returns-clause-from_five : goal.returns-clause-from_five
returns-clause-from_five c = from-five

pub returns-clause-points : goal.returns-clause-points
returns-clause-points c = points

pub returns-clause-opened : goal.returns-clause-opened
returns-clause-opened c = opened
