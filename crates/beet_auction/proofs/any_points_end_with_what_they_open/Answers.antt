use Rattle.beet_auction.specs.AnyPoints.{points_finish, points_rounds}
use Rattle.beet_auction.proofs.Ends.{ends-always}
use Rattle.beet_auction.proofs.OtherPoints.{any-ends}
use Rattle.beet_auction.proofs.any_points_end_with_what_they_open.Goals as goal

pub returns-clause-ends : goal.returns-clause-ends
returns-clause-ends c = any-ends

pub returns-clause-always : goal.returns-clause-always
returns-clause-always c = λ a o are masks next.
    ends-always a o (points_rounds a o.inputs o.masks) (points_finish a o.inputs o.masks) (any-ends a o are masks next)
