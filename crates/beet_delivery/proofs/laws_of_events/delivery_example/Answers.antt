use Rattle.std.proofs.Common.{refl}
use Rattle.beet_delivery.proofs.laws_of_events.delivery_example.Goals as goal

pub returns-clause-adds : goal.returns-clause-adds
returns-clause-adds c = refl

pub returns-clause-lists : goal.returns-clause-lists
returns-clause-lists c = refl

pub returns-clause-first : goal.returns-clause-first
returns-clause-first c = refl

pub returns-clause-second : goal.returns-clause-second
returns-clause-second c = refl

pub returns-clause-third : goal.returns-clause-third
returns-clause-third c = refl

pub returns-clause-four_left : goal.returns-clause-four_left
returns-clause-four_left c = refl

pub returns-clause-all_passed : goal.returns-clause-all_passed
returns-clause-all_passed c = refl

pub returns-clause-none_left : goal.returns-clause-none_left
returns-clause-none_left c = refl

pub returns-clause-sent : goal.returns-clause-sent
returns-clause-sent c = refl
