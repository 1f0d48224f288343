use Rattle.std.proofs.Common.{◌≡◌, map, take}
use Rattle.beet_two_books.specs.Losses.{lost_at}
use Rattle.beet_two_books.proofs.masks.losses_at.Given as goal

abbrev pub invariant-loop-place : goal.invariant-loop-place
invariant-loop-place l = l.losses.items ≡ map (lost_at l.first l.second) (take l.place-index l.places)
