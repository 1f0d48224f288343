use Rattle.std.proofs.Common.{◌≡◌, ◌≤◌, length, None, vec_capacity}
use Rattle.std.specs.Prelude.{replicate}
use Rattle.beet_five_server.proofs.mail.empty_places.Given as goal

abbrev pub invariant-loop : goal.invariant-loop
invariant-loop l = record {
  items : l.places.items ≡ replicate l.counter None;
  len : length l.places.items ≡ l.counter;
  room : l.count ≤ vec_capacity l.places;
}
