-- What a server has and does in two runs after a list of events.
use Rattle.std.specs.Prelude.{◌≡◌, ℕ, List, true}
use Rattle.beet_field.specs.Trio.{member}
use Rattle.beet_field.specs.declared.point.Point.{Point}
use Rattle.beet_delivery.specs.Events.{Triple, after, is_sent, passed}
use Rattle.beet_sharing.specs.Runs.{Setup, message, shared_at, standing_at}

-- server s in two runs of so many rounds, after these events: the same messages are delivered, and the server has
-- passed as many rounds; it has received the same numbers, has the same points, with the lets of its round and without,
-- and the same opened numbers; and the messages that it has sent are the same
pub record SameAfter (s : Point) (first : Setup) (rounds : ℕ) (second : Setup) (rounds' : ℕ)
    (es : List Triple) : Type 0 where
  pub delivered : after rounds' es ≡ after rounds es
  pub passed_rounds : passed rounds' (after rounds' es) s ≡ passed rounds (after rounds es) s
  pub received : (from : Point) (t : ℕ) → after rounds es from s t ≡ true →
      message second from s t ≡ message first from s t
  pub points : let t = passed rounds (after rounds es) s in
      member (shared_at second t).wires s ≡ member (shared_at first t).wires s
  pub standing : let t = passed rounds (after rounds es) s in
      member (standing_at second t).wires s ≡ member (standing_at first t).wires s
  pub opened : let t = passed rounds (after rounds es) s in
      (shared_at second t).opened ≡ (shared_at first t).opened
  pub sent : (to : Point) (t : ℕ) → is_sent rounds (after rounds es) (record { from = s; to = to; round = t }) ≡ true →
      message second s to t ≡ message first s to t
