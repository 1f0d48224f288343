-- The messages of the rounds that a server has passed, by their numbers.
use Rattle.std.specs.Prelude.{◌≡◌, ◌≤◌, ◌*◌, ◌+◌, ℕ, List, [], ◌∷◌, length, Option, option_map, option_and_then}
use Rattle.std.specs.Prelude.{slice_get}
use Rattle.beet_field.specs.declared.point.Point.{Point}
use Rattle.beet_field.specs.declared.TheConstants.{MOST_NUMBERS}
use Rattle.beet_round.specs.Sides.{peer, place_of}
use Rattle.beet_round.specs.declared.message.RoundMessage.{RoundMessage}
use Rattle.beet_round.specs.declared.sides.Side.{Side}
use Rattle.beet_round.specs.declared.sides.Side.TheVariants.{Low, High}
use Rattle.beet_server.specs.Rows.{Rows}

pub record KeptMessages : Type 0 where
  pub me : Point
  pub messages : List (List RoundMessage)
  pub room : ℕ

abbrev pub message_with : Point → ℕ → Side → List ℕ → RoundMessage
message_with me round side numbers =
    record { from = peer me side; to = me; round = round; numbers = record { items = numbers } }

-- the messages of each round from this one on
abbrev pub messages_of : Point → ℕ → List (List ℕ) → List (List ℕ) → List (List RoundMessage)
messages_of me round [] highs = []
messages_of me round (l ∷ lows) [] = []
messages_of me round (l ∷ lows) (h ∷ highs) =
    (message_with me round Low l ∷ message_with me round High h ∷ []) ∷ messages_of me (round + 1) lows highs

abbrev pub numbers_kept : List (List RoundMessage) → ℕ → Side → Option (List ℕ)
numbers_kept messages round side = option_and_then
    (λ pair. option_map (λ m. m.numbers.items) (slice_get pair (place_of side))) (slice_get messages round)

-- each has no more numbers than a message may
abbrev pub AreShort : List (List ℕ) → Type 0
AreShort [] = Unit {0}
AreShort (r ∷ rs) = (length r ≤ MOST_NUMBERS) × AreShort rs

-- as many messages of both peers, and room for the most numbers of a message in each round
pub record IsKept (low high : Rows) : Type 0 where
  pub same : length high.rows ≡ length low.rows
  pub room : high.ends_room ≡ low.ends_room
  pub low_few : low.count ≤ MOST_NUMBERS * length low.rows
  pub high_few : high.count ≤ MOST_NUMBERS * length low.rows
  pub low_fit : MOST_NUMBERS * low.ends_room ≤ low.items_room
  pub high_fit : MOST_NUMBERS * low.ends_room ≤ high.items_room
  pub low_short : AreShort low.rows
  pub high_short : AreShort high.rows
