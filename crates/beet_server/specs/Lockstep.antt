-- Three servers that go round by round.
use Rattle.std.specs.Prelude.{◌≡◌, ℕ, List, true, false}
use Rattle.beet_field.specs.Trio.{member}
use Rattle.beet_field.specs.declared.point.Point.{Point}
use Rattle.beet_field.specs.declared.trio.Trio.{Trio}
use Rattle.beet_gates.specs.declared.Batch.{Batch}
use Rattle.beet_sharing.specs.Runs.{Setup, rounds_among}
use Rattle.beet_server.specs.Cores.{Core, has_ended, setup_of}
use Rattle.beet_delivery.specs.Events.{Delivered, all_delivered}
use Rattle.beet_server.specs.Fits.{Fits, IsRound, message_of}
use Rattle.beet_round.specs.Sides.{peer}
use Rattle.beet_round.specs.declared.message.RoundMessage.{RoundMessage}
use Rattle.beet_round.specs.declared.sides.Side.TheVariants.{Low, High}

-- these are the messages of a server in a round, to the lower and to the higher peer
pub record AreSent (o : Setup) (me : Point) (t : ℕ) (low high : RoundMessage) : Type 0 where
  pub to_low : low ≡ message_of o me (peer me Low) t
  pub to_high : high ≡ message_of o me (peer me High) t

module _ {S : Type 0} (next : S → ℕ → List ℕ → Batch) where
  -- the core of a server that has passed t rounds of a run, with all messages of these rounds delivered and nothing of
  -- the next
  pub record IsAtRound (o : Setup) (t : ℕ) (s : Point) (c : Core S) : Type 0 where
    pub name : c.me ≡ s
    pub fits : Fits next o (all_delivered t) c
    pub round : c.round ≡ t
    pub handed : c.handed ≡ false

  -- so stand all three
  abbrev pub AreAtRound : Setup → ℕ → Trio (Core S) → Type 0
  AreAtRound o t cores = (s : Point) → IsAtRound o t s (member cores s)

  -- the core of a server in round t, whose messages are handed out, with these messages delivered
  pub record HasHanded (o : Setup) (t : ℕ) (x : Delivered) (s : Point) (c : Core S) : Type 0 where
    pub name : c.me ≡ s
    pub fits : Fits next o x c
    pub round : c.round ≡ t
    pub handed : c.handed ≡ true

  -- these are both messages of a round of some run to a core that has handed out its own, with nothing of the round
  -- delivered
  pub record MayTake (c : Core S) (low high : RoundMessage) : Type 0 where
    pub o : Setup
    pub t : ℕ
    pub s : Point
    pub is_round : IsRound o t
    pub waits : HasHanded o t (all_delivered t) s c
    pub is_low : low ≡ message_of o (peer s Low) s t
    pub is_high : high ≡ message_of o (peer s High) s t

  -- three cores are at a round of some run
  pub record MayPass (cores : Trio (Core S)) : Type 0 where
    pub o : Setup
    pub t : ℕ
    pub is_round : IsRound o t
    pub stand : AreAtRound o t cores

  -- three fresh cores have passed all rounds of their run, with all its messages delivered, and still have the words
  -- that they began with
  pub record HaveEnded (inputs most : S → ℕ) (start end : Trio (Core S)) : Type 0 where
    pub ended : AreAtRound (setup_of next inputs start)
        (rounds_among (setup_of next inputs start) (most start.one.script)) end
    pub at_end : (s : Point) → has_ended next (member end s) ≡ true
    pub script : (s : Point) → (member end s).script ≡ start.one.script
    pub masks : (s : Point) → (member end s).masks.words ≡ (member start s).masks.words
    pub coefficients : (s : Point) → (member end s).coefficients.words ≡ (member start s).coefficients.words
