-- The messages that a server has received of its round and of the next.
use Rattle.std.specs.Prelude.{◌≡◌, ◌≢◌, ℕ, ◌+◌, ◌<◌, ◌≤◌, List, [], Option, Some, None, is_some, IfSome, true, false}
use Rattle.std.specs.Prelude.{◌⊎◌, ◌==◌, if◌then◌else◌}
use Rattle.arrayvec.specs.ArrayVec.{array_vec_len}
use Rattle.beet_field.specs.declared.point.Point.{Point}
use Rattle.beet_field.specs.declared.TheConstants.{MOST_NUMBERS}
use Rattle.beet_round.specs.declared.sides.Side.{Side}
use Rattle.beet_round.specs.declared.sides.Side.TheVariants.{Low, High}
use Rattle.beet_round.specs.declared.message.RoundMessage.{RoundMessage}
use Rattle.beet_round.specs.declared.places.Places.{Places}
use Rattle.beet_round.specs.declared.mailbox.Verdict.{Verdict}
use Rattle.beet_round.specs.declared.mailbox.Verdict.TheVariants.{Stored, Ready, Repeat, Old, TooEarly, WrongLength}
use Rattle.beet_round.specs.declared.mailbox.Verdict.TheVariants.{Stranger}
use Rattle.beet_round.specs.Sides.{peer}

-- the place of the other server of this side
abbrev pub place_at : Places → Side → Option RoundMessage
place_at places Low = places.low
place_at places High = places.high

-- with the message put in the place of this side
abbrev pub with_place : Places → Side → RoundMessage → Places
with_place places Low m = record places { low = Some m }
with_place places High m = record places { high = Some m }

-- the numbers of a message, if it is there
abbrev pub numbers_of : Option RoundMessage → List ℕ
numbers_of None = []
numbers_of (Some m) = m.numbers.items

-- the numbers of the message of the other server of this side
abbrev pub numbers_at : Places → Side → List ℕ
numbers_at places s = numbers_of (place_at places s)

-- no message
abbrev pub no_places : Places
no_places = record { low = None; high = None }

-- a server, its round, the length that it wants of the round's messages, and the messages of the round and of the next
pub record Mailbox : Type 0 where
  pub me : Point
  pub round : ℕ
  pub want : ℕ
  pub now : Places
  pub next : Places

-- no message yet, at round 0
abbrev pub fresh_box : Point → ℕ → Mailbox
fresh_box me want = record { me = me; round = 0; want = want; now = no_places; next = no_places }

-- both messages are there
abbrev pub HasBoth : Places → Type 0
HasBoth places = (is_some places.low ≡ true) × (is_some places.high ≡ true)

-- the message is of this round, to the server from the other server of this side
pub record IsFrom (me : Point) (at : ℕ) (s : Side) (m : RoundMessage) : Type 0 where
  pub to : m.to ≡ me
  pub from : m.from ≡ peer me s
  pub round : m.round ≡ at

-- what is in these places is of this round, to the server from the other two
abbrev pub AreFrom : Point → ℕ → Places → Type 0
AreFrom me at places = IfSome places.low (IsFrom me at Low) × IfSome places.high (IsFrom me at High)

-- what is in these places has so many numbers
abbrev pub HaveLength : ℕ → Places → Type 0
HaveLength n places =
    IfSome places.low (λ m. array_vec_len m.numbers ≡ n) × IfSome places.high (λ m. array_vec_len m.numbers ≡ n)

-- what always holds of a box
pub record IsSound (box : Mailbox) : Type 0 where
  pub wanted : box.want ≤ MOST_NUMBERS
  pub current : AreFrom box.me box.round box.now
  pub early : AreFrom box.me (box.round + 1) box.next
  pub lengths : HaveLength box.want box.now

-- the message is not to the server, or it is from the server itself
abbrev pub IsStranger : Point → RoundMessage → Type 0
IsStranger me m = (m.to ≢ me) ⊎ (m.from ≡ me)

-- the place of this side and of the message's round is filled
abbrev pub IsFilled : Mailbox → Side → ℕ → Type 0
IsFilled box s at =
    ((at ≡ box.round) × (is_some (place_at box.now s) ≡ true))
    ⊎ ((at ≡ box.round + 1) × (is_some (place_at box.next s) ≡ true))

-- the message is of the box's round, and the place of this side is empty
abbrev pub IsDue : Mailbox → Side → RoundMessage → Type 0
IsDue box s m = (m.round ≡ box.round) × (is_some (place_at box.now s) ≡ false)

-- the message is of the next round, and the place of this side is empty
abbrev pub IsEarly : Mailbox → Side → RoundMessage → Type 0
IsEarly box s m = (m.round ≡ box.round + 1) × (is_some (place_at box.next s) ≡ false)

-- when each verdict comes on a message to the server from this side, and what it leaves: no two of these stand together
abbrev pub JudgedFrom : Mailbox → Mailbox → Side → RoundMessage → Verdict → Type 0
JudgedFrom old new s m Stranger = ⊥
JudgedFrom old new s m Old = (m.round < old.round) × (new ≡ old)
JudgedFrom old new s m (TooEarly t) = (old.round + 1 < m.round) × (t ≡ old.round) × (new ≡ old)
JudgedFrom old new s m Repeat = IsFilled old s m.round × (new ≡ old)
JudgedFrom old new s m (WrongLength n) =
    IsDue old s m × (n ≡ array_vec_len m.numbers) × (n ≢ old.want) × (new ≡ old)
JudgedFrom old new s m Ready =
    IsDue old s m × (array_vec_len m.numbers ≡ old.want) × HasBoth new.now
    × (new ≡ record old { now = with_place old.now s m })
JudgedFrom old new s m Stored =
    (IsDue old s m × (array_vec_len m.numbers ≡ old.want) × ¬ (HasBoth new.now)
    × (new ≡ record old { now = with_place old.now s m }))
    ⊎ (IsEarly old s m × (new ≡ record old { next = with_place old.next s m }))

-- when each verdict comes on a message, and what it leaves
abbrev pub Judged : Mailbox → Mailbox → RoundMessage → Verdict → Type 0
Judged old new m Stranger = IsStranger old.me m × (new ≡ old)
Judged old new m verdict = (s : Side) × (m.to ≡ old.me) × (m.from ≡ peer old.me s) × JudgedFrom old new s m verdict

-- a message of the wanted length stays
abbrev pub kept : ℕ → Option RoundMessage → Option RoundMessage
kept want None = None
kept want (Some m) = if array_vec_len m.numbers == want then Some m else None

-- the next round, whose messages are the early ones of the wanted length
abbrev pub turned : Mailbox → ℕ → Mailbox
turned old want = record {
  me = old.me;
  round = old.round + 1;
  want = want;
  now = record { low = kept want old.next.low; high = kept want old.next.high };
  next = no_places;
}

-- the message is one that the box wants in its round from this side
pub record IsWanted (box : Mailbox) (s : Side) (m : RoundMessage) : Type 0 where
  pub from : IsFrom box.me box.round s m
  pub length : array_vec_len m.numbers ≡ box.want
