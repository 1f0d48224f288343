-- One round of three servers, round by round.
use Rattle.std.proofs.Common.{◌≡◌, ◌≢◌, ℕ, ◌+◌, ◌≤◌, List, Bool, true, false, true≢false, inl, inr, arith, refl, sym}
use Rattle.std.proofs.Common.{◌∙◌, ap, subst, ◌&&◌, ◌||◌, ◌==◌, ◌⊎◌, not, nat_lt}
use Rattle.std.proofs.lemmas.Bool.Decides.{nat_tests}
use Rattle.beet_field.specs.declared.point.Point.{Point}
use Rattle.beet_field.specs.declared.point.Point.TheVariants.{One, Two, Three}
use Rattle.beet_gates.specs.declared.Batch.{Batch}
use Rattle.beet_round.specs.Sides.{peer}
use Rattle.beet_round.specs.declared.message.RoundMessage.{RoundMessage}
use Rattle.beet_round.specs.declared.mailbox.Verdict.{Verdict}
use Rattle.beet_round.specs.declared.mailbox.Verdict.TheVariants.{Stored, Ready, Repeat, Old, TooEarly, WrongLength, Stranger}
use Rattle.beet_round.specs.declared.sides.Side.{Side}
use Rattle.beet_round.specs.declared.sides.Side.TheVariants.{Low, High}
use Rattle.beet_sharing.specs.Runs.{Setup}
use Rattle.beet_delivery.specs.Events.{Delivered, Triple, all_delivered, both_in, same, with_triple}
use Rattle.beet_server.specs.Cores.{Core, is_quiet, has_ended}
use Rattle.beet_server.specs.Fits.{Fits, IsRound, message_of}
use Rattle.beet_server.specs.Answers.{Answers, Moves}
use Rattle.beet_delivery.proofs.ThreeServers.{peer_other, same_self}
use Rattle.beet_server.proofs.Passing.{coming_is, elsewhere}
use Rattle.beet_server.specs.Lockstep.{AreSent, HasHanded, IsAtRound}

-- the message of a side to a server in a round
abbrev pub from_side : Point → Side → ℕ → Triple
from_side s side t = record { from = peer s side; to = s; round = t }

-- of the messages of all rounds before t, those to a server are of these rounds
pub before-round : (s : Point) (side : Side) (t r : ℕ) → all_delivered t (peer s side) s r ≡ nat_lt r t
before-round s side t r = rw (peer_other s side) refl

-- the set of all messages before round t, with the lower peer's message of the round, and with both
abbrev pub with_low : Point → ℕ → Delivered
with_low s t = with_triple (all_delivered t) (from_side s Low t)

abbrev pub with_both : Point → ℕ → Delivered
with_both s t = with_triple (with_low s t) (from_side s High t)

peers_apart : (s : Point) → same (peer s High) (peer s Low) ≡ false
peers_apart One = refl
peers_apart Two = refl
peers_apart Three = refl

peers_apart_too : (s : Point) → same (peer s Low) (peer s High) ≡ false
peers_apart_too One = refl
peers_apart_too Two = refl
peers_apart_too Three = refl

not_before : (t : ℕ) → nat_lt t t ≡ false
not_before t = grind (arith, nat_tests)

more_below : (r t : ℕ) → (nat_lt r t || (r == t)) ≡ nat_lt r (t + 1)
more_below r t = grind (arith, nat_tests)

-- nothing of round t is there at first
none-yet : (s : Point) (side : Side) (t : ℕ) → all_delivered t (peer s side) s t ≡ false
none-yet s side t = before-round s side t t ∙ not_before t

-- the higher peer's message is not there with the lower one's
high-missing : (s : Point) (t : ℕ) → with_low s t (peer s High) s t ≡ false
high-missing s t = rw (peers_apart s, none-yet s High t) refl

-- both peers' messages of a round, and those of the rounds before
low-there : (s : Point) (r t : ℕ) → with_both s t (peer s Low) s r ≡ nat_lt r (t + 1)
low-there s r t = rw (before-round s Low t r, peers_apart_too s, same_self (peer s Low), same_self s)
    (tidy (nat_lt r t) (r == t) ∙ more_below r t) where
      tidy : (a b : Bool) → (a || b || false) ≡ (a || b)
      tidy true b = refl
      tidy false true = refl
      tidy false false = refl

high-there : (s : Point) (r t : ℕ) → with_both s t (peer s High) s r ≡ nat_lt r (t + 1)
high-there s r t = rw (before-round s High t r, peers_apart s, same_self (peer s High), same_self s)
    (tidy (nat_lt r t) (r == t) ∙ more_below r t) where
      tidy : (a b : Bool) → (a || false || b) ≡ (a || b)
      tidy true b = refl
      tidy false b = refl

both-there : (s : Point) (t : ℕ) → both_in (with_both s t) s t ≡ true
both-there s t = rw (low-there s t t, high-there s t t) (within t) where
  within : (t : ℕ) → (nat_lt t (t + 1) && nat_lt t (t + 1)) ≡ true
  within t = grind (arith, nat_tests)

-- with both, all messages to the server of the rounds up to t are there
all-there : (s : Point) (side : Side) (t r : ℕ) → all_delivered (t + 1) (peer s side) s r ≡ with_both s t (peer s side) s r
all-there s Low t r = before-round s Low (t + 1) r ∙ sym (low-there s r t)
all-there s High t r = before-round s High (t + 1) r ∙ sym (high-there s r t)

pub ready_or : (v : Verdict) → (v ≡ Ready) ⊎ (v ≢ Ready)
ready_or Ready = inl refl
ready_or Stored = inr (λ e. cc e)
ready_or Repeat = inr (λ e. cc e)
ready_or Old = inr (λ e. cc e)
ready_or (TooEarly t) = inr (λ e. cc e)
ready_or (WrongLength n) = inr (λ e. cc e)
ready_or Stranger = inr (λ e. cc e)

module _ {S : Type 0} (next : S → ℕ → List ℕ → Batch) (o : Setup) (t : ℕ) where
  -- a core at round t hands out its messages, and does not pass the round
  pub hands-out : (s : Point) (c d : Core S) → IsAtRound next o t s c → Fits next o (all_delivered t) d → d.me ≡ c.me →
      Moves c d → HasHanded next o t (all_delivered t) s d
  hands-out s c d a f me (inr (not, round, handed)) = record { name = me ∙ a.name; fits = f; round = round ∙ a.round; handed = handed }
  hands-out s c d a f me (inl (both, round, handed)) =
      let there = f.before Low t (omega (arith, round, a.round)) in
      absurd (true≢false (sym there ∙ (λ i. all_delivered t (peer (name i) Low) (name i) t) ∙ none-yet s Low t))
    where
      name : d.me ≡ s
      name = me ∙ a.name

  -- the lower peer's message comes first: the core waits for the other
  pub takes-low : (s : Point) (c d : Core S) (m : RoundMessage) (v : Verdict) →
      HasHanded next o t (all_delivered t) s c → Answers next c d m v →
      Fits next o (with_low s t) d → d.me ≡ c.me → HasHanded next o t (with_low s t) s d
  takes-low s c d m v h a f me = elim (ready_or v) [
    | inl ready ↦
        let passes = a.passes ready in
        let there = f.before High t (omega (arith, ap (λ k. k.round) passes, h.round)) in
        let name : d.me ≡ s = me ∙ h.name in
        absurd (true≢false (sym there ∙ (λ i. with_low s t (peer (name i) High) (name i) t) ∙ high-missing s t))
    | inr other ↦
        let waits = a.waits other in
        record { name = me ∙ h.name; fits = f; round = ap (λ k. k.round) waits ∙ h.round; handed = ap (λ k. k.handed) waits ∙ h.handed }
  ]

  -- the higher peer's message comes: the core passes the round
  pub takes-high : (s : Point) (c d : Core S) (m : RoundMessage) (v : Verdict) → HasHanded next o t (with_low s t) s c →
      Answers next c d m v →
      Fits next o (with_both s t) d → d.me ≡ c.me → IsAtRound next o (t + 1) s d
  takes-high s c d m v h a f me = elim (ready_or v) [
    | inl ready ↦
        let passes = a.passes ready in
        let name : d.me ≡ s = me ∙ h.name in
        record {
          name = name;
          fits = elsewhere next o (with_both s t) (all_delivered (t + 1)) d
              (λ side r. (λ i. all_delivered (t + 1) (peer (name i) side) (name i) r) ∙ all-there s side t r
              ∙ (λ i. with_both s t (peer (sym name i) side) (sym name i) r)) f;
          round = ap (λ k. k.round) passes ∙ ap (λ k. k + 1) h.round;
          handed = ap (λ k. k.handed) passes;
        }
    | inr other ↦
        let waits = a.waits other in
        let name : d.me ≡ s = me ∙ h.name in
        let still = f.waits (ap (λ k. k.handed) waits ∙ h.handed) in
        let round : d.round ≡ t = ap (λ k. k.round) waits ∙ h.round in
        absurd (true≢false (sym (both-there s t) ∙ (λ i. both_in (with_both s t) (sym name i) (sym round i)) ∙ still))
  ]

  -- the set with a message to a server, by the server's name
  named_set : (x : Delivered) (side : Side) (s : Point) (c : Core S) → c.me ≡ s →
      with_triple x (record { from = peer c.me side; to = c.me; round = t }) ≡ with_triple x (from_side s side t)
  named_set x side s c e = λ i. with_triple x (record { from = peer (e i) side; to = e i; round = t })

  named_message : (side : Side) (s : Point) (c : Core S) (m : RoundMessage) → c.me ≡ s →
      m ≡ message_of o (peer s side) s t → m ≡ message_of o (peer c.me side) c.me t
  named_message side s c m e is = is ∙ (λ i. message_of o (peer (sym e i) side) (sym e i) t)

  -- a core in a round of the run has not ended
  pub has-round : (x : Delivered) (s : Point) (c : Core S) → HasHanded next o t x s c → IsRound o t → has_ended next c ≡ false
  has-round x s c h is = coming_is next o x c h.fits ∙ is c.round (omega (arith, h.round))

  -- what a call gives that delivers a message of the run
  abbrev pub FitsBy : Core S → Core S → RoundMessage → Type 0
  FitsBy c d m = (o : Setup) (x : Delivered) (s : Side) (t : ℕ) → Fits next o x c →
      m ≡ message_of o (peer c.me s) c.me t → IsRound o t → t ≤ c.round + 1 →
      Fits next o (with_triple x (record { from = peer c.me s; to = c.me; round = t })) d

  pub low-taken : (s : Point) (c d : Core S) (m : RoundMessage) (v : Verdict) → HasHanded next o t (all_delivered t) s c → IsRound o t →
      (has_ended next c ≡ false → Answers next c d m v) → FitsBy c d m → d.me ≡ c.me → m ≡ message_of o (peer s Low) s t →
      HasHanded next o t (with_low s t) s d
  low-taken s c d m v h is answers fits me m_is =
      takes-low s c d m v h (answers (has-round (all_delivered t) s c h is))
      (subst (λ (x : Delivered). Fits next o x d) (named_set (all_delivered t) Low s c h.name)
      (fits o (all_delivered t) Low t h.fits (named_message Low s c m h.name m_is) is (omega (arith, h.round)))) me

  pub high-taken : (s : Point) (c d : Core S) (m : RoundMessage) (v : Verdict) → HasHanded next o t (with_low s t) s c → IsRound o t →
      (has_ended next c ≡ false → Answers next c d m v) → FitsBy c d m → d.me ≡ c.me → m ≡ message_of o (peer s High) s t →
      IsAtRound next o (t + 1) s d
  high-taken s c d m v h is answers fits me m_is =
      takes-high s c d m v h (answers (has-round (with_low s t) s c h is))
      (subst (λ (x : Delivered). Fits next o x d) (named_set (with_low s t) High s c h.name)
      (fits o (with_low s t) High t h.fits (named_message High s c m h.name m_is) is (omega (arith, h.round)))) me

  -- a core whose messages are handed out has nothing to hand out
  pub quiet-then : (x : Delivered) (s : Point) (c : Core S) → HasHanded next o t x s c → is_quiet next c ≡ true
  quiet-then x s c h = rw h.handed refl

  -- a core at a round of the run has its messages to hand out
  pub loud-then : (s : Point) (c : Core S) → IsAtRound next o t s c → IsRound o t → is_quiet next c ≡ false
  loud-then s c a is = rw (a.handed, coming_is next o (all_delivered t) c a.fits ∙ is c.round (omega (arith, a.round))) refl

  -- what a core at a round sends
  pub sent-low : (s : Point) (c : Core S) (low high : RoundMessage) → IsAtRound next o t s c →
      AreSent o c.me c.round low high → low ≡ message_of o s (peer s Low) t
  sent-low s c low high a m = m.to_low ∙ (λ i. message_of o (a.name i) (peer (a.name i) Low) (a.round i))

  pub sent-high : (s : Point) (c : Core S) (low high : RoundMessage) → IsAtRound next o t s c →
      AreSent o c.me c.round low high → high ≡ message_of o s (peer s High) t
  sent-high s c low high a m = m.to_high ∙ (λ i. message_of o (a.name i) (peer (a.name i) High) (a.round i))

-- for each server
pub by_point : (P : Point → Type 0) → P One → P Two → P Three → (s : Point) → P s
by_point P one two three One = one
by_point P one two three Two = two
by_point P one two three Three = three
