-- Five servers that go round by round.
use Rattle.std.specs.Prelude.{◌≡◌, ℕ, ◌+◌, ◌-◌, ◌==◌, ◌&&◌, ◌||◌, ◌⊎◌, nat_lt, List, length, slice_get, Option}
use Rattle.std.specs.Prelude.{Some, true, false}
use Rattle.beet_gates.specs.declared.Batch.{Batch}
use Rattle.beet_delivery.specs.Networks.{Delivered, all_delivered}
use Rattle.beet_weights.specs.Quadratics.{IsServer}
use Rattle.beet_linear_sharing.specs.Runs.{Setup}
use Rattle.beet_five_server.specs.Answers.{Core}
use Rattle.beet_five_server.specs.Cores.{has_ended}
use Rattle.beet_five_server.specs.Fits.{Fits, IsRound, messages_from}
use Rattle.beet_five_server.specs.Network.{five, sends_to}
use Rattle.beet_five_server.specs.Runs.{HasRounds}
use Rattle.beet_five_server.specs.declared.mail.FiveMessage.{FiveMessage}

-- something of what each server has, of the list of all five in order
abbrev pub OfEach : {A : Type 0} → List A → (ℕ → A → Type 0) → Type 0
OfEach {A} xs P = (j : ℕ) → IsServer j → (x : A) → slice_get xs (j - 1) ≡ Some x → P j x

-- what all servers hand out in a round of a run: each its four messages, in rising order of the peers
abbrev pub AreSent : Setup → ℕ → List (Option (List FiveMessage)) → Type 0
AreSent o t sent = OfEach sent (λ j messages. messages ≡ Some (messages_from o j t))

-- all messages of the rounds before t, and those of round t from the servers below k
abbrev pub until : ℕ → ℕ → Delivered ℕ
until t k = λ from to r. sends_to from to && (nat_lt r t || ((r == t) && nat_lt from k))

module _ {S : Type 0} (next : S → ℕ → List ℕ → Batch) where
  -- the core of a server that has passed t rounds of a run of this script, with all messages of these rounds delivered
  -- and nothing of the next
  pub record IsAtRound (o : Setup) (script : S) (t : ℕ) (s : ℕ) (c : Core S) : Type 0 where
    pub name : c.work.me ≡ s
    pub has_script : c.work.script ≡ script
    pub fits : Fits next o (all_delivered five t) c.work c.mail
    pub round : c.work.round ≡ t
    pub handed : c.work.handed ≡ false

  -- so stand all five
  pub record AreAtRound (o : Setup) (script : S) (t : ℕ) (cores : List (Core S)) : Type 0 where
    pub count : length cores ≡ 5
    pub stand : OfEach cores (IsAtRound o script t)

  -- the core of a server that has handed out its messages of round t, with the round's messages from the servers below
  -- k delivered: it waits for another, or has passed the round
  pub record HasHanded (o : Setup) (script : S) (t : ℕ) (k : ℕ) (s : ℕ) (c : Core S) : Type 0 where
    pub name : c.work.me ≡ s
    pub has_script : c.work.script ≡ script
    pub fits : Fits next o (until t k) c.work c.mail
    pub stage : ((c.work.round ≡ t) × (c.work.handed ≡ true)) ⊎ ((c.work.round ≡ t + 1) × (c.work.handed ≡ false))

  -- these are the messages of a round of some run, and a core has handed out its own and taken those of the servers
  -- below k
  pub record MayTake (k : ℕ) (c : Core S) (sent : List (Option (List FiveMessage))) : Type 0 where
    pub o : Setup
    pub script : S
    pub t : ℕ
    pub s : ℕ
    pub server : IsServer s
    pub is_round : IsRound o t
    pub has_handed : HasHanded o script t k s c
    pub room : length sent ≡ 5
    pub are_sent : AreSent o t sent

  -- five cores are at a round of some run
  pub record MayPass (cores : List (Core S)) : Type 0 where
    pub o : Setup
    pub script : S
    pub t : ℕ
    pub is_round : IsRound o t
    pub stand : AreAtRound o script t cores

  -- five cores begin some run
  pub record MayBegin (cores : List (Core S)) : Type 0 where
    pub o : Setup
    pub script : S
    pub stand : AreAtRound o script 0 cores

  -- five cores have passed all rounds of a run, with all its messages delivered, and have ended
  pub record HaveEnded (o : Setup) (script : S) (cores : List (Core S)) : Type 0 where
    pub rounds : ℕ
    pub has_rounds : HasRounds o rounds
    pub stand : AreAtRound o script rounds cores
    pub ended : OfEach cores (λ j c. has_ended next c.work ≡ true)
