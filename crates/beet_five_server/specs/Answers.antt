-- What a core is, what it answers, and what it leaves.
use Rattle.std.specs.Prelude.{◌≡◌, ◌≢◌, ℕ, ◌+◌, ◌*◌, ◌≤◌, ◌⊎◌, nat_lt, if◌then◌else◌, List, [], length, map}
use Rattle.std.specs.Prelude.{true, false, replicate, None}
use Rattle.beet_gates.specs.Scripts.{size_of}
use Rattle.beet_gates.specs.declared.Batch.{Batch}
use Rattle.beet_words.specs.Tapes.{Tape}
use Rattle.beet_weights.specs.Quadratics.{IsServer}
use Rattle.beet_round.specs.declared.mailbox.Verdict.{Verdict}
use Rattle.beet_round.specs.declared.mailbox.Verdict.TheVariants.{Ready, Old, TooEarly, Stranger}
use Rattle.beet_five_server.specs.Cores.{Work, batch_of, fresh, handing, passing, sends}
use Rattle.beet_five_server.specs.Mails.{Mailbag, Turned, all_there, is_stranger, left_by, numbers_at, put, verdict_of}
use Rattle.beet_five_server.specs.Network.{peers}
use Rattle.beet_five_server.specs.declared.mail.FiveMessage.{FiveMessage}

-- a server: what computes in it, and the messages to it
pub record Core (S : Type 0) : Type 0 where
  pub work : Work S
  pub mail : Mailbag

-- what computes and the messages are of one server and round, and there are places for all rounds
pub record AreTied {S : Type 0} (next : S → ℕ → List ℕ → Batch) (rounds : ℕ) (w : Work S)
    (mail : Mailbag) : Type 0 where
  pub server : IsServer w.me
  pub me : mail.me ≡ w.me
  pub round : mail.round ≡ w.round
  pub want : mail.want ≡ size_of (batch_of next w).act
  pub room : 5 * (rounds + 2) ≤ length mail.places

module _ {S : Type 0} (next : S → ℕ → List ℕ → Batch) where
  -- a core that begins
  abbrev pub fresh_core : ℕ → S → List ℕ → Tape → Tape → ℕ → Core S
  fresh_core me script inputs masks coefficients rounds = record {
    work = fresh next me script inputs masks coefficients;
    mail = record {
      me = me;
      round = 0;
      want = size_of (next script 0 []).act;
      places =
          replicate (5 * (rounds + 2)) None;
    };
  }

  -- the message of a core's round to a server
  abbrev pub message_out : Work S → ℕ → FiveMessage
  message_out w to = record { from = w.me; to = to; round = w.round; numbers = record { items = sends next w to } }

  -- the four messages of its round, in rising order of the peers
  abbrev pub messages_out : Work S → List FiveMessage
  messages_out w = map (message_out w) (peers w.me)

  -- a core hands out the messages of its round, and keeps its own
  abbrev pub handed_out : Core S → Core S
  handed_out c = record { work = handing next c.work; mail = put c.mail (message_out c.work c.work.me) }

  -- a core passes the round whose messages are all there
  pub record MovesOn (old new : Core S) : Type 0 where
    pub work : new.work ≡ passing next old.work (numbers_at old.mail)
    pub mail : Turned old.mail new.mail (size_of (batch_of next new.work).act)

  -- what is left of a core that hands out its messages: it then passes the round if all messages to it are in
  abbrev pub HandsOut : Core S → Core S → Type 0
  HandsOut old new =
      ((all_there (handed_out old).mail.places old.work.round ≡ true) × MovesOn (handed_out old) new)
      ⊎ ((all_there (handed_out old).mail.places old.work.round ≡ false) × (new ≡ handed_out old))

-- the verdict of an ended core on a message
abbrev pub late_verdict : {S : Type 0} → Work S → FiveMessage → Verdict
late_verdict w m = if is_stranger w.me m then Stranger else if nat_lt m.round w.round then Old else TooEarly w.round

-- the mail says the verdict; at Ready the core passes the round, and else only the mail changes
pub record Answers {S : Type 0} (next : S → ℕ → List ℕ → Batch) (old new : Core S) (m : FiveMessage)
    (v : Verdict) : Type 0 where
  pub verdict : v ≡ verdict_of old.mail m
  pub waits : v ≢ Ready → new ≡ record old { mail = left_by v old.mail m }
  pub passes : v ≡ Ready → MovesOn next (record old { mail = put old.mail m }) new
