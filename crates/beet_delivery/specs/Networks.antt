-- Which messages are delivered after a list of events, and what follows from it, among servers of any number and name.
use Rattle.std.specs.Prelude.{ℕ, zero, suc, ◌==◌, ◌&&◌, ◌||◌, not, nat_lt, nat_le, if◌then◌else◌, List, [], ◌∷◌, length}
use Rattle.std.specs.Prelude.{map, filter, count_by, Bool, true, false}
use Rattle.std.specs.List.{range_with_len, flat_map}

-- the servers of a run by name, whom each hears, in order, whether two names are the same, and whether one server sends
-- another messages
pub record Network (P : Type 0) : Type 0 where
  pub servers : List P
  pub peers : P → List P
  pub same : P → P → Bool
  pub sends : P → P → Bool

-- a message by its name: from one server to another in a round
pub record Triple (P : Type 0) : Type 0 where
  pub from : P
  pub to : P
  pub round : ℕ

-- a set of messages: whether each is in it
abbrev pub Delivered : Type 0 → Type 0
Delivered P = P → P → ℕ → Bool

-- the empty set
abbrev pub nothing : {P : Type 0} → Delivered P
nothing = λ from to t. false

-- whether a set has a message
abbrev pub has : {P : Type 0} → Delivered P → Triple P → Bool
has x e = x e.from e.to e.round

-- whether the messages of a round from all of these servers to one are in the set
abbrev pub in_from : {P : Type 0} → Delivered P → P → ℕ → List P → Bool
in_from x s t [] = true
in_from x s t (j ∷ []) = x j s t
in_from x s t (j ∷ k ∷ js) = x j s t && in_from x s t (k ∷ js)

-- the most rounds, of n at most, such that the test holds for each before them
abbrev pub first_rounds : ℕ → (ℕ → Bool) → ℕ
first_rounds zero test = 0
first_rounds (suc n) test = if (first_rounds n test == n) && test n then suc n else first_rounds n test

module _ {P : Type 0} (n : Network P) where
  -- the set with one message more; a repeat changes nothing
  abbrev pub with_triple : Delivered P → Triple P → Delivered P
  with_triple x e = λ from to t. x from to t || (n.same from e.from && n.same to e.to && (t == e.round))

  -- whether all messages of a round to a server are in the set
  abbrev pub all_in : Delivered P → P → ℕ → Bool
  all_in x s t = in_from x s t (n.peers s)

  -- the rounds that a server has passed, in a run of so many: all messages to it of each are in the set
  abbrev pub passed : ℕ → Delivered P → P → ℕ
  passed rounds x s = first_rounds rounds (all_in x s)

  -- whether a message is sent: its sender has passed all rounds before its own
  abbrev pub is_sent : ℕ → Delivered P → Triple P → Bool
  is_sent rounds x e = n.sends e.from e.to && nat_lt e.round rounds && nat_le e.round (passed rounds x e.from)

  -- whether a message is sent and not in the set
  abbrev pub is_missing : ℕ → Delivered P → Triple P → Bool
  is_missing rounds x e = is_sent rounds x e && not (has x e)

  -- an event: a message is delivered, if it is sent
  abbrev pub deliver : ℕ → Delivered P → Triple P → Delivered P
  deliver rounds x e = if is_sent rounds x e then with_triple x e else x

  -- the set after a list of events, from a set on
  abbrev pub after_from : ℕ → Delivered P → List (Triple P) → Delivered P
  after_from rounds x [] = x
  after_from rounds x (e ∷ es) = after_from rounds (deliver rounds x e) es

  -- the set after a list of events
  abbrev pub after : ℕ → List (Triple P) → Delivered P
  after rounds es = after_from rounds nothing es

  -- the events that add a message: without those that were not sent, and without repeats
  abbrev pub adding : ℕ → Delivered P → List (Triple P) → List (Triple P)
  adding rounds x [] = []
  adding rounds x (e ∷ es) =
      if is_missing rounds x e then e ∷ adding rounds (with_triple x e) es else adding rounds x es

  -- the messages of a round, by sender and receiver
  abbrev pub triples_of : ℕ → List (Triple P)
  triples_of t = flat_map (λ from. map (λ to. record { from = from; to = to; round = t }) (n.peers from)) n.servers

  -- how many messages of a round pass a test
  abbrev pub of_round : (Triple P → Bool) → ℕ → ℕ
  of_round p t = count_by p (triples_of t)

  -- all messages of a run of so many rounds, by round, sender and receiver
  abbrev pub all_triples : ℕ → List (Triple P)
  all_triples rounds = flat_map triples_of (range_with_len 0 rounds)

  -- the messages of a set in this order, without repeats
  abbrev pub listed : ℕ → Delivered P → List (Triple P)
  listed rounds x = filter (has x) (all_triples rounds)

  -- how many messages are sent and not in the set
  abbrev pub undelivered : ℕ → Delivered P → ℕ
  undelivered rounds x = length (filter (is_missing rounds x) (all_triples rounds))

  -- the set of all messages of a run of so many rounds
  abbrev pub all_delivered : ℕ → Delivered P
  all_delivered rounds = λ from to t. n.sends from to && nat_lt t rounds
