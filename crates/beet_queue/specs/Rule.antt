-- The rule of a queue with a sender for each server and one receiver.
use Rattle.std.specs.Prelude.{◌≡◌, ◌<◌, ◌+◌, ◌||◌, ℕ, Bool, true, false, if◌then◌else◌, List, [], ◌∷◌, ◌++◌}
use Rattle.std.specs.Prelude.{length, take, filter, Some, slice_get}
use mathlib.Core.Option.{some}
use lib.ListN.{get_elem?}
use Rattle.beet_field.specs.Trio.{member, with_member, trio_of}
use Rattle.beet_field.specs.declared.point.Point.{Point}
use Rattle.beet_field.specs.declared.trio.Trio.{Trio}
use Rattle.beet_delivery.specs.Events.{same}
use Rattle.beet_queue.specs.declared.rule.Known.{Known}

-- the items of one server, in order
abbrev pub of : {T : Type 0} → (T → Point) → Point → List T → List T
of server s items = filter (λ x. same (server x) s) items

-- no server's, or one server's alone
abbrev pub no_one : Trio Bool
no_one = trio_of (λ _. false)

abbrev pub known_of : {T : Type 0} → Trio Bool → Bool → Trio (List T) → Trio ℕ → List T → Known T
known_of puts takes streams put taken =
    record { puts = puts; takes = takes; streams = streams; put = put; taken = taken }

-- the first pass has all rights, and names no item yet
abbrev pub first_known : {T : Type 0} → Known T
first_known = known_of (trio_of (λ _. true)) true (trio_of (λ _. [])) (trio_of (λ _. 0)) []

-- a pass with no right
abbrev pub nothing_known : {T : Type 0} → Known T
nothing_known = known_of no_one false (trio_of (λ _. [])) (trio_of (λ _. 0)) []

-- one more item of a server was put
abbrev pub one_put : {T : Type 0} → Point → Known T → Known T
one_put s v = known_of v.puts v.takes v.streams (with_member v.put s (member v.put s + 1)) v.taken

-- this item was taken
abbrev pub one_taken : {T : Type 0} → T → Known T → Known T
one_taken x v = known_of v.puts v.takes v.streams v.put (v.taken ++ x ∷ [])

-- the pass that has given away the right of a server, and the one that has got it
abbrev pub without : {T : Type 0} → Trio (List T) → Point → Known T → Known T
without streams s v = known_of (with_member v.puts s false) v.takes streams v.put v.taken

abbrev pub sender_of : {T : Type 0} → Trio (List T) → Point → Known T → Known T
sender_of streams s v = known_of (with_member no_one s true) false streams v.put []

-- the rights of two passes together
abbrev pub both : {T : Type 0} → Known T → Known T → Known T
both v w =
    known_of (trio_of (λ s. member v.puts s || member w.puts s)) v.takes v.streams
    (trio_of (λ s. if member w.puts s then member w.put s else member v.put s)) v.taken

-- all items that are named
abbrev pub all_named : {T : Type 0} → Trio (List T) → ℕ
all_named streams = length streams.one + length streams.two + length streams.three

-- the one pass that may put the items of a server knows how many were put, and the one that may take knows those that
-- were taken; both know what was named
abbrev pub Knows : {T : Type 0} → Trio ℕ → ℕ → Trio (List T) → Trio ℕ → List T → ℕ → Known T → Type 0
Knows writer reader streams put taken port v =
    ((s : Point) → member v.puts s ≡ true →
    (port ≡ member writer s) × (v.streams ≡ streams) × (member v.put s ≡ member put s))
    × (v.takes ≡ true → (port ≡ reader) × (v.streams ≡ streams) × (v.taken ≡ taken))

-- what a sender knows of the queue: while an item of its server is left to put, the queue holds fewer items than are
-- named
abbrev pub HasRoom : {T : Type 0} → Known T → List T → Type 0
HasRoom v items = (s : Point) → member v.puts s ≡ true → member v.put s < length (member v.streams s) →
    length items < all_named v.streams

module _ {T : Type 0} (server : T → Point) where
  -- of each server, the items taken and those in the queue are the first that were named, as many as were put, in order
  pub record Carries (items : List T) (known : List (Known T)) : Type 0 where
    pub writer : Trio ℕ
    pub reader : ℕ
    pub streams : Trio (List T)
    pub put : Trio ℕ
    pub taken : List T
    pub ordered : (s : Point) → of server s (taken ++ items) ≡ take (member put s) (member streams s)
    pub knows : (port : ℕ) (v : Known T) → get_elem? known port ≡ some v → Knows writer reader streams put taken port v

  -- the item is the next of its server to be taken; who may also put the items of this server knows that it was put
  abbrev pub IsDue : Known T → T → Type 0
  IsDue v x =
      (slice_get (member v.streams (server x)) (length (of server (server x) v.taken)) ≡ Some x)
      × (member v.puts (server x) ≡ true → length (of server (server x) v.taken) < member v.put (server x))

  -- what the receiver knows of the queue, if it may also put the items of a server
  abbrev pub KnowsAll : Known T → List T → Type 0
  KnowsAll v items =
      v.takes ≡ true → (s : Point) → member v.puts s ≡ true →
      of server s (v.taken ++ items) ≡ take (member v.put s) (member v.streams s)
