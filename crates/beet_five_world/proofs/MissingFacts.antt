-- What was sent in a world and not delivered.
use Rattle.std.proofs.Common.{◌≡◌, ◌≤◌, ◌<◌, ◌+◌, ◌-◌, ◌&&◌, ℕ, Bool, true, false, not, nat_lt, List, length, is_some}
use Rattle.std.proofs.Common.{sym, refl, ap, subst, ◌∙◌, inl, inr, arith, map}
use Rattle.std.specs.Prelude.{if◌then◌else◌, count_by, min, slice_get}
use Rattle.std.proofs.lemmas.Bool.{cases_eq, cases_lt, le-ltb, lt-ltb}
use Rattle.std.proofs.lemmas.Option.{same_Some, slice_get_cases}
use Rattle.beet_delivery.specs.Networks.{Delivered, Triple, is_missing, is_sent, of_round, passed, undelivered}
use Rattle.beet_delivery.proofs.NetworkFacts.{passed_most}
use Rattle.beet_delivery.proofs.TwoRounds.{lesser_is, undelivered_two}
use Rattle.beet_gates.specs.declared.Batch.{Batch}
use Rattle.beet_weights.specs.Quadratics.{IsServer}
use Rattle.beet_linear_sharing.specs.Runs.{Setup}
use Rattle.beet_five_server.specs.Answers.{Core}
use Rattle.beet_five_server.specs.Fits.{message_of}
use Rattle.beet_five_server.specs.Mails.{cell}
use Rattle.beet_five_server.specs.Network.{five, peers}
use Rattle.beet_five_server.proofs.MailFacts.{by-server}
use Rattle.beet_five_server.proofs.Networking.{five-is}
use Rattle.beet_five_server.proofs.Passing.{five-apart}
use Rattle.beet_five_server.proofs.Peers.{peer-is, peer-sends}
use Rattle.beet_five_world.specs.Members.{AllFit, IsAt, Seen, triple}
use Rattle.beet_five_world.proofs.WorldFacts.{event-none, is-passed, sent-counts}
use Rattle.beet_five_server.proofs.Standing.{some-place}

-- 1 if a test holds, and else 0
abbrev one : Bool → ℕ
one b = if b then 1 else 0

-- the messages of a server in a round that pass a test, if one to itself does not
pub sum-from : (p : Triple ℕ → Bool) (t from : ℕ) → IsServer from → p (triple from from t) ≡ false →
    one (p (triple from 1 t)) + one (p (triple from 2 t)) + one (p (triple from 3 t)) + one (p (triple from 4 t))
    + one (p (triple from 5 t))
    ≡ count_by p (map (λ to. triple from to t) (peers from))
sum-from p t =
    by-server (λ from. p (triple from from t) ≡ false →
    one (p (triple from 1 t)) + one (p (triple from 2 t)) + one (p (triple from 3 t)) + one (p (triple from 4 t))
    + one (p (triple from 5 t))
    ≡ count_by p (map (λ to. triple from to t) (peers from)))
    (λ n. rw n (omega arith)) (λ n. rw n (omega arith)) (λ n. rw n (omega arith)) (λ n. rw n (omega arith)) (λ n. rw n (omega arith))

pub none-own : (rounds : ℕ) (x : Delivered ℕ) (t from : ℕ) → IsServer from → is_missing five rounds x (triple from from t) ≡ false
none-own rounds x t = by-server (λ from. is_missing five rounds x (triple from from t) ≡ false) refl refl refl refl refl

-- and those of a round
pub sum-of : (p : Triple ℕ → Bool) (t : ℕ) →
    count_by p (map (λ to. triple 1 to t) (peers 1)) + count_by p (map (λ to. triple 2 to t) (peers 2))
    + count_by p (map (λ to. triple 3 to t) (peers 3)) + count_by p (map (λ to. triple 4 to t) (peers 4))
    + count_by p (map (λ to. triple 5 to t) (peers 5))
    ≡ of_round five p t
sum-of p t = omega arith

module _ {S : Type 0} (ms : List (Seen S)) where
  -- a server has passed so many rounds
  abbrev IsPassed : ℕ → Type 0
  IsPassed n = (j : ℕ) × (s : Seen S) × IsServer j × IsAt ms (j - 1) s × (n ≡ s.core.work.round)

  -- the fewest rounds that a server below a number has passed
  pub record IsLeast (below least : ℕ) : Type 0 where
    pub of_all : (j : ℕ) (s : Seen S) → IsServer j → j < below → IsAt ms (j - 1) s → least ≤ s.core.work.round
    pub of_one : IsPassed least

  module _ (at r : ℕ) (server : IsServer at) (core : Core S) (e : (s : Seen S) × IsAt ms (at - 1) s × (core ≡ s.core))
      (is : r ≡ core.work.round) where
    is-passed-by : IsPassed r
    is-passed-by = (at, e.0, server, e.1, is ∙ ap (λ (c : Core S). c.work.round) e.2)

    at-round : (s : Seen S) → IsAt ms (at - 1) s → r ≡ s.core.work.round
    at-round s there =
        is ∙ ap (λ (c : Core S). c.work.round) e.2 ∙ ap (λ (v : Seen S). v.core.work.round) (same_Some e.0 s (sym e.1 ∙ there))

    -- the first alone
    pub least-one : at ≡ 1 → IsLeast 2 r
    least-one first = record {
      of_all = λ j s is_j lt there.
          let same : j ≡ at = omega (arith, is_j.0, lt, first) in
          let e = at-round s (ap (λ k. slice_get ms (k - 1)) (sym same) ∙ there) in omega (arith, e);
      of_one = is-passed-by;
    }

    -- one more
    pub least-more : (least : ℕ) → IsLeast at least → IsLeast (at + 1) (min least r)
    least-more least l = record {
      of_all = λ j s is_j lt there. elim (cases_eq j at) [
        | inl same ↦ let e = at-round s (ap (λ k. slice_get ms (k - 1)) (sym same) ∙ there) in omega (arith, e)
        | inr other ↦ let e = l.of_all j s is_j (omega (arith, lt, other)) there in omega (arith, e)
      ];
      of_one = lesser_is IsPassed least r l.of_one is-passed-by;
    }

module _ {S : Type 0} (next : S → ℕ → List ℕ → Batch) (script : S) (o : Setup) (rounds : ℕ) (x : Delivered ℕ) (ms : List (Seen S))
    (f : AllFit next script o rounds x ms) where
  -- each server is at its place
  there-is : (j : ℕ) → IsServer j → (s : Seen S) × IsAt ms (j - 1) s
  there-is j server = elim (slice_get_cases ms (j - 1)).1 [
    | inl some ↦ (some.0, some.2)
    | inr none ↦ absurd (omega (arith, none.0, f.count, server.0, server.1))
  ]

  -- what a server has handed out is what it has sent
  sent-is : (from to t : ℕ) → IsServer from → IsServer to → (from ≡ to → ⊥) → (s : Seen S) → IsAt ms (from - 1) s →
      is_sent five rounds x (triple from to t) ≡ nat_lt t (length s.sent)
  sent-is from to t a b other s there = elim (cases_lt t (length s.sent)) [
    | inl lt ↦ (sent-counts next script o rounds x ms from to t a b other f s there).0 lt ∙ sym (lt-ltb t (length s.sent) lt)
    | inr le ↦ event-none next script o rounds x ms from to t a b other f s there le ∙ sym (le-ltb t (length s.sent) le)
  ]

  -- and what a server holds of another was delivered
  held-is : (from to t : ℕ) → IsServer from → IsServer to → (from ≡ to → ⊥) → (r : Seen S) → IsAt ms (to - 1) r →
      is_some (cell r.core.mail.places t from) ≡ x from to t
  held-is from to t a b other r there =
      let at = f.stands to b r there in
      ap is_some (at.member.fits.mail from (subst (λ i. five.sends from i ≡ true) (sym at.me) (peer-sends from to a b other)) t)
      ∙ some-place (x from r.core.work.me t) (message_of o from r.core.work.me t) ∙ ap (λ i. x from i t) at.me

  pub missing-is : (from to t : ℕ) → IsServer from → IsServer to → (from ≡ to → ⊥) → (s r : Seen S) → IsAt ms (from - 1) s →
      IsAt ms (to - 1) r →
      is_missing five rounds x (triple from to t) ≡ (nat_lt t (length s.sent) && not (is_some (cell r.core.mail.places t from)))
  missing-is from to t a b other s r there here =
      λ i. sent-is from to t a b other s there i && not (sym (held-is from to t a b other r here) i)

  -- what is undelivered is of the round of the server that is behind, or of the next
  pub two-rounds : (behind : ℕ) (m : Seen S) (b : ℕ) → IsServer b → IsAt ms (b - 1) m → behind ≡ m.core.work.round →
      ((j : ℕ) (s : Seen S) → IsServer j → IsAt ms (j - 1) s → behind ≤ s.core.work.round) →
      undelivered five rounds x
      ≡ of_round five (is_missing five rounds x) behind + of_round five (is_missing five rounds x) (behind + 1)
  two-rounds behind m b server there is least =
      let here : behind ≡ passed five rounds x b = is ∙ is-passed next script o rounds x ms b m server f there in
      undelivered_two five-is rounds x behind (omega (arith, here, passed_most five-is rounds x b))
      (λ from to may.
      let p = peer-is from to may in
      let s = there-is to p.mine in
      let at = is-passed next script o rounds x ms to s.0 p.mine f s.1 in
      let close = five-apart rounds x f.was from b p.server server in (
        omega (arith, least to s.0 p.mine s.1, at),
        omega (arith, close, here),
      ))
