-- One round of five servers.
use Rattle.std.proofs.Common.{◌≡◌, ◌≢◌, ◌<◌, ◌≤◌, ◌+◌, ◌-◌, ◌==◌, ◌⊎◌, ⊎_elim, ◌&&◌, ◌||◌}
use Rattle.std.proofs.Common.{Option, None, ℕ, true, false, true≢false, List, length, Some, get_or, slice_get, slice_set}
use Rattle.std.proofs.Common.{sym, refl, ap, subst, ◌∙◌, inl, inr, arith, nat_lt}
use Rattle.std.specs.Prelude.{IfSome, IsNone}
use Rattle.std.proofs.lemmas.Bool.{and_from, and_right, cases_eq, lt-ltb, or_left}
use Rattle.std.proofs.lemmas.Bool.Decides.{nat_tests}
use Rattle.std.proofs.lemmas.List.{length-set}
use Rattle.std.proofs.lemmas.Option.{same_Some, slice_get-get_or}
use Rattle.beet_gates.specs.Clear.{is_end}
use Rattle.beet_gates.specs.declared.Batch.{Batch}
use Rattle.beet_delivery.specs.Networks.{all_delivered, with_triple}
use Rattle.beet_weights.specs.Quadratics.{IsServer}
use Rattle.beet_linear_sharing.specs.Runs.{Setup}
use Rattle.beet_round.specs.declared.mailbox.Verdict.{Verdict}
use Rattle.beet_server.proofs.Rounds.{ready_or}
use Rattle.beet_five_server.specs.Answers.{Answers, Core, HandsOut}
use Rattle.beet_five_server.specs.Cores.{Work, has_ended, is_quiet}
use Rattle.beet_five_server.specs.Fits.{Fits, IsRound, message_of}
use Rattle.beet_five_server.specs.Network.{five, sends_to}
use Rattle.beet_five_server.specs.declared.mail.FiveMessage.{FiveMessage}
use Rattle.beet_five_server.proofs.Delivering.{FitsAfter}
use Rattle.beet_five_server.proofs.Passing.{same-to}
use Rattle.beet_five_server.proofs.Peers.{five-hears, peer-is, some-peer}
use Rattle.beet_five_server.proofs.Places.{get-other, get-set}
use Rattle.beet_five_server.proofs.Standing.{coming-is}
use Rattle.beet_five_lockstep.specs.FiveLockstep.{HasHanded, IsAtRound, OfEach, until}

-- one statement of the first k servers of five, and another of those after them
pub record UpTo {A : Type 0} (First Rest : ℕ → A → Type 0) (k : ℕ) (xs : List A) : Type 0 where
  pub count : length xs ≡ 5
  pub first : (j : ℕ) → IsServer j → j ≤ k → (x : A) → slice_get xs (j - 1) ≡ Some x → First j x
  pub rest : (j : ℕ) → IsServer j → k < j → (x : A) → slice_get xs (j - 1) ≡ Some x → Rest j x

pub next-server : (k : ℕ) → k < 5 → IsServer (k + 1)
next-server k within = (omega arith, omega (arith, within))

module _ {A : Type 0} (First Rest : ℕ → A → Type 0) (xs : List A) where
  pub none-yet : length xs ≡ 5 → OfEach xs Rest → UpTo First Rest 0 xs
  none-yet count all = record {
    count = count;
    first = λ j server le. absurd (omega (arith, server.0, le));
    rest = λ j server lt. all j server;
  }

  -- one server more
  pub one-more : (k : ℕ) (y : A) → k < 5 → UpTo First Rest k xs → First (k + 1) y → UpTo First Rest (k + 1) (slice_set xs k y)
  one-more k y within u holds = record {
    count = length-set xs k y ∙ u.count;
    first = λ j server le x at. elim (cases_eq j (k + 1)) [
      | inl last ↦
          let place : j - 1 ≡ k = omega (arith, last) in
          let same = same_Some y x
          (sym (get-set xs k y (omega (arith, within, u.count))) ∙ ap (slice_get (slice_set xs k y)) (sym place) ∙ at) in
          subst (λ i. First i x) (sym last) (subst (First (k + 1)) same holds)
      | inr other ↦
          u.first j server (omega (arith, le, other)) x
          (sym (get-other xs k (j - 1) y (λ e. other (omega (arith, e, server.0)))) ∙ at)
    ];
    rest = λ j server lt x at.
        u.rest j server (omega (arith, lt)) x
        (sym (get-other xs k (j - 1) y (λ e. absurd (omega (arith, e, lt, server.0)))) ∙ at);
  }

  -- all five
  pub all-done : (k : ℕ) → k ≡ 5 → UpTo First Rest k xs → OfEach xs First
  all-done k e u j server = u.first j server (omega (arith, server.1, e))

  -- the next one is among the rest
  pub next-of : (k : ℕ) (x : A) → k < 5 → UpTo First Rest k xs → x ≡ get_or xs k x → Rest (k + 1) x
  next-of k x within u is =
      let place : k + 1 - 1 ≡ k = omega arith in
      u.rest (k + 1) (next-server k within) (omega arith) x
      (ap (slice_get xs) place ∙ slice_get-get_or xs k x (omega (arith, within, u.count)) ∙ ap (λ z. Some z) (sym is))

  -- it moves on
  pub moves-one : (k : ℕ) (x y : A) → k < 5 → x ≡ get_or xs k x → (Rest (k + 1) x → First (k + 1) y) → UpTo First Rest k xs →
      UpTo First Rest (k + 1) (slice_set xs k y)
  moves-one k x y within is moves u = one-more k y within u (moves (next-of k x within u is))

-- the sets of a round's messages, as they come
module _ (t j s r : ℕ) (may : sends_to j s ≡ true) where
  -- none of the round is there at first
  first-is : until t 1 j s r ≡ all_delivered five t j s r
  first-is =
      let low = (peer-is j s may).server.0 in
      let e : (nat_lt r t || ((r == t) && nat_lt j 1)) ≡ nat_lt r t = grind (arith, nat_tests, low) in
      ap (λ b. sends_to j s && b) e

  -- all are there at last
  last-is : all_delivered five (t + 1) j s r ≡ until t 6 j s r
  last-is =
      let high = (peer-is j s may).server.1 in
      let e : nat_lt r (t + 1) ≡ (nat_lt r t || ((r == t) && nat_lt j 6)) = grind (arith, nat_tests, high) in
      ap (λ b. sends_to j s && b) e

  -- one comes after another
  more-is : (k : ℕ) → until t (k + 1) j s r ≡ with_triple five (until t k) (record { from = k; to = s; round = t }) j s r
  more-is k =
      let e : (nat_lt r t || ((r == t) && nat_lt j (k + 1)))
      ≡ ((nat_lt r t || ((r == t) && nat_lt j k)) || ((j == k) && (s == s) && (r == t))) = grind (arith, nat_tests) in
      (λ i. may i && (nat_lt r t || ((r == t) && nat_lt j (k + 1)))) ∙ e
      ∙ (λ i. (sym may i && (nat_lt r t || ((r == t) && nat_lt j k))) || ((j == k) && (s == s) && (r == t)))

  -- and none of the server itself
  own-is : until t (s + 1) j s r ≡ until t s j s r
  own-is =
      let other = (peer-is j s may).other in
      let e : (nat_lt r t || ((r == t) && nat_lt j (s + 1))) ≡ (nat_lt r t || ((r == t) && nat_lt j s)) = grind (arith, nat_tests, other) in
      ap (λ b. sends_to j s && b) e

-- the message of the server whose turn it is, is not there
not-there : (t k s : ℕ) → until t k k s t ≡ false
not-there t k s =
    let e : (nat_lt t t || ((t == t) && nat_lt k k)) ≡ false = grind (arith, nat_tests) in
    and_right (sends_to k s) _ e

-- what a call says that delivers a message
pub record Delivers {S : Type 0} (next : S → ℕ → List ℕ → Batch) (c d : Core S) (m : FiveMessage) : Type 0 where
  pub verdict : Verdict
  pub answers : has_ended next c.work ≡ false → Answers next c d m verdict
  pub fits_by : FitsAfter next c d m

module _ {S : Type 0} (next : S → ℕ → List ℕ → Batch) (o : Setup) (script : S) (t s : ℕ) (server : IsServer s) (is : IsRound o t) where
  -- a core at a round of the run has its messages to hand out
  loud : (c : Core S) → IsAtRound next o script t s c → is_quiet next c.work ≡ false
  loud c a =
      let comes : has_ended next c.work ≡ false =
      ap (λ (b : Batch). is_end b.act)
      (coming-is next o (all_delivered five t) c.work c.mail (subst IsServer (sym a.name) server) a.fits.stands)
      ∙ is c.work.round (omega (arith, a.round)) in
      λ i. a.handed i || comes i

  -- it hands out its messages, and does not pass the round
  pub hands-out : (c d : Core S) → IsAtRound next o script t s c → HandsOut next c d →
      Fits next o (all_delivered five t) d.work d.mail → HasHanded next o script t 1 s d
  hands-out c d a (inl (all, moves)) f =
      let peer = some-peer s server in
      let name : d.work.me ≡ s = ap (λ (w : Work S). w.me) moves.work ∙ a.name in
      let round : d.work.round ≡ c.work.round + 1 = ap (λ (w : Work S). w.round) moves.work in
      let may = subst (λ i. sends_to peer.0 i ≡ true) (sym name) peer.1 in
      let there = f.before peer.0 may t (omega (arith, round, a.round)) in
      let none : nat_lt t t ≡ false = grind (arith, nat_tests) in
      absurd (true≢false (sym there ∙ and_right (sends_to peer.0 d.work.me) _ none))
  hands-out c d a (inr (some, e)) f = record {
    name = ap (λ (k : Core S). k.work.me) e ∙ a.name;
    has_script = ap (λ (k : Core S). k.work.script) e ∙ a.has_script;
    fits = same-to next o (all_delivered five t) (until t 1) d.work d.mail (λ j r may. first-is t j d.work.me r may) f;
    stage = inl (ap (λ (k : Core S). k.work.round) e ∙ a.round, ap (λ (k : Core S). k.work.handed) e);
  }

  -- its own turn changes nothing
  pub passes-over : (c : Core S) → HasHanded next o script t s s c → HasHanded next o script t (s + 1) s c
  passes-over c h = record {
    name = h.name;
    has_script = h.has_script;
    fits = same-to next o (until t s) (until t (s + 1)) c.work c.mail
        (subst (λ i. (j r : ℕ) → sends_to j i ≡ true → until t (s + 1) j i r ≡ until t s j i r) (sym h.name)
        (λ j r may. own-is t j s r may)) h.fits;
    stage = h.stage;
  }

  -- it is given the message of another
  module _ (k : ℕ) (may : sends_to k s ≡ true) (c : Core S) (h : HasHanded next o script t k s c) where
    -- it still waits, since this one is missing
    still-waits : (c.work.round ≡ t) × (c.work.handed ≡ true)
    still-waits = ⊎_elim (λ (waits : (c.work.round ≡ t) × (c.work.handed ≡ true)). waits)
        (λ (passed : (c.work.round ≡ t + 1) × (c.work.handed ≡ false)).
        let there = h.fits.before k (subst (λ i. sends_to k i ≡ true) (sym h.name) may) t (omega (arith, passed.0)) in
        absurd (true≢false (sym there ∙ not-there t k c.work.me))) h.stage

    pub is-quiet : is_quiet next c.work ≡ true
    is-quiet = or_left _ _ still-waits.1

    module _ (d : Core S) (m : FiveMessage) (given : Delivers next c d m) (m_is : m ≡ message_of o k s t) where
      comes : has_ended next c.work ≡ false
      comes =
          ap (λ (b : Batch). is_end b.act)
          (coming-is next o (until t k) c.work c.mail (subst IsServer (sym h.name) server) h.fits.stands)
          ∙ is c.work.round (omega (arith, still-waits.0))

      fits-more : d.work.me ≡ s → Fits next o (until t (k + 1)) d.work d.mail
      fits-more name =
          same-to next o (with_triple five (until t k) (record { from = k; to = s; round = t })) (until t (k + 1)) d.work d.mail
          (subst (λ i. (j r : ℕ) → sends_to j i ≡ true →
          until t (k + 1) j i r ≡ with_triple five (until t k) (record { from = k; to = s; round = t }) j i r) (sym name)
          (λ j r can. more-is t j s r can k))
          (subst (λ i. Fits next o (with_triple five (until t k) (record { from = k; to = i; round = t })) d.work d.mail) h.name
          (given.fits_by o (until t k) k t h.fits (subst (λ i. sends_to k i ≡ true) (sym h.name) may)
          (m_is ∙ (λ i. message_of o k (sym h.name i) t)) is (omega (arith, still-waits.0))))

      pub takes-one : HasHanded next o script t (k + 1) s d
      takes-one = elim (ready_or given.verdict) [
        | inl ready ↦
            let moves = (given.answers comes).passes ready in
            let name : d.work.me ≡ s = ap (λ (w : Work S). w.me) moves.work ∙ h.name in
            record {
              name = name;
              has_script = ap (λ (w : Work S). w.script) moves.work ∙ h.has_script;
              fits = fits-more name;
              stage = inr (
                ap (λ (w : Work S). w.round) moves.work ∙ ap (λ r. r + 1) still-waits.0,
                ap (λ (w : Work S). w.handed) moves.work,
              );
            }
        | inr other ↦
            let e = (given.answers comes).waits other in
            let name : d.work.me ≡ s = ap (λ (k : Core S). k.work.me) e ∙ h.name in
            record {
              name = name;
              has_script = ap (λ (k : Core S). k.work.script) e ∙ h.has_script;
              fits = fits-more name;
              stage = inl (
                ap (λ (k : Core S). k.work.round) e ∙ still-waits.0,
                ap (λ (k : Core S). k.work.handed) e ∙ still-waits.1,
              );
            }
      ]

  -- once all are there, it has passed the round
  pub all-taken : (c : Core S) → HasHanded next o script t 6 s c → IsAtRound next o script (t + 1) s c
  all-taken c h = ⊎_elim
      (λ (waits : (c.work.round ≡ t) × (c.work.handed ≡ true)).
      absurd (true≢false (sym (five-hears (until t 6) c.work.me c.work.round
      (λ j may. sym (last-is t j c.work.me c.work.round may)
      ∙ and_from (sends_to j c.work.me) (nat_lt c.work.round (t + 1)) may (lt-ltb c.work.round (t + 1) (omega (arith, waits.0)))))
      ∙ h.fits.waits waits.1)))
      (λ (passed : (c.work.round ≡ t + 1) × (c.work.handed ≡ false)). record {
        name = h.name;
        has_script = h.has_script;
        fits = same-to next o (until t 6) (all_delivered five (t + 1)) c.work c.mail (λ j r may. last-is t j c.work.me r may) h.fits;
        round = passed.0;
        handed = passed.1;
      }) h.stage

  -- what a core at a round answers
  pub is-sent : {A : Type 0} → (c : Core S) (r : Option A) (y : A) → IsAtRound next o script t s c →
      (IsNone r → is_quiet next c.work ≡ true) → IfSome r (λ m. m ≡ y) → r ≡ Some y
  is-sent c None y a quiet is = absurd (true≢false (sym (quiet refl) ∙ loud c a))
  is-sent c (Some m) y a quiet is = ap (λ n. Some n) is

  pub it-hands : {A P : Type 0} → (c : Core S) (r : Option A) → IsAtRound next o script t s c → (IsNone r → is_quiet next c.work ≡ true) →
      IfSome r (λ m. P) → P
  it-hands c None a quiet h = absurd (true≢false (sym (quiet refl) ∙ loud c a))
  it-hands c (Some m) a quiet h = h
