-- How the round of a core stands to the rounds that its server has passed.
use Rattle.std.proofs.Common.{◌≡◌, ◌≤◌, ◌<◌, ◌+◌, ◌||◌, ◌↔◌, ℕ, Bool, true, false, true≢false, List, sym, refl, ap}
use Rattle.std.proofs.Common.{◌∙◌, inl, inr, arith}
use Rattle.std.proofs.lemmas.Bool.{both_ways, or_cases, and_left, and_right, cases_lt, false_from_ne_true}
use Rattle.std.proofs.lemmas.Bool.{ne_eqb}
use Rattle.beet_gates.specs.Clear.{is_end}
use Rattle.beet_gates.specs.declared.Batch.{Batch}
use Rattle.beet_delivery.specs.Networks.{Delivered, Triple, all_in, passed, with_triple}
use Rattle.beet_delivery.proofs.NetworkFacts.{WasSent, one_apart, passed_in, passed_largest, passed_most}
use Rattle.beet_weights.specs.Quadratics.{IsServer}
use Rattle.beet_linear_sharing.specs.Runs.{Setup}
use Rattle.beet_five_server.specs.Runs.{HasRounds, coming, shared_at}
use Rattle.beet_five_server.specs.Cores.{Work, has_ended, is_quiet}
use Rattle.beet_five_server.specs.Fits.{Fits, IsRound, message_of, some_if}
use Rattle.beet_five_server.specs.Mails.{Mailbag}
use Rattle.beet_five_server.specs.Network.{five, sends_to}
use Rattle.beet_five_server.proofs.Networking.{five-is}
use Rattle.beet_five_server.proofs.Peers.{five-heard, five-hears, peer-or}

-- a round of the run is one of its rounds
pub is-round : (o : Setup) (rounds t : ℕ) → HasRounds o rounds → t < rounds → IsRound o t
is-round o rounds t h lt k le = h.goes k (omega (arith, lt, le))

module _ {S : Type 0} (next : S → ℕ → List ℕ → Batch) (o : Setup) (x : Delivered ℕ) (w : Work S) (bag : Mailbag) (rounds : ℕ)
    (h : HasRounds o rounds)
    (server : IsServer w.me) (f : Fits next o x w bag) where
  pub round-most : w.round ≤ rounds
  round-most = elim (cases_lt rounds w.round) [
    | inl lt ↦ absurd (both_ways (is_end (coming o rounds).act) (f.rounds rounds lt) h.ends)
    | inr le ↦ le
  ]

  -- what comes at the core is what comes in the run
  pub ends-as : has_ended next w ≡ is_end (coming o w.round).act
  ends-as =
      ap (λ l. is_end (next w.script w.round l).act) f.opened
      ∙ ap (λ (g : ℕ → List ℕ → Batch). is_end (g w.round (shared_at o w.round).opened).act) (sym f.script)

  pub ended-at : (has_ended next w ≡ true) ↔ (w.round ≡ rounds)
  ended-at = (
    λ e. elim (cases_lt w.round rounds) [
      | inl lt ↦ absurd (both_ways (has_ended next w) (ends-as ∙ h.goes w.round lt) e)
      | inr le ↦ omega (arith, le, round-most)
    ],
    λ e. ends-as ∙ (ap (λ t. is_end (coming o t).act) e ∙ h.ends),
  )

  pub round-passed : w.round ≤ passed five rounds x w.me
  round-passed = passed_largest five-is rounds x w.me w.round round-most (λ r lt j may. f.before j may r lt)

  -- a core that has handed out its messages, or has ended, is at the rounds that its server has passed
  pub at-passed : is_quiet next w ≡ true → w.round ≡ passed five rounds x w.me
  at-passed quiet = elim (or_cases w.handed (has_ended next w) quiet) [
    | inl handed ↦ elim (cases_lt w.round (passed five rounds x w.me)) [
      | inl lt ↦ absurd (both_ways (all_in five x w.me w.round) (f.waits handed)
          (five-hears x w.me w.round (passed_in five-is rounds x w.me w.round lt)))
      | inr le ↦ omega (arith, le, round-passed)
    ]
    | inr ended ↦
        let all : w.round ≡ rounds = ended-at.0 ended in
        let most : passed five rounds x w.me ≤ rounds = passed_most five-is rounds x w.me in
        omega (arith, round-passed, all, most)
  ]

or-nothing : (a b : Bool) → b ≡ false → (a || b) ≡ a
or-nothing true b none = refl
or-nothing false b none = none

-- of a set a core sees what is to its server
pub same-to : {S : Type 0} (next : S → ℕ → List ℕ → Batch) (o : Setup) (x y : Delivered ℕ) (w : Work S) (bag : Mailbag) →
    ((j t : ℕ) → sends_to j w.me ≡ true → y j w.me t ≡ x j w.me t) → Fits next o x w bag → Fits next o y w bag
same-to next o x y w bag same f = record {
  stands = record {
    work = f.work;
    mail = λ j may t. f.mail j may t ∙ ap (λ b. some_if b (message_of o j w.me t)) (sym (same j t may));
    own = f.own;
    none = f.none;
    before = λ j may t lt. same j t may ∙ f.before j may t lt;
    soon = λ j may t there. f.soon j may t (sym (same j t may) ∙ there);
  };
  waits = λ handed. false_from_ne_true _ (λ all. true≢false (sym (five-hears x w.me w.round
      (λ j may. sym (same j w.round may) ∙ five-heard y w.me w.round all j may)) ∙ f.waits handed));
}

-- a message to another server changes nothing at a core
pub away : {S : Type 0} (next : S → ℕ → List ℕ → Batch) (o : Setup) (x : Delivered ℕ) (w : Work S) (bag : Mailbag) (e : Triple ℕ) →
    (e.to ≡ w.me → ⊥) → Fits next o x w bag → Fits next o (with_triple five x e) w bag
away next o x w bag e other =
    same-to next o x (with_triple five x e) w bag
    (λ j t may. or-nothing _ _ (and_left _ _ (and_right _ _ (ne_eqb w.me e.to (λ k. other (sym k))))))

-- no two servers are more than one round apart
pub five-apart : (rounds : ℕ) (x : Delivered ℕ) → WasSent five rounds x → (s other : ℕ) → IsServer s → IsServer other →
    passed five rounds x s ≤ passed five rounds x other + 1
five-apart rounds x was s other a b = elim (peer-or other s b a) [
  | inl e ↦ let q : passed five rounds x other ≡ passed five rounds x s = ap (passed five rounds x) e in omega (arith, q)
  | inr may ↦ one_apart five-is rounds x was s other may
]
