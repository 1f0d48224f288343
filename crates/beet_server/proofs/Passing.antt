-- How the round of a core stands to the rounds that its server has passed.
use Rattle.std.proofs.Common.{◌≡◌, ◌≢◌, ◌≤◌, ◌<◌, ◌+◌, ◌==◌, ◌&&◌, ◌||◌, ◌↔◌, ℕ, Bool, true, false, List, sym, refl, ap}
use Rattle.std.proofs.Common.{subst, ◌∙◌, inl, inr, arith}
use Rattle.std.proofs.lemmas.Bool.{both_ways, or_cases, or_left, and_left, and_right, cases_lt, cases_Bool}
use Rattle.beet_field.specs.declared.point.Point.{Point}
use Rattle.beet_gates.specs.Clear.{is_end}
use Rattle.beet_gates.specs.declared.Batch.{Batch}
use Rattle.beet_round.specs.Boxes.{place_at}
use Rattle.beet_round.specs.Sides.{peer}
use Rattle.beet_round.specs.declared.sides.Side.{Side}
use Rattle.beet_round.specs.declared.sides.Side.TheVariants.{Low, High}
use Rattle.beet_sharing.specs.Runs.{Setup, HasRounds, coming, shared_at}
use Rattle.beet_delivery.specs.Events.{Triple, Delivered, same, with_triple, both_in, passed}
use Rattle.beet_server.specs.Cores.{Core, has_ended, is_quiet}
use Rattle.beet_server.specs.Fits.{Fits, IsRound, message_of, some_if}
use Rattle.beet_server.specs.Answers.{Keeps, Moves}
use Rattle.beet_delivery.proofs.NetworkFacts.{passed_most}
use Rattle.beet_delivery.proofs.ThreeServers.{both_from_sides, passed_in, passed_largest, same_not, three-is}

-- a round of the run is one of its rounds
pub is_round : (o : Setup) (rounds t : ℕ) → HasRounds o rounds → IsRound o t ↔ (t < rounds)
is_round o rounds t h = (
  λ r. elim (cases_lt t rounds) [
    | inl lt ↦ lt
    | inr le ↦ absurd (both_ways (is_end (coming o rounds).act) (r rounds le) h.ends)
  ],
  λ lt k le. h.goes k (omega (arith, lt, le)),
)

pub round_most : {S : Type 0} (next : S → ℕ → List ℕ → Batch) (o : Setup) (x : Delivered) (c : Core S) (rounds : ℕ) → HasRounds o rounds
    → Fits next o x c → c.round ≤ rounds
round_most next o x c rounds h f = elim (cases_lt rounds c.round) [
  | inl lt ↦ absurd (both_ways (is_end (coming o rounds).act) (f.rounds rounds lt) h.ends)
  | inr le ↦ le
]

-- what comes at the core is what comes in the run
pub coming_is : {S : Type 0} (next : S → ℕ → List ℕ → Batch) (o : Setup) (x : Delivered) (c : Core S) → Fits next o x c
    → has_ended next c ≡ is_end (coming o c.round).act
coming_is next o x c f =
    ap (λ l. is_end (next c.script c.round l).act) f.opened
    ∙ ap (λ (g : ℕ → List ℕ → Batch). is_end (g c.round (shared_at o c.round).opened).act) (sym f.script)

pub ended_at : {S : Type 0} (next : S → ℕ → List ℕ → Batch) (o : Setup) (x : Delivered) (c : Core S) (rounds : ℕ) → HasRounds o rounds
    → Fits next o x c → (has_ended next c ≡ true) ↔ (c.round ≡ rounds)
ended_at next o x c rounds h f =
    let most : c.round ≤ rounds = round_most next o x c rounds h f in (
      λ e. elim (cases_lt c.round rounds) [
        | inl lt ↦ absurd (both_ways (has_ended next c) (coming_is next o x c f ∙ h.goes c.round lt) e)
        | inr le ↦ omega (arith, le, most)
      ],
      λ e. coming_is next o x c f ∙ (ap (λ t. is_end (coming o t).act) e ∙ h.ends),
    )

pub round_passed : {S : Type 0} (next : S → ℕ → List ℕ → Batch) (o : Setup) (x : Delivered) (c : Core S) (rounds : ℕ) → HasRounds o rounds
    → Fits next o x c → c.round ≤ passed rounds x c.me
round_passed next o x c rounds h f =
    passed_largest rounds x c.me c.round (round_most next o x c rounds h f) (λ r lt side. f.before side r lt)

-- at most one round is passed beyond those of the core
pub passed_soon : {S : Type 0} (next : S → ℕ → List ℕ → Batch) (o : Setup) (x : Delivered) (c : Core S) (rounds : ℕ)
    → Fits next o x c → passed rounds x c.me ≤ c.round + 1
passed_soon next o x c rounds f = elim (cases_lt (c.round + 1) (passed rounds x c.me)) [
  | inl lt ↦
      let q = (f.soon Low (c.round + 1) (passed_in rounds x c.me (c.round + 1) lt Low)).0 in
      absurd (elim (cases_Bool c.handed) [
        | inl handed ↦ both_ways (both_in x c.me c.round) (f.waits handed)
            (both_from_sides x c.me c.round (passed_in rounds x c.me c.round (omega (arith, lt))))
        | inr waiting ↦ let low = rw waiting at q in omega (arith, low)
      ])
  | inr le ↦ le
]

-- a core that was not quiet is quiet once it has handed out twice with nothing delivered in between
pub twice : {S : Type 0} (next : S → ℕ → List ℕ → Batch) (o : Setup) (x : Delivered) (c d e : Core S)
    → Fits next o x c → is_quiet next c ≡ false → Keeps c d → Moves c d
    → Fits next o x d → is_quiet next d ≡ false → Keeps d e → Moves d e
    → Fits next o x e → is_quiet next e ≡ true
twice next o x c d e f before keeps moves g still stays more h = elim more [
  | inr quiet ↦ or_left e.handed (has_ended next e) quiet.2
  | inl passes ↦ elim moves [
    | inr quiet ↦ absurd (both_ways (is_quiet next d) still (or_left d.handed (has_ended next d) quiet.2))
    | inl first ↦
        let me : e.me ≡ c.me = stays.me ∙ keeps.me in
        let there = rw me at (h.before Low (c.round + 1) (omega (arith, passes.1, first.1))) in
        let low = rw (or_out c.handed (has_ended next c) before) at (f.soon Low (c.round + 1) there).0 in
        absurd (omega (arith, low))
  ]
] where
  or_out : (a b : Bool) → (a || b) ≡ false → a ≡ false
  or_out true b none = none
  or_out false b none = refl

-- a core that has handed out its messages, or has ended, is at the rounds that its server has passed
pub at_passed : {S : Type 0} (next : S → ℕ → List ℕ → Batch) (o : Setup) (x : Delivered) (c : Core S) (rounds : ℕ) → HasRounds o rounds
    → Fits next o x c → is_quiet next c ≡ true → c.round ≡ passed rounds x c.me
at_passed next o x c rounds h f quiet =
    let low : c.round ≤ passed rounds x c.me = round_passed next o x c rounds h f in
    elim (or_cases c.handed (has_ended next c) quiet) [
      | inl handed ↦ elim (cases_lt c.round (passed rounds x c.me)) [
        | inl lt ↦ absurd (both_ways (both_in x c.me c.round) (f.waits handed)
            (both_from_sides x c.me c.round (passed_in rounds x c.me c.round lt)))
        | inr le ↦ omega (arith, low, le)
      ]
      | inr ended ↦
          let all : c.round ≡ rounds = (ended_at next o x c rounds h f).0 ended in
          let most : passed rounds x c.me ≤ rounds = passed_most three-is rounds x c.me in
          omega (arith, low, all, most)
    ]

-- what is delivered to others changes nothing at a core
pub elsewhere : {S : Type 0} (next : S → ℕ → List ℕ → Batch) (o : Setup) (x y : Delivered) (c : Core S)
    → ((side : Side) (t : ℕ) → y (peer c.me side) c.me t ≡ x (peer c.me side) c.me t) → Fits next o x c → Fits next o y c
elsewhere next o x y c agree f =
    let both : (t : ℕ) → both_in y c.me t ≡ both_in x c.me t =
    λ t. ap (λ b. b && y (peer c.me High) c.me t) (agree Low t) ∙ ap (λ b. x (peer c.me Low) c.me t && b) (agree High t) in
    record {
      stands = record {
        work = f.work;
        received = f.received;
        now = λ s. subst (λ b. place_at c.mail.now s ≡ some_if b (message_of o (peer c.me s) c.me c.round))
            (sym (agree s c.round)) (f.now s);
        early = λ s.
            subst (λ b. place_at c.mail.next s ≡ some_if b (message_of o (peer c.me s) c.me (c.round + 1)))
            (sym (agree s (c.round + 1))) (f.early s);
        before = λ s t lt. agree s t ∙ f.before s t lt;
        soon = λ s t there. f.soon s t (sym (agree s t) ∙ there);
      };
      waits = λ handed. both c.round ∙ f.waits handed;
    }

-- a message to another server is not one to this one
pub with_elsewhere : (x : Delivered) (e : Triple) (s : Point) → e.to ≢ s → (from : Point) (t : ℕ) → with_triple x e from s t ≡ x from s t
with_elsewhere x e s away from t =
    let out : same s e.to ≡ false = same_not s e.to (λ k. away (sym k)) in
    or_nothing (x from s t) (same from e.from && same s e.to && (t == e.round))
    (and_left (same from e.from && same s e.to) (t == e.round) (and_right (same from e.from) (same s e.to) out))
  where
    or_nothing : (a b : Bool) → b ≡ false → (a || b) ≡ a
    or_nothing true b none = refl
    or_nothing false b none = none

pub away : {S : Type 0} (next : S → ℕ → List ℕ → Batch) (o : Setup) (x : Delivered) (c : Core S) (e : Triple)
    → e.to ≢ c.me → Fits next o x c → Fits next o (with_triple x e) c
away next o x c e other f = elsewhere next o x (with_triple x e) c (λ side t. with_elsewhere x e c.me other (peer c.me side) t) f
