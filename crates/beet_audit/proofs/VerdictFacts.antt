-- What is found in turn.
use Rattle.std.proofs.Common.{◌≡◌, ◌≢◌, ◌<◌, ◌+◌, ℕ, Option, Some, None, Result, Ok, Err, inl, inr, arith, subst, sym, ◌∙◌, refl}
use Rattle.std.specs.Prelude.{IsErrAnd}
use Rattle.std.proofs.lemmas.Bool.{cases_lt}
use Rattle.std.proofs.lemmas.Result.{err_from_is_err_and}
use Rattle.beet_field.specs.declared.point.Point.{Point}
use Rattle.beet_field.specs.declared.point.Point.TheVariants.{One, Two, Three}
use Rattle.beet_audit.specs.Verdicts.{Wants, InTurn, EachBelow, EachServer, Judges}
use Rattle.beet_audit.specs.declared.fault.AuditFault.{AuditFault}
use Rattle.beet_audit.specs.declared.fault.AuditFault.TheVariants.{OutOfMemory}

-- what the exit of a `?` returns
pub exits : {U : Type 0} (finds : Option AuditFault → Type 0) (fault : AuditFault) (result : Result U AuditFault) →
    IsErrAnd result (λ e. e ≡ fault) →
    (fault ≢ OutOfMemory → finds (Some fault)) → Judges finds result
exits finds fault result e h = let p = err_from_is_err_and result e in rw (p.1, p.2) h

-- that of want of memory
pub no_memory : {U : Type 0} (finds : Option AuditFault → Type 0) (result : Result U AuditFault) →
    IsErrAnd result (λ e. e ≡ OutOfMemory) → Judges finds result
no_memory finds result e = let p = err_from_is_err_and result e in rw (p.1, p.2) (λ ne. absurd (ne refl))

-- nothing is wrong with the first, and what is found of the second is what is found
pub goes_on : {U : Type 0} (a b : Option AuditFault → Type 0) (result : Result U AuditFault) → a None →
    Judges b result → Judges (InTurn a b) result
goes_on a b (Ok value) h j = (h, j)
goes_on a b (Err fault) h j = λ ne. inr (h, j ne)

-- the first is wrong
pub stops : {U : Type 0} (a b : Option AuditFault → Type 0) (result : Result U AuditFault) → (fault : AuditFault) →
    IsErrAnd result (λ e. e ≡ fault) →
    (fault ≢ OutOfMemory → a (Some fault)) → Judges (InTurn a b) result
stops a b result fault e h = exits (InTurn a b) fault result e (λ ne. inl (h ne))

-- one more
pub below_next : (P : ℕ → Type 0) (i : ℕ) → ((k : ℕ) → k < i → P k) → P i → (k : ℕ) → k < i + 1 → P k
below_next P i before here k lt = elim (cases_lt k i) [
  | inl less ↦ before k less
  | inr more ↦ let e : i ≡ k = omega arith in subst P e here
]

-- one of several is wrong
pub stops_at : {U : Type 0} (n : ℕ) (at : ℕ → Option AuditFault → Type 0) (result : Result U AuditFault) (i : ℕ)
    (fault : AuditFault) → i < n →
    ((k : ℕ) → k < i → at k None) → IsErrAnd result (λ e. e ≡ fault) → (fault ≢ OutOfMemory → at i (Some fault)) →
    Judges (EachBelow n at) result
stops_at n at result i fault lt before e h = exits (EachBelow n at) fault result e (λ ne. (i, lt, before, h ne))

-- what is found is not found beside nothing
abbrev pub Tells : (Option AuditFault → Type 0) → Type 0
Tells finds = (fault : AuditFault) → finds None → finds (Some fault) → ⊥

pub tells-wants : (wanted : Type 0) (fault : AuditFault) → Tells (Wants wanted fault)
tells-wants wanted fault found h n = n.0 h

pub tells-turn : (a b : Option AuditFault → Type 0) → Tells a → Tells b → Tells (InTurn a b)
tells-turn a b ta tb fault h n = elim n [ inl first ↦ ta fault h.0 first | inr second ↦ tb fault h.1 second.1 ]

pub tells-below : (n : ℕ) (at : ℕ → Option AuditFault → Type 0) → ((k : ℕ) → Tells (at k)) → Tells (EachBelow n at)
tells-below n at t fault h found = t found.0 fault (h found.0 found.1) found.3

pub tells-servers : (at : Point → Option AuditFault → Type 0) → ((s : Point) → Tells (at s)) → Tells (EachServer at)
tells-servers at t = tells-turn (at One) (InTurn (at Two) (at Three)) (t One) (tells-turn (at Two) (at Three) (t Two) (t Three))

-- nothing is wrong with any server
pub each-server : (at : Point → Option AuditFault → Type 0) → EachServer at None → (s : Point) → at s None
each-server at h One = h.0
each-server at h Two = h.1.0
each-server at h Three = h.1.1

pub all-servers : (at : Point → Option AuditFault → Type 0) → ((s : Point) → at s None) → EachServer at None
all-servers at h = (h One, (h Two, h Three))

-- what is found is one thing
abbrev pub FindsOne : (Option AuditFault → Type 0) → Type 0
FindsOne finds = (one other : AuditFault) → finds (Some one) → finds (Some other) → one ≡ other

pub one-wants : (wanted : Type 0) (fault : AuditFault) → FindsOne (Wants wanted fault)
one-wants wanted fault one other h i = h.1 ∙ sym i.1

pub one-turn : (a b : Option AuditFault → Type 0) → Tells a → FindsOne a → FindsOne b → FindsOne (InTurn a b)
one-turn a b ta oa ob one other h i = elim h [
  | inl first ↦ elim i [ inl first' ↦ oa one other first first' | inr second' ↦ absurd (ta one second'.0 first) ]
  | inr second ↦ elim i [ inl first' ↦ absurd (ta other second.0 first') | inr second' ↦ ob one other second.1 second'.1 ]
]

pub one-below : (n : ℕ) (at : ℕ → Option AuditFault → Type 0) → ((k : ℕ) → Tells (at k)) → ((k : ℕ) → FindsOne (at k)) →
    FindsOne (EachBelow n at)
one-below n at t o one other h i = elim (cases_lt h.0 i.0) [
  | inl less ↦ absurd (t h.0 one (i.2 h.0 less) h.3)
  | inr more ↦ elim (cases_lt i.0 h.0) [
    | inl less ↦ absurd (t i.0 other (h.2 i.0 less) i.3)
    | inr more' ↦ let e : i.0 ≡ h.0 = omega arith in o h.0 one other h.3 (subst (λ k. at k (Some other)) e i.3)
  ]
]

pub one-servers : (at : Point → Option AuditFault → Type 0) → ((s : Point) → Tells (at s)) →
    ((s : Point) → FindsOne (at s)) → FindsOne (EachServer at)
one-servers at t o =
    one-turn (at One) (InTurn (at Two) (at Three)) (t One) (o One) (one-turn (at Two) (at Three) (t Two) (o Two) (o Three))
