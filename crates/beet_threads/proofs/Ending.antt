-- A server that has served, and three of them.
use Rattle.std.proofs.Common.{◌≡◌, ℕ, List, subst}
use Rattle.std.specs.Prelude.{Result, Ok, Err, IfOk, IfErr}
use Rattle.beet_field.specs.declared.point.Point.{Point}
use Rattle.beet_field.specs.declared.trio.Trio.{Trio}
use Rattle.beet_gates.specs.declared.Batch.{Batch}
use Rattle.beet_server.specs.Cores.{Core}
use Rattle.beet_station.specs.Stations.{IsEnded}

module _ {S : Type 0} (next : S → ℕ → List ℕ → Batch) (inputs most : S → ℕ) where
  -- the start of its run and its name are known by other words
  pub ended-as : (run start : Trio (Core S)) (me s : Point) (end : Core S) → run ≡ start → me ≡ s → IsEnded next inputs most run me end →
      IsEnded next inputs most start s end
  ended-as run start me s end same name =
      subst (λ (p : Trio (Core S) × Point). IsEnded next inputs most p.0 p.1 end) (λ i. (same i, name i))

-- what a worker has made, or was made where there is none, is what was asked for
pub by-worker : {W D V L : Type 0} (started : Result W D) (end : D) (asked : W → V) (under : W → L) (v : V) (l : L)
    (Q : V → L → D → Type 0) →
    IfOk started (λ w. (asked w ≡ v) × (under w ≡ l)) → IfErr started (Q v l) → IfOk started (λ w. Q (asked w) (under w) end) →
    IfErr started (λ d. d ≡ end) → Q v l end
by-worker {W} {D} {V} {L} (Ok w) end asked under v l Q is back made same = subst (λ (p : V × L). Q p.0 p.1 end) (λ i. (is.0 i, is.1 i)) made
by-worker (Err d) end asked under v l Q is back made same = subst (Q v l) same back

pub ok-then : {A E : Type 0} (r : Result A E) (P Q : A → Type 0) → IfOk r P → ((a : A) → P a → Q a) → IfOk r Q
ok-then (Ok a) P Q h f = f a h
ok-then (Err e) P Q h f = tt

pub err-then : {A E : Type 0} (r : Result A E) (P Q : E → Type 0) → IfErr r P → ((e : E) → P e → Q e) → IfErr r Q
err-then (Ok a) P Q h f = tt
err-then (Err e) P Q h f = f e h
