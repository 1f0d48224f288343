-- One more batch of moved numbers.
use Rattle.std.proofs.Common.{◌≡◌, ◌≢◌, ◌≤◌, ◌<◌, ◌+◌, ℕ, suc, List, length, slice_index, sym, refl, subst, ◌∙◌, ⊎_elim}
use Rattle.std.proofs.Common.{arith}
use Rattle.std.proofs.lemmas.Bool.{cases_lt}
use Rattle.beet_field.specs.Trio.{member, trio_of}
use Rattle.beet_field.specs.declared.point.Point.{Point}
use Rattle.beet_field.specs.declared.trio.Trio.{Trio}
use Rattle.beet_gates.specs.declared.Batch.{Batch}
use Rattle.beet_gates.specs.Draws.{draws_in}
use Rattle.beet_sharing.specs.Runs.{Setup, coming, secret_hidden, shared_at, with_batch_lets}
use Rattle.beet_sharing.proofs.SameRuns.{drawn-le, run-same, uses-below}
use Rattle.beet_map.specs.Secrets.{Secrets, begin_in, shares_of}
use Rattle.beet_map.specs.Mapped.{GateMapped, moved_of, number_at, secret_at}
use Rattle.beet_map.specs.Premise.{MayMap}
use Rattle.beet_map.proofs.Alike.{Alike, alike_at}

-- two runs whose numbers agree as far as they were drawn
pub runs_agree : (next : ℕ → List ℕ → Batch) (w : Secrets) (d e : Trio (List ℕ)) (t : ℕ) →
    ((j : Point) (n : ℕ) → n < (shared_at (begin_in next w d) t).drawn → slice_index (member e j) n ≡ slice_index (member d j) n) →
    shared_at (begin_in next w e) t ≡ shared_at (begin_in next w d) t
runs_agree next w d e t agree =
    let inputs : Trio (List ℕ) = trio_of (shares_of w.inputs) in
    run-same next inputs w.masks w.masks d e t
    (λ u lt same. uses-below next inputs w.masks w.masks d e t (λ j n h. refl) agree u lt) t (omega arith)

pub may_until : (next : ℕ → List ℕ → Batch) (me : Point) (rounds t : ℕ) (w w' : Secrets) → t ≤ rounds →
    MayMap next me rounds w w' → MayMap next me t w w'
may_until next me rounds t w w' le m = record {
  lines = m.lines;
  lines' = m.lines';
  inputs = m.inputs;
  opens = λ u h. m.opens u (omega arith);
  words = λ u h some. m.words u (omega arith) some;
}

-- `e` is the numbers of the second setup, with those of batch t moved
pub record Extends (me : Point) (first second : Setup) (t : ℕ) (e : Trio (List ℕ)) : Type 0 where
  pub own : member e me ≡ member second.numbers me
  pub lengths : (j : Point) → length (member e j) ≡ length (member second.numbers j)
  pub moves : (j : Point) → j ≢ me → (k : ℕ) → k < draws_in (coming first t).act →
      slice_index (member e j) ((shared_at first t).drawn + k)
      ≡ moved_of me (number_at first t j k) (secret_at first t j k) (secret_at second t j k)
  pub below : (j : Point) (n : ℕ) → n < (shared_at first t).drawn → slice_index (member e j) n ≡ slice_index (member second.numbers j) n
  pub beyond : (j : Point) (n : ℕ) → (shared_at first t).drawn + draws_in (coming first t).act ≤ n →
      slice_index (member e j) n ≡ slice_index (member second.numbers j) n

module _ (next : ℕ → List ℕ → Batch) (me : Point) (rounds : ℕ) (w w' : Secrets) (may : MayMap next me rounds w w')
    (numbers d : Trio (List ℕ)) (t : ℕ) (here : t < rounds) where
  abbrev first : Setup
  first = begin_in next w numbers

  abbrev second : Trio (List ℕ) → Setup
  second x = begin_in next w' x

  pub stands_alike : GateMapped me t first (second d) → (u : ℕ) → u ≤ t → Alike me (shared_at first u) (shared_at (second d) u)
  stands_alike m u le = alike_at next me w w' numbers d t (may_until next me rounds t w w' (omega arith) may) m u le

  module _ (m : GateMapped me t first (second d)) (e : Trio (List ℕ)) (x : Extends me first (second d) t e) where
    pub stays_at : (u : ℕ) → u ≤ t → shared_at (second e) u ≡ shared_at (second d) u
    stays_at u le = runs_agree next w' d e u (λ j n lt.
        let a = drawn-le first u t le in
        let b = (stands_alike m u le).drawn in x.below j n (omega arith))

    moves_at : (j : Point) → j ≢ me → (u k : ℕ) → u ≤ t → k < draws_in (coming first u).act →
        slice_index (member e j) ((shared_at first u).drawn + k)
        ≡ moved_of me (number_at first u j k) (secret_at first u j k) (secret_at (second d) u j k) →
        number_at (second e) u j k ≡ moved_of me (number_at first u j k) (secret_at first u j k) (secret_at (second e) u j k)
    moves_at j ne u k le below is =
        let same = stays_at u le in
        (λ i. slice_index (member e j) ((same i).drawn + k)) ∙ (λ i. slice_index (member e j) ((stands_alike m u le).drawn i + k)) ∙ is
        ∙ (λ i. moved_of me (number_at first u j k) (secret_at first u j k)
        (secret_hidden (second e) (with_batch_lets (next u (sym same i).opened) (sym same i)) (next u (sym same i).opened).act j k))

    pub extended : GateMapped me (suc t) first (second e)
    extended = record {
      own = x.own ∙ m.own;
      lengths = λ j. x.lengths j ∙ m.lengths j;
      moves = λ j ne u k lt below. ⊎_elim
          (λ (early : u < t).
          let a = drawn-le first (suc u) t (omega arith) in
          let b : (shared_at first (suc u)).drawn ≡ (shared_at first u).drawn + draws_in (coming first u).act = refl in
          let c = (stands_alike m u (omega arith)).drawn in
          moves_at j ne u k (omega arith) below
          (x.below j ((shared_at first u).drawn + k) (omega arith) ∙ (λ i. slice_index (member d j) (sym c i + k))
          ∙ m.moves j ne u k early below))
          (λ (late : t ≤ u).
          let is : t ≡ u = omega arith in
          moves_at j ne u k (omega arith) below
          (subst (λ v. k < draws_in (coming first v).act → slice_index (member e j) ((shared_at first v).drawn + k)
          ≡ moved_of me (number_at first v j k) (secret_at first v j k) (secret_at (second d) v j k)) is
          (x.moves j ne k) below))
          (cases_lt u t);
      rest = λ j ne n le.
          let a : (shared_at first (suc t)).drawn ≡ (shared_at first t).drawn + draws_in (coming first t).act = refl in
          x.beyond j n (omega arith) ∙ m.rest j ne n (omega arith);
    }
