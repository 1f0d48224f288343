-- One more batch of moved numbers.
use Rattle.std.proofs.Common.{◌≡◌, ◌≤◌, ◌<◌, ◌+◌, ◌*◌, ℕ, zero, suc, true, false, List, length, slice_index, sym, refl, subst, ◌∙◌, ⊎_elim}
use Rattle.std.proofs.Common.{arith}
use Rattle.beet_gates.specs.declared.Batch.{Batch}
use Rattle.beet_gates.specs.Draws.{draws_in}
use Rattle.beet_linear_sharing.specs.Sharings.{Sharing, IsAmong}
use Rattle.beet_linear_sharing.specs.Runs.{Setup, act_among, coming, secret_hidden, shared_at, standing_at, with_batch_lets}
use Rattle.beet_coalition.specs.Coalitions.{Coalition, GateMapped, moved_of, number_at, secret_at}
use Rattle.beet_coalition.specs.Premise.{MayMap, Secrets, begin_in}
use Rattle.beet_linear_sharing.proofs.Laws.{SharingLaws, more_places, place-within}
use Rattle.beet_coalition.proofs.Laws.{CoalitionLaws}
use Rattle.beet_coalition.proofs.Alike.{Alike, alike_at}
use Rattle.beet_coalition.proofs.Unique.{act_alike, split_at}

pub hidden_le : (q : Sharing) (o : Setup) (u t : ℕ) → u ≤ t → (shared_at q o u).hidden ≤ (shared_at q o t).hidden
hidden_le q o u zero le = let e : u ≡ 0 = omega arith in
    subst (λ x. (shared_at q o x).hidden ≤ (shared_at q o 0).hidden) (sym e) (omega arith)
hidden_le q o u (suc t) le = ⊎_elim
    (λ (h : u < suc t).
    let a = hidden_le q o u t (omega arith) in
    let b : (shared_at q o (suc t)).hidden ≡ (shared_at q o t).hidden + draws_in (coming q o t).act = refl in omega arith)
    (λ (h : suc t ≤ u). let e : u ≡ suc t = omega arith in
    subst (λ x. (shared_at q o x).hidden ≤ (shared_at q o (suc t)).hidden) (sym e) (omega arith))
    (split_at u (suc t))

-- two runs whose numbers agree as far as they were drawn
pub runs_agree : (q : Sharing) (laws : SharingLaws q) (next : ℕ → List ℕ → Batch) (w : Secrets) (d e : ℕ → List ℕ) (t : ℕ) →
    ((j n : ℕ) → IsAmong q.servers j → n < q.degree * (shared_at q (begin_in next w d) t).hidden → slice_index (e j) n
    ≡ slice_index (d j) n) →
    shared_at q (begin_in next w e) t ≡ shared_at q (begin_in next w d) t
runs_agree q laws next w d e zero agree = refl
runs_agree q laws next w d e (suc t) agree =
    let o : Setup = begin_in next w d in
    let h : ℕ = (shared_at q o t).hidden in
    let h' : ℕ = (shared_at q o (suc t)).hidden in
    let more : h' ≡ h + draws_in (coming q o t).act = refl in
    let le : q.degree * h ≤ q.degree * h' = more_places q h h' (omega (arith, more)) in
    let same = runs_agree q laws next w d e t (λ j n at lt. agree j n at (omega arith)) in
    (λ x. act_among q (begin_in next w e) (next t (same x).opened).act (with_batch_lets (next t (same x).opened) (same x)))
    ∙ act_alike q laws next w d e (standing_at q o t) (coming q o t).act
    (λ j k m at below small. agree j (q.degree * (h + k) + m) at (place-within q (h + k) m h' (omega (arith, more, below)) small))

pub may_until : (q : Sharing) (c : Coalition) (next : ℕ → List ℕ → Batch) (rounds t : ℕ) (w w' : Secrets) → t ≤ rounds →
    MayMap q c next rounds w w' → MayMap q c next t w w'
may_until q c next rounds t w w' le m = record {
  shared = m.shared;
  shared' = m.shared';
  inputs = m.inputs;
  opens = λ u h. m.opens u (omega arith);
  words = λ u i h at is some. m.words u i (omega arith) at is some;
}

-- `e` is the numbers of the second setup, with those of batch t moved
pub record Extends (q : Sharing) (c : Coalition) (first second : Setup) (t : ℕ) (e : ℕ → List ℕ) : Type 0 where
  pub own : (j : ℕ) → IsAmong q.servers j → c.watches j ≡ true → e j ≡ second.numbers j
  pub lengths : (j : ℕ) → IsAmong q.servers j → length (e j) ≡ length (second.numbers j)
  pub moves : (j : ℕ) → IsAmong q.servers j → c.watches j ≡ false → (k m : ℕ) → k < draws_in (coming q first t).act → m < q.degree →
      slice_index (e j) (q.degree * ((shared_at q first t).hidden + k) + m)
      ≡ moved_of c m (number_at q first t j k m) (secret_at q first t j k) (secret_at q second t j k)
  pub below : (j n : ℕ) → IsAmong q.servers j → n < q.degree * (shared_at q first t).hidden → slice_index (e j) n
      ≡ slice_index (second.numbers j) n
  pub beyond : (j n : ℕ) → IsAmong q.servers j → q.degree * ((shared_at q first t).hidden + draws_in (coming q first t).act) ≤ n →
      slice_index (e j) n ≡ slice_index (second.numbers j) n

module _ (q : Sharing) (c : Coalition) (laws : SharingLaws q) (watch : CoalitionLaws q c) (next : ℕ → List ℕ → Batch) (rounds : ℕ)
    (w w' : Secrets)
    (may : MayMap q c next rounds w w') (numbers d : ℕ → List ℕ) (t : ℕ) (here : t < rounds) where
  abbrev first : Setup
  first = begin_in next w numbers

  abbrev second : (ℕ → List ℕ) → Setup
  second x = begin_in next w' x

  pub stands_alike : GateMapped q c t first (second d) → (u : ℕ) → u ≤ t → Alike q c (shared_at q first u) (shared_at q (second d) u)
  stands_alike m u le = alike_at q c laws watch next w w' numbers d t (may_until q c next rounds t w w' (omega arith) may) m u le

  module _ (m : GateMapped q c t first (second d)) (e : ℕ → List ℕ) (x : Extends q c first (second d) t e) where
    pub stays_at : (u : ℕ) → u ≤ t → shared_at q (second e) u ≡ shared_at q (second d) u
    stays_at u le = runs_agree q laws next w' d e u (λ j n at lt.
        let a = more_places q (shared_at q first u).hidden (shared_at q first t).hidden (hidden_le q first u t le) in
        let b : q.degree * (shared_at q (second d) u).hidden ≡ q.degree * (shared_at q first u).hidden = λ i. q.degree
        * (stands_alike m u le).hidden i in
        x.below j n at (omega (arith, a, b, lt)))

    moves_at : (j : ℕ) → IsAmong q.servers j → c.watches j ≡ false → (u k n : ℕ) → u ≤ t → k < draws_in (coming q first u).act → n
        < q.degree →
        slice_index (e j) (q.degree * ((shared_at q first u).hidden + k) + n)
        ≡ moved_of c n (number_at q first u j k n) (secret_at q first u j k) (secret_at q (second d) u j k) →
        number_at q (second e) u j k n ≡ moved_of c n (number_at q first u j k n) (secret_at q first u j k) (secret_at q (second e) u j k)
    moves_at j at other u k n le below small is =
        let same = stays_at u le in
        (λ i. slice_index (e j) (q.degree * ((same i).hidden + k) + n))
        ∙ (λ i. slice_index (e j) (q.degree * ((stands_alike m u le).hidden i + k) + n)) ∙ is
        ∙ (λ i. moved_of c n (number_at q first u j k n) (secret_at q first u j k)
        (secret_hidden (second e) (with_batch_lets (next u (sym same i).opened) (sym same i)) (next u (sym same i).opened).act j k))

    pub extended : GateMapped q c (suc t) first (second e)
    extended = record {
      own = λ j at mine. x.own j at mine ∙ m.own j at mine;
      lengths = λ j at. x.lengths j at ∙ m.lengths j at;
      moves = λ j at other u k n lt below small. ⊎_elim
          (λ (early : u < t).
          let h : ℕ = (shared_at q first u).hidden in
          let g : ℕ = (shared_at q first t).hidden in
          let a = hidden_le q first (suc u) t (omega arith) in
          let b : (shared_at q first (suc u)).hidden ≡ h + draws_in (coming q first u).act = refl in
          let same = (stands_alike m u (omega arith)).hidden in
          moves_at j at other u k n (omega arith) below small
          (x.below j (q.degree * (h + k) + n) at (place-within q (h + k) n g (omega (arith, a, b, below)) small)
          ∙ (λ i. slice_index (d j) (q.degree * (sym same i + k) + n)) ∙ m.moves j at other u k n early below small))
          (λ (late : t ≤ u).
          let is : t ≡ u = omega arith in
          moves_at j at other u k n (omega arith) below small
          (subst (λ v. k < draws_in (coming q first v).act → slice_index (e j) (q.degree * ((shared_at q first v).hidden + k) + n)
          ≡ moved_of c n (number_at q first v j k n) (secret_at q first v j k) (secret_at q (second d) v j k)) is
          (λ lt'. x.moves j at other k n lt' small) below))
          (split_at u t);
      rest = λ j at other n le.
          let h : ℕ = (shared_at q first t).hidden in
          let h' : ℕ = (shared_at q first (suc t)).hidden in
          let more : h' ≡ h + draws_in (coming q first t).act = refl in
          let a : q.degree * h ≤ q.degree * h' = more_places q h h' (omega (arith, more)) in
          x.beyond j n at le ∙ m.rest j at other n (omega (arith, a, le));
    }
