-- The moved numbers are the only ones.
use Rattle.std.proofs.Common.{◌≡◌, ◌≤◌, ◌<◌, ◌+◌, ◌-◌, ◌*◌, ℕ, zero, suc, inl, inr, false, List, ◌++◌, length, slice_index, sym, refl, ap}
use Rattle.std.proofs.Common.{subst, ◌∙◌, ◌⊎◌, ⊎_elim, arith}
use Rattle.std.proofs.lemmas.Bool.{cases_Bool}
use Rattle.std.proofs.lemmas.List.{ext_get_or}
use Rattle.beet_gates.specs.Each.{each}
use Rattle.beet_gates.specs.Scripts.{deals_in}
use Rattle.beet_gates.specs.declared.Act.{Act}
use Rattle.beet_gates.specs.declared.Act.TheVariants.{Deal, Mul, Reveal, End}
use Rattle.beet_gates.specs.declared.Batch.{Batch}
use Rattle.beet_gates.proofs.EachFacts.{each-same}
use Rattle.beet_gates.specs.Draws.{draws_in}
use Rattle.beet_linear_sharing.specs.Sharings.{Sharing, IsAmong}
use Rattle.beet_linear_sharing.specs.Runs.{Setup, Shared, act_among, coming, gained, hidden_at, number_drawn, opened_by, product_at}
use Rattle.beet_linear_sharing.specs.Runs.{secret_hidden, shared_at, standing_at, with_batch_lets}
use Rattle.beet_coalition.specs.Coalitions.{Coalition, GateMapped, moved_of, number_at, secret_at}
use Rattle.beet_coalition.specs.Premise.{MayMap, Secrets, begin_in}
use Rattle.beet_coalition.specs.Pairs.{SameNumbers}
use Rattle.beet_linear_sharing.proofs.Laws.{SharingLaws, IsPlace, place-below}
use Rattle.beet_coalition.proofs.Laws.{CoalitionLaws}
use Rattle.beet_coalition.proofs.Alike.{Alike, alike_at, joined-same, same_batch}

pub split_at : (n u : ℕ) → (n < u) ⊎ (u ≤ n)
split_at n u = grind arith

-- a batch depends on its own draws alone
module _ (q : Sharing) (laws : SharingLaws q) (next : ℕ → List ℕ → Batch) (w : Secrets) (numbers numbers' : ℕ → List ℕ) (s : Shared) where
  abbrev old : Setup
  old = begin_in next w numbers

  abbrev new : Setup
  new = begin_in next w numbers'

  abbrev pub SameDraws : Act → Type 0
  SameDraws a = (j k m : ℕ) → IsAmong q.servers j → k < draws_in a → m < q.degree → number_drawn q new s j k m ≡ number_drawn q old s j k m

  gained_alike : (a : Act) → SameDraws a → (i : ℕ) → gained q new s a i ≡ gained q old s a i
  gained_alike Deal h i =
      joined-same (λ j. each (hidden_at q new s Deal j i) 61) (λ j. each (hidden_at q old s Deal j i) 61) q.servers
      (λ j at. each-same (hidden_at q new s Deal j i) (hidden_at q old s Deal j i) 61
      (λ k lt. laws.share_same (secret_hidden old s Deal j k) i (number_drawn q new s j k) (number_drawn q old s j k)
      (λ m small. h j k m at lt small)))
  gained_alike (Mul pairs) h i =
      each-same (product_at q new s (Mul pairs) i) (product_at q old s (Mul pairs) i) (length pairs.items)
      (λ k lt. laws.reshared_same (λ j. hidden_at q new s (Mul pairs) j i k) (λ j. hidden_at q old s (Mul pairs) j i k)
      (λ j at. laws.share_same (secret_hidden old s (Mul pairs) j k) i (number_drawn q new s j k) (number_drawn q old s j k)
      (λ m small. h j k m at lt small)))
  gained_alike (Reveal shown) h i = refl
  gained_alike End h i = refl

  pub act_alike : (a : Act) → SameDraws a → act_among q new a s ≡ act_among q old a s
  act_alike a h =
      let g = gained_alike a h in
      λ x. record {
        wires = λ i. s.wires i ++ g i x;
        opened = s.opened ++ opened_by q s a;
        hidden = s.hidden + draws_in a;
        dealt = s.dealt + deals_in a;
      }

-- each secret below the count of those hidden was hidden in some batch
pub record HiddenIn (q : Sharing) (o : Setup) (rounds n : ℕ) : Type 0 where
  pub batch : ℕ
  pub place : ℕ
  pub early : batch < rounds
  pub within : place < draws_in (coming q o batch).act
  pub there : (shared_at q o batch).hidden + place ≡ n

pub hidden_in : (q : Sharing) (o : Setup) (t n : ℕ) → n < (shared_at q o t).hidden → HiddenIn q o t n
hidden_in q o zero n lt = absurd (omega arith)
hidden_in q o (suc t) n lt =
    let u : ℕ = (shared_at q o t).hidden in
    let d : ℕ = draws_in (coming q o t).act in
    let lt' : n < u + d = lt in
    ⊎_elim
    (λ (h : n < u).
    let g = hidden_in q o t n h in record
    { batch = g.batch; place = g.place; early = let e = g.early in omega arith; within = g.within; there = g.there })
    (λ (h : u ≤ n). record {
      batch = t;
      place = n - u;
      early = omega arith;
      within = let b : n - u < d = omega arith in b;
      there = let b : u + (n - u) ≡ n = omega arith in b;
    })
    (split_at n u)

-- two lists of numbers that both follow from the first world are the same
module _ (q : Sharing) (c : Coalition) (laws : SharingLaws q) (watch : CoalitionLaws q c) (next : ℕ → List ℕ → Batch) (rounds : ℕ)
    (w w' : Secrets)
    (may : MayMap q c next rounds w w') (numbers : ℕ → List ℕ) where
  abbrev first : Setup
  first = begin_in next w numbers

  abbrev second : (ℕ → List ℕ) → Setup
  second d = begin_in next w' d

  module _ (d e : ℕ → List ℕ) (m : GateMapped q c rounds first (second d)) (m' : GateMapped q c rounds first (second e)) where
    alike : (t : ℕ) → t ≤ rounds → Alike q c (shared_at q first t) (shared_at q (second d) t)
    alike t le = alike_at q c laws watch next w w' numbers d rounds may m t le

    -- the numbers drawn in a batch that both reach alike
    draws_same : (t : ℕ) → t < rounds → shared_at q (second e) t ≡ shared_at q (second d) t → (j k n : ℕ) → IsAmong q.servers j →
        k < draws_in (coming q first t).act → n < q.degree → number_at q (second e) t j k n ≡ number_at q (second d) t j k n
    draws_same t lt same j k n at below small = elim (cases_Bool (c.watches j)) [
      | inl mine ↦ let own = m'.own j at mine ∙ sym (m.own j at mine) in λ x. slice_index (own x) (q.degree * ((same x).hidden + k) + n)
      | inr other ↦
          m'.moves j at other t k n lt below small
          ∙ (λ x. moved_of c n (number_at q first t j k n) (secret_at q first t j k)
          (secret_hidden (second d) (with_batch_lets (next t (same x).opened) (same x)) (next t (same x).opened).act j k))
          ∙ sym (m.moves j at other t k n lt below small)
    ]

    pub runs_same : (t : ℕ) → t ≤ rounds → shared_at q (second e) t ≡ shared_at q (second d) t
    runs_same zero le = refl
    runs_same (suc t) le =
        let same = runs_same t (omega arith) in
        let is : coming q (second d) t ≡ coming q first t =
        same_batch q c laws watch next w w' numbers d rounds may m t (alike t (omega arith)) in
        (λ x. act_among q (second e) (next t (same x).opened).act (with_batch_lets (next t (same x).opened) (same x)))
        ∙ act_alike q laws next w' d e (standing_at q (second d) t) (coming q (second d) t).act (λ j k n at below small.
        (λ x. slice_index (e j) (q.degree * ((sym same x).hidden + k) + n))
        ∙ draws_same t (omega arith) same j k n at (subst (λ b. k < draws_in b.act) is below) small)

    drawn_same : (j : ℕ) → IsAmong q.servers j → c.watches j ≡ false → (n : ℕ) → n < q.degree * (shared_at q first rounds).hidden →
        slice_index (e j) n ≡ slice_index (d j) n
    drawn_same j at other n h =
        let place : IsPlace q n = laws.place_of n in
        let within = hidden_in q first rounds place.secret
        (place-below q place.secret place.number (shared_at q first rounds).hidden
        (subst (λ x. x < q.degree * (shared_at q first rounds).hidden) (sym place.is) h)) in
        let t : ℕ = within.batch in
        let k : ℕ = within.place in
        let same = runs_same t (let early = within.early in omega arith) in
        let g = alike t (let early = within.early in omega arith) in
        let there : q.degree * ((shared_at q (second d) t).hidden + k) + place.number ≡ n =
        (λ x. q.degree * (g.hidden x + k) + place.number) ∙ (λ x. q.degree * within.there x + place.number) ∙ place.is in
        (λ x. slice_index (e j) ((sym there ∙ (λ y. q.degree * ((sym same y).hidden + k) + place.number)) x))
        ∙ draws_same t within.early same j k place.number at within.within place.small
        ∙ ap (λ x. slice_index (d j) x) there

    each_same : (j : ℕ) → IsAmong q.servers j → c.watches j ≡ false → (n : ℕ) → slice_index (e j) n ≡ slice_index (d j) n
    each_same j at other n = ⊎_elim
        (λ (h : n < q.degree * (shared_at q first rounds).hidden). drawn_same j at other n h)
        (λ (h : q.degree * (shared_at q first rounds).hidden ≤ n). m'.rest j at other n h ∙ sym (m.rest j at other n h))
        (split_at n (q.degree * (shared_at q first rounds).hidden))

    pub only_one : SameNumbers q e d
    only_one j at = elim (cases_Bool (c.watches j)) [
      | inl mine ↦ m'.own j at mine ∙ sym (m.own j at mine)
      | inr other ↦ ext_get_or 0 (e j) (d j) (m'.lengths j at ∙ sym (m.lengths j at)) (λ n lt. each_same j at other n)
    ]
