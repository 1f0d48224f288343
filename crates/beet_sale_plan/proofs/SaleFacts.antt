-- What is kept of all bids is the sale's winner and price, and there is one winner and one price.
use Rattle.std.proofs.Common.{◌≡◌, ◌≢◌, ℕ, zero, suc, ◌+◌, ◌<◌, ◌≤◌, ◌⊎◌, inl, inr, true, false, List, length}
use Rattle.std.proofs.Common.{slice_index, refl, sym, ◌∙◌, arith}
use Rattle.std.specs.Prelude.{nat_le}
use Rattle.std.proofs.lemmas.Bool.{cases_eq, cases_lt}
use Rattle.std.proofs.lemmas.Bool.Decides.{nat_tests}
use Rattle.beet_sale_plan.specs.Outcome.{IsPrice, IsSale, IsWinner}
use Rattle.beet_sale_plan.specs.Kept.{Kept, kept_after, kept_first}

-- what is kept after so many more bids, the first of which stands at place j
abbrev pub kept_all : (ℕ → ℕ) → ℕ → ℕ → Kept → Kept
kept_all bid zero j k = k
kept_all bid (suc n) j k = kept_all bid n (j + 1) (kept_after k (bid j) (j + 1))

-- what is kept of a first bid and so many further ones
abbrev pub kept_of : (ℕ → ℕ) → ℕ → Kept
kept_of bid further = kept_all bid further 1 (kept_first bid)

-- of the first m bids the greatest, its bidder and the greatest of the others are kept; of one bid there is no other
pub record SoFar (bid : ℕ → ℕ) (m : ℕ) (k : Kept) : Type 0 where
  pub place : ℕ
  pub counted : k.who ≡ place + 1
  pub there : place < m
  pub best : k.best ≡ bid place
  pub greatest : (j : ℕ) → j < m → bid j ≤ bid place
  pub least : (j : ℕ) → j < place → bid j < bid place
  pub covers : (j : ℕ) → j < m → j ≢ place → bid j ≤ k.next
  pub other : ((m ≡ 1) × (k.next ≡ 0)) ⊎ ((o : ℕ) × (o < m) × (o ≢ place) × (k.next ≡ bid o))

next-small : (bid : ℕ → ℕ) (m : ℕ) (k : Kept) (s : SoFar bid m k) → k.next ≤ k.best
next-small bid m k s = elim s.other [
  | inl none ↦ omega (arith, none.1)
  | inr o ↦ omega (arith, o.3, s.best, s.greatest o.0 o.1)
]

-- one bid more
one-more : (bid : ℕ → ℕ) (m : ℕ) (k : Kept) → SoFar bid m k → SoFar bid (m + 1) (kept_after k (bid m) (m + 1))
one-more bid m k s = elim (cases_lt k.best (bid m)) [
  | inl greater ↦
      let t : nat_le (bid m) k.best ≡ false = grind (arith, nat_tests) in
      let top : (j : ℕ) → j < m → bid j < bid m = λ j h. omega (arith, greater, s.best, s.greatest j h) in
      rw t (record {
        place = m;
        counted = refl;
        there = omega arith;
        best = refl;
        greatest = λ j h. elim (cases_eq j m) [
          | inl e ↦ rw e (omega arith)
          | inr n ↦ omega (arith, top j (omega (arith, h, n)))
        ];
        least = λ j h. top j h;
        covers = λ j h n. omega (arith, s.best, s.greatest j (omega (arith, h, n)));
        other = inr (s.place, omega (arith, s.there), (λ e. omega (arith, e, s.there)), omega (arith, s.best, next-small bid m k s));
      })
  | inr within ↦
      let t : nat_le (bid m) k.best ≡ true = grind (arith, nat_tests) in
      rw t (record {
        place = s.place;
        counted = s.counted;
        there = omega (arith, s.there);
        best = s.best;
        greatest = λ j h. elim (cases_eq j m) [
          | inl e ↦ rw e (omega (arith, within, s.best))
          | inr n ↦ s.greatest j (omega (arith, h, n))
        ];
        least = s.least;
        covers = λ j h q. elim (cases_eq j m) [
          | inl e ↦ rw e (omega arith)
          | inr n ↦ omega (arith, s.covers j (omega (arith, h, n)) q)
        ];
        other = elim (cases_lt k.next (bid m)) [
          | inl more ↦ inr (m, omega arith, (λ e. omega (arith, e, s.there)), omega (arith, more))
          | inr less ↦ elim s.other [
            | inl none ↦ inr (m, omega arith, (λ e. omega (arith, e, s.there)), omega (arith, less, none.1))
            | inr o ↦ inr (o.0, omega (arith, o.1), o.2, omega (arith, less, o.3))
          ]
        ];
      })
]

all-bids : (bid : ℕ → ℕ) (n m : ℕ) (k : Kept) → SoFar bid m k → SoFar bid (m + n) (kept_all bid n m k)
all-bids bid zero m k s = let e : m + 0 ≡ m = omega arith in rw e s
all-bids bid (suc n) m k s =
    let e : m + suc n ≡ m + 1 + n = omega arith in
    rw e (all-bids bid n (m + 1) (kept_after k (bid m) (m + 1)) (one-more bid m k s))

-- of the first bid
so-far-first : (bid : ℕ → ℕ) → SoFar bid 1 (kept_first bid)
so-far-first bid = record {
  place = 0;
  counted = refl;
  there = omega arith;
  best = refl;
  greatest = λ j h. let e : j ≡ 0 = omega (arith, h) in rw e (omega arith);
  least = λ j h. absurd (omega (arith, h));
  covers = λ j h q. absurd (q (omega (arith, h)));
  other = inl (refl, refl);
}

-- the winner of the numbers that are kept
module _ (bids : List ℕ) (k : Kept) (s : SoFar (slice_index bids) (length bids) k) where
  kept-wins : IsWinner bids k.who s.place
  kept-wins = record {
    counted = s.counted;
    there = s.there;
    greatest = s.greatest;
    least = λ j h top. elim (cases_lt j s.place) [
      | inl less ↦ absurd (omega (arith, s.least j less, top s.place s.there))
      | inr past ↦ past
    ];
  }

  kept-pays : 2 ≤ length bids → IsPrice bids s.place k.next
  kept-pays many = elim s.other [
    | inl none ↦ absurd (omega (arith, none.0, many))
    | inr o ↦ record { other = o.0; there = o.1; differs = o.2; is_bid = o.3; covers = s.covers }
  ]

pub is-sale : (bids : List ℕ) (further : ℕ) → length bids ≡ further + 1 → 1 ≤ further →
    (let k = kept_of (slice_index bids) further in IsSale bids k.who k.next)
is-sale bids further count some =
    let bid = slice_index bids in
    let k = kept_of bid further in
    let e : 1 + further ≡ length bids = omega (arith, count) in
    let s : SoFar bid (length bids) k = rw e at (all-bids bid further 1 (kept_first bid) (so-far-first bid)) in
    record { place = s.place; wins = kept-wins bids k s; pays = kept-pays bids k s (omega (arith, count, some)) }

-- there is only one winner and one price
pub sale-only : (bids : List ℕ) (winner price winner' price' : ℕ) → IsSale bids winner price → IsSale bids winner' price' →
    (winner' ≡ winner) × (price' ≡ price)
sale-only bids winner price winner' price' s t =
    let down = s.wins.least t.place t.wins.there t.wins.greatest in
    let up = t.wins.least s.place s.wins.there s.wins.greatest in
    let same : t.place ≡ s.place = omega (arith, down, up) in
    let one = t.pays.covers s.pays.other s.pays.there (λ e. s.pays.differs (e ∙ same)) in
    let two = s.pays.covers t.pays.other t.pays.there (λ e. t.pays.differs (e ∙ sym same)) in
    (omega (arith, s.wins.counted, t.wins.counted, same), omega (arith, one, two, s.pays.is_bid, t.pays.is_bid))

-- a sale has two bids at least
pub sale-many : (bids : List ℕ) (winner price : ℕ) → IsSale bids winner price → 2 ≤ length bids
sale-many bids winner price s = elim (cases_lt s.pays.other s.place) [
  | inl less ↦ omega (arith, less, s.wins.there)
  | inr past ↦ omega (arith, past, s.pays.there, s.pays.differs)
]

-- whoever is kept is one of the bidders
pub kept-few : (bid : ℕ → ℕ) (further : ℕ) → (kept_of bid further).who ≤ further + 1
kept-few bid further =
    let s = all-bids bid further 1 (kept_first bid) (so-far-first bid) in
    omega (arith, s.counted, s.there)
