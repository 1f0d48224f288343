-- Two bids or more have the winner and the price that are told.
use Rattle.std.proofs.Common.{◌≡◌, ◌≢◌, ◌<◌, ◌≤◌, ◌+◌, ◌-◌, ◌==◌, ℕ, List, length, slice_index, take, drop, unwrap_or, refl}
use Rattle.std.proofs.Common.{sym, ap, ◌∙◌, arith, inl, inr, subst}
use Rattle.std.proofs.lemmas.Bool.{cases_lt, eq-eqb, ne_eqb}
use Rattle.std.proofs.lemmas.List.{get_or_append_left, get_or-append_right, get_or-take, get_or-drop, length-append, length-drop}
use Rattle.std.proofs.lemmas.List.{length-take}
use Rattle.std.proofs.lemmas.List.Recursion.{max_bounds, max_least}
use Rattle.beet_bids.proofs.GridFacts.{find-range_some}
use Rattle.beet_sale_plan.specs.Outcome.{IsGreatest, IsPrice, IsSale, IsWinner}
use Rattle.beet_sale_plan.proofs.SaleFacts.{is-sale, kept_of}
use Rattle.beet_sale_run.specs.Results.{all_but, greatest, price_of, winner_of, winning_place}

covers : (bids : List ℕ) (k : ℕ) → k < length bids → slice_index bids k ≤ greatest bids
covers bids k lt = max_bounds greatest (λ b. b) refl (λ b bs. refl) bids k 0 lt

least : (bids : List ℕ) (m : ℕ) → ((k : ℕ) → k < length bids → slice_index bids k ≤ m) → greatest bids ≤ m
least bids m all = max_least greatest (λ b. b) refl (λ b bs. refl) bids 0 m all

greatest-is : (bids : List ℕ) (place : ℕ) → place < length bids → IsGreatest bids place → greatest bids ≡ slice_index bids place
greatest-is bids place lt top = omega (arith, covers bids place lt, least bids (slice_index bids place) top)

-- the winner stands at the place that is told
wins : (bids : List ℕ) (winner place : ℕ) → IsWinner bids winner place → winning_place bids ≡ place
wins bids winner place w =
    let top = greatest-is bids place w.there w.greatest in
    ap (λ o. unwrap_or o 0)
    (find-range_some (λ n. slice_index bids n == greatest bids) 0 (length bids) place (omega arith) (omega (arith, w.there))
    (λ k low below. ne_eqb (slice_index bids k) (greatest bids) (λ e.
    let again : IsGreatest bids k = λ j lt. omega (arith, e, covers bids j lt) in
    absurd (omega (arith, below, w.least k (omega (arith, below, w.there)) again))))
    (eq-eqb (slice_index bids place) (greatest bids) (sym top)))

-- the bids before a place, and those behind it
before : (bids : List ℕ) (place k : ℕ) → place < length bids → k < place → slice_index (all_but place bids) k ≡ slice_index bids k
before bids place k there lt =
    let long : length (take place bids) ≡ place = omega (arith, length-take place bids, there) in
    get_or_append_left (take place bids) (drop (place + 1) bids) 0 k (omega (arith, lt, long)) ∙ get_or-take place bids k 0 lt

behind : (bids : List ℕ) (place k : ℕ) → place < length bids → place ≤ k → slice_index (all_but place bids) k ≡ slice_index bids (k + 1)
behind bids place k there le =
    let long : length (take place bids) ≡ place = omega (arith, length-take place bids, there) in
    let at : place + 1 + (k - place) ≡ k + 1 = omega (arith, le) in
    get_or-append_right (take place bids) (drop (place + 1) bids) place k 0 long le
    ∙ get_or-drop (place + 1) bids (k - place) 0 ∙ ap (slice_index bids) at

long-rest : (bids : List ℕ) (place : ℕ) → place < length bids → length (all_but place bids) + 1 ≡ length bids
long-rest bids place there =
    omega (
      arith,
      there,
      length-append (take place bids) (drop (place + 1) bids),
      length-take place bids,
      length-drop (place + 1) bids,
    )

-- its price is the greatest of the others
pays : (bids : List ℕ) (place price : ℕ) → place < length bids → IsPrice bids place price → greatest (all_but place bids) ≡ price
pays bids place price there p =
    let rest = all_but place bids in
    let long = long-rest bids place there in
    let most : greatest rest ≤ price =
    least rest price (λ k lt. elim (cases_lt k place) [
      | inl below ↦ omega (arith, before bids place k there below, p.covers k (omega (arith, lt, long)) (λ e. omega (arith, e, below)))
      | inr from ↦ omega (arith, behind bids place k there from, p.covers (k + 1) (omega (arith, lt, long)) (λ e. omega (arith, e, from)))
    ]) in
    elim (cases_lt p.other place) [
      | inl below ↦
          let at = covers rest p.other (omega (arith, below, there, long)) in
          omega (arith, most, at, before bids place p.other there below, p.is_bid)
      | inr from ↦
          let differs : p.other ≢ place = p.differs in
          let past : place < p.other = omega (arith, from, differs) in
          let back : p.other - 1 + 1 ≡ p.other = omega (arith, past) in
          let at = covers rest (p.other - 1) (omega (arith, past, p.there, long)) in
          let same = behind bids place (p.other - 1) there (omega (arith, past)) ∙ ap (slice_index bids) back in
          omega (arith, most, at, same, p.is_bid)
    ]

-- bids that have a winner and a price have these
pub told-sale : (bids : List ℕ) (winner price : ℕ) → IsSale bids winner price → (winner_of bids ≡ winner) × (price_of bids ≡ price)
told-sale bids winner price s =
    let at = wins bids winner s.place s.wins in (
      ap (λ n. n + 1) at ∙ sym s.wins.counted,
      ap (λ n. greatest (all_but n bids)) at ∙ pays bids s.place price s.wins.there s.pays,
    )

-- and two bids or more have one
pub sells-so : (bids : List ℕ) → 1 < length bids → IsSale bids (winner_of bids) (price_of bids)
sells-so bids many =
    let count : length bids ≡ length bids - 1 + 1 = omega (arith, many) in
    let k = kept_of (slice_index bids) (length bids - 1) in
    let s = is-sale bids (length bids - 1) count (omega (arith, many)) in
    let t = told-sale bids k.who k.next s in
    subst (λ w. IsSale bids w (price_of bids)) (sym t.0) (subst (IsSale bids k.who) (sym t.1) s)
