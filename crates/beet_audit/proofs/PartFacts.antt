-- What is found of two parts of the bidders is found of both.
use Rattle.std.proofs.Common.{◌≡◌, ◌≢◌, ◌<◌, ◌+◌, ◌-◌, ◌*◌, ℕ, Option, Some, None, Result, Ok, Err, inl, inr, arith, subst, ap, sym, ◌∙◌}
use Rattle.std.proofs.Common.{List, ◌++◌}
use Rattle.std.specs.Prelude.{IfOk, IsErrAnd, length}
use Rattle.std.proofs.lemmas.Result.{err_from_is_err_and}
use Rattle.std.proofs.lemmas.Bool.{cases_lt}
use Rattle.beet_field.specs.declared.trio.Trio.{Trio}
use Rattle.beet_shamir.specs.Line.{AreElements}
use Rattle.beet_bids.specs.Grids.{Grid}
use Rattle.beet_book.specs.Dealing.{HasLengths}
use Rattle.beet_book.specs.PointSums.{AddsUp, sums_at}
use Rattle.beet_book.specs.Totals.{Totals, added, points_on}
use Rattle.beet_book.proofs.Merged.{sums-joined}
use Rattle.beet_book.proofs.PointsAdded.{added-more}
use Rattle.beet_gates.specs.Each.{each}
use Rattle.beet_gates.proofs.EachFacts.{each-append, each-more, each-same}
use Rattle.beet_view.specs.Views.{Viewed}
use Rattle.beet_audit.specs.Audits.{HaveElements, OneBidder, all_points, points_from, points_of_bidder}
use Rattle.beet_audit.specs.Parts.{JudgesPart}
use Rattle.beet_audit.specs.Verdicts.{EachBelow, Judges}
use Rattle.beet_audit.specs.declared.fault.AuditFault.{AuditFault}
use Rattle.beet_audit.specs.declared.fault.AuditFault.TheVariants.{OutOfMemory}

-- what holds of the first and of those after them holds of all
below-both : (P : ℕ → Type 0) (from few rest : ℕ) → ((k : ℕ) → k < few → P (from + k)) →
    ((k : ℕ) → k < rest → P (from + few + k)) → (k : ℕ) → k < few + rest → P (from + k)
below-both P from few rest front back k lt = elim (cases_lt k few) [
  | inl less ↦ front k less
  | inr more ↦
      let at : from + few + (k - few) ≡ from + k = omega (arith, more) in
      subst P at (back (k - few) (omega (arith, more, lt)))
]

-- the first that is wrong is one of the first, or where nothing is wrong with these, one of those after them
module _ (at : ℕ → Option AuditFault → Type 0) (from few rest : ℕ) where
  found-first : (fault : AuditFault) → EachBelow few (λ k. at (from + k)) (Some fault) →
      EachBelow (few + rest) (λ k. at (from + k)) (Some fault)
  found-first fault h = (h.0, omega (arith, h.1), h.2, h.3)

  found-second : (fault : AuditFault) → EachBelow few (λ k. at (from + k)) None →
      EachBelow rest (λ k. at (from + few + k)) (Some fault) →
      EachBelow (few + rest) (λ k. at (from + k)) (Some fault)
  found-second fault front h =
      let there : from + few + h.0 ≡ from + (few + h.0) = omega arith in (
        few + h.0,
        omega (arith, h.1),
        λ j lt. below-both (λ n. at n None) from few h.0 front h.2 j lt,
        subst (λ n. at n (Some fault)) there h.3,
      )

-- one of the bidders is wrong, and nothing is added up
pub judges-fault : (grid : Grid) (views : Trio Viewed) (from count : ℕ) (fault : AuditFault) (result : Result Totals AuditFault) →
    IsErrAnd result (λ e. e ≡ fault) →
    (fault ≢ OutOfMemory → EachBelow count (λ k. OneBidder grid.prices views (from + k)) (Some fault)) →
    JudgesPart grid views from count result
judges-fault grid views from count fault result e found =
    let p = err_from_is_err_and result e in
    rw (p.1, p.2) (record { bidders = found; elements = tt; sums = tt })

module _ (grid : Grid) (views : Trio Viewed) (from few rest : ℕ) where
  pub judges-first : (fault : AuditFault) (result : Result Totals AuditFault) → IsErrAnd result (λ e. e ≡ fault) →
      JudgesPart grid views from few (Err fault) → JudgesPart grid views from (few + rest) result
  judges-first fault result e h =
      judges-fault grid views from (few + rest) fault result e
      (λ ne. found-first (OneBidder grid.prices views) from few rest fault (h.bidders ne))

  pub judges-second : (one : Totals) (fault : AuditFault) (result : Result Totals AuditFault) → IsErrAnd result (λ e. e ≡ fault) →
      JudgesPart grid views from few (Ok one) → JudgesPart grid views (from + few) rest (Err fault) →
      JudgesPart grid views from (few + rest) result
  judges-second one fault result e h i =
      judges-fault grid views from (few + rest) fault result e
      (λ ne. found-second (OneBidder grid.prices views) from few rest fault h.bidders (i.bidders ne))

  points-joined : points_from views from (few + rest) ≡ points_from views from few ++ points_from views (from + few) rest
  points-joined =
      let at = λ (k : ℕ). points_of_bidder views (from + k) in
      each-append at few rest
      ∙ ap (λ back. each at few ++ back) (each-same (λ k. at (few + k)) (λ k. points_of_bidder views (from + few + k)) rest
      (λ k lt. let there : from + (few + k) ≡ from + few + k = omega arith in ap (points_of_bidder views) there))

  pub judges-both : (one other both : Totals) → JudgesPart grid views from few (Ok one) →
      JudgesPart grid views (from + few) rest (Ok other) → both ≡ record one { points = added one.points other.points } →
      JudgesPart grid views from (few + rest) (Ok both)
  judges-both one other both h i merged = record {
    bidders = below-both (λ n. OneBidder grid.prices views n None) from few rest h.bidders i.bidders;
    elements = below-both (λ m. (n : ℕ) → n < 2 * grid.prices → AreElements (points_on (points_of_bidder views m) n))
        from few rest h.elements i.elements;
    sums =
        let front = points_from views from few in
        let back = points_from views (from + few) rest in
        merged ∙ ap (λ (t : Totals). record t { points = added t.points other.points }) h.sums
        ∙ ap (λ (t : Totals). record { prices = grid.prices; points = added (sums_at grid.prices front) t.points }) i.sums
        ∙ ap (λ (points : Trio (List ℕ)). record { prices = grid.prices; points = points })
        (sym (sums-joined grid.prices front back) ∙ ap (sums_at grid.prices) (sym points-joined));
  }

-- what is found of all, from the first on
all-below : (P : ℕ → Type 0) (n : ℕ) → ((k : ℕ) → k < n → P (0 + k)) → (k : ℕ) → k < n → P k
all-below P n h k lt = let at : 0 + k ≡ k = omega arith in subst P at (h k lt)

pub judges-all : (grid : Grid) (views : Trio Viewed) (count : ℕ) (result : Result Totals AuditFault) →
    count ≡ length views.one.bidders → JudgesPart grid views 0 count result →
    Judges (EachBelow (length views.one.bidders) (OneBidder grid.prices views)) result
judges-all grid views count (Ok done) e h =
    subst (λ n. EachBelow n (OneBidder grid.prices views) None) e
    (all-below (λ k. OneBidder grid.prices views k None) count h.bidders)
judges-all grid views count (Err fault) e h =
    subst (λ n. Judges {T = Totals} (EachBelow n (OneBidder grid.prices views)) (Err fault)) e
    (λ ne.
    let found = h.bidders ne in
    let at : 0 + found.0 ≡ found.0 = omega arith in (
      found.0,
      found.1,
      all-below (λ k. OneBidder grid.prices views k None) found.0 found.2,
      subst (λ k. OneBidder grid.prices views k (Some fault)) at found.3,
    ))

pub elements-all : (grid : Grid) (views : Trio Viewed) (count : ℕ) (result : Result Totals AuditFault) →
    count ≡ length views.one.bidders → JudgesPart grid views 0 count result →
    IfOk result (λ totals. HaveElements grid views)
elements-all grid views count (Ok done) e h =
    let Has = λ (m : ℕ). (n : ℕ) → n < 2 * grid.prices → AreElements (points_on (points_of_bidder views m) n) in
    subst (λ n. (k : ℕ) → k < n → Has k) e (all-below Has count h.elements)
elements-all grid views count (Err fault) e h = tt

pub sums-all : (grid : Grid) (views : Trio Viewed) (count : ℕ) (result : Result Totals AuditFault) →
    count ≡ length views.one.bidders → JudgesPart grid views 0 count result →
    IfOk result (λ totals. AddsUp grid totals (all_points views))
sums-all grid views count (Ok totals) e h =
    let at = each-same (λ k. points_of_bidder views (0 + k)) (points_of_bidder views) count
    (λ k lt. let there : 0 + k ≡ k = omega arith in ap (points_of_bidder views) there) in
    h.sums ∙ ap (λ points. record { prices = grid.prices; points = sums_at grid.prices points })
    (at ∙ ap (each (points_of_bidder views)) e)
sums-all grid views count (Err fault) e h = tt

-- the sums with one bidder more
pub adds-more : (grid : Grid) (views : Trio Viewed) (before after : Totals) (from i : ℕ) →
    AddsUp grid before (points_from views from i) → HasLengths (points_of_bidder views (from + i)) (2 * grid.prices) →
    after ≡ record before { points = added before.points (points_of_bidder views (from + i)) } →
    AddsUp grid after (points_from views from (i + 1))
adds-more grid views before after from i h long a =
    let at = λ (k : ℕ). points_of_bidder views (from + k) in
    subst (AddsUp grid after) (sym (each-more at i)) (added-more grid (points_from views from i) (at i) before after h long a)
