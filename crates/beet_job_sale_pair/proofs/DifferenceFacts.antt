-- A refusal of two sales tells the first difference between them.
use Rattle.std.proofs.Common.{◌≡◌, ◌≢◌, ◌==◌, ◌&&◌, ℕ, true, false, List, Option, Some, None, sym, ap, ◌∙◌}
use Rattle.std.proofs.lemmas.Bool.{eq-eqb, eqb-true, and_parts, false_from_ne_true, ne_eqb}
use Rattle.beet_field.specs.declared.point.Point.{Point}
use Rattle.beet_differences.proofs.Told.{ends-none, ends-some, first-ends, first-none, first-own, first-shape}
use Rattle.beet_differences.proofs.Told.{marks-none, marks-some, own-none, own-some}
use Rattle.beet_differences.specs.Comparing.{unless_apart}
use Rattle.beet_differences.specs.Differences.{ends_between, own_between}
use Rattle.beet_view.specs.BookViews.{names}
use Rattle.beet_view.proofs.Marks.{names-is, names-own}
use Rattle.beet_sale_file.specs.declared.rows.SaleBid.{SaleBid}
use Rattle.beet_sale_map.specs.Bids.{Agree, SameOwn, SellAlike, bids_of, marks_of}
use Rattle.beet_sale_map.specs.Disagreement.{IsResult, Refuses}
use Rattle.beet_sale_map.specs.declared.results.SaleResult.{SaleResult}
use Rattle.beet_sale_map.specs.declared.agreeing.SaleFault.{SaleFault}
use Rattle.beet_sale_map.specs.declared.agreeing.SaleFault.TheVariants.{ShapeDiffers, OwnBidsDiffer, SalesDiffer, OutOfMemory}
use Rattle.beet_errand.specs.Errands.{Errand}
use Rattle.beet_sale_run.proofs.ResultFacts.{told-sale}
use Rattle.beet_job_sale_pair.specs.Differences.{difference_between, refused_text, result_of, same_result}

-- two sales go on together if there is no difference between them; else the job ends with its line
abbrev pub unless_differing : Option SaleFault → Errand → Errand
unless_differing = unless_apart refused_text

module _ (first second : List SaleBid) where
  abbrev ends : Option SaleFault
  ends = ends_between same_result SalesDiffer (result_of first) (result_of second)

  -- the first bidder that the server knows and that has another bid
  abbrev known : Point → Option ℕ
  known s = own_between (λ (bid : SaleBid). names bid.known s) (λ (one other : SaleBid). one.bid == other.bid) first second

  results-none : SellAlike first second → ends ≡ None
  results-none a =
      let one = told-sale (bids_of first) a.winner a.price a.sold in
      let other = told-sale (bids_of second) a.winner a.price a.sold' in
      let winners = eq-eqb (result_of first).winner (result_of second).winner (one.0 ∙ sym other.0) in
      let prices = eq-eqb (result_of first).price (result_of second).price (one.1 ∙ sym other.1) in
      let both : same_result (result_of first) (result_of second) ≡ true = λ i. winners i && prices i in
      ends-none same_result SalesDiffer (result_of first) (result_of second) both

  results-some : (one other : SaleResult) → IsResult first one → IsResult second other → other ≢ one →
      ends ≡ Some (SalesDiffer one other)
  results-some one other s t ne =
      let u = told-sale (bids_of first) one.winner one.price s in
      let v = told-sale (bids_of second) other.winner other.price t in
      let is_one : result_of first ≡ one = λ i. record { winner = u.0 i; price = u.1 i } in
      let is_other : result_of second ≡ other = λ i. record { winner = v.0 i; price = v.1 i } in
      let differ : same_result one other ≡ false =
      false_from_ne_true (same_result one other) (λ e.
      let b = and_parts (one.winner == other.winner) (one.price == other.price) e in
      let w = eqb-true one.winner other.winner b.0 in
      let p = eqb-true one.price other.price b.1 in
      ne (sym (λ i. record { winner = w i; price = p i }))) in
      (λ i. ends_between same_result SalesDiffer (is_one i) (is_other i)) ∙ ends-some same_result SalesDiffer one other differ

  none-known : (s : Point) → SameOwn s first second → known s ≡ None
  none-known s k = own-none _ _ first second (λ n x y e f h. eq-eqb x.bid y.bid (sym (k n x y e f (names-is x.known s h))))

-- there is none between sales that agree
pub no-difference : (s : Point) (first second : List SaleBid) → Agree s first second → difference_between s first second ≡ None
no-difference s first second a =
    first-none ShapeDiffers OwnBidsDiffer (known first second s) (ends first second)
    (marks-none (marks_of first) (marks_of second) a.shape) (none-known first second s a.own)
    (results-none first second a.results)

-- a refusal tells it
pub the-difference : (s : Point) (first second : List SaleBid) (fault : SaleFault) → Refuses s first second fault →
    difference_between s first second ≡ Some fault
the-difference s first second (ShapeDiffers bidder) (n, e, d) =
    first-shape ShapeDiffers OwnBidsDiffer (known first second s) (ends first second) n
    (marks-some (marks_of first) (marks_of second) n (λ k lt. d.before k lt) d.here)
    ∙ ap (λ b. Some (ShapeDiffers b)) (sym e)
the-difference s first second (OwnBidsDiffer bidder) (shape, (n, e, d)) =
    first-own ShapeDiffers OwnBidsDiffer (known first second s) (ends first second) n (marks-none (marks_of first) (marks_of second) shape)
    (own-some _ _ first second n d.one d.other d.is_one d.is_other (names-own d.one.known s d.known)
    (ne_eqb d.one.bid d.other.bid (λ is. d.here (sym is)))
    (λ k v w lt g i known. eq-eqb v.bid w.bid (sym (d.before k v w lt g i (names-is v.known s known)))))
    ∙ ap (λ b. Some (OwnBidsDiffer b)) (sym e)
the-difference s first second (SalesDiffer one other) (shape, same_own, (e, f, ne)) =
    first-ends ShapeDiffers OwnBidsDiffer (known first second s) (ends first second) (SalesDiffer one other)
    (marks-none (marks_of first) (marks_of second) shape)
    (none-known first second s same_own) (results-some first second one other e f ne)
the-difference s first second OutOfMemory r = absurd r
