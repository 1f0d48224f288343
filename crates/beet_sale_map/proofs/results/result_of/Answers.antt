use Rattle.std.proofs.Common.{◌≡◌, ◌+◌, ◌-◌, ℕ, suc, length, slice_index, refl, sym, ap, subst, ◌∙◌, arith}
use Rattle.std.proofs.lemmas.List.{length-map}
use Rattle.beet_sale_plan.specs.Kept.{Kept, kept_after}
use Rattle.beet_sale_plan.specs.Outcome.{IsSale}
use Rattle.beet_sale_plan.proofs.SaleFacts.{is-sale, kept_all, kept_of}
use Rattle.beet_sale_file.specs.declared.rows.SaleBid.{SaleBid}
use Rattle.beet_sale_map.specs.Bids.{bids_of}
use Rattle.beet_sale_map.proofs.results.result_of.Goals as goal

pub loop-i-preserved : goal.loop-i-preserved
loop-i-preserved c =
    let bid = slice_index (bids_of c.args.bids.now) in
    let i = c.loop-i.i in
    let n : ℕ = length c.args.bids.now in
    let m : ℕ = n - (i + 1) in
    let lt = c.loop-i-test.true in
    let e : n - i ≡ suc m = omega (arith, lt) in
    let k = c.loop-i.kept in
    record {
      end = refl;
      some = omega arith;
      small = c.kept_with-kept.ensures.small;
      rest = ap (kept_all bid m (i + 1))
          (c.kept_with-kept.ensures.value ∙ ap (λ b. kept_after k b (i + 1)) c.bid_at-in-loop-i.ensures.value)
          ∙ ap (λ t. kept_all bid t i k) (sym e) ∙ c.loop-i.invariant.rest;
    }

pub returns : goal.returns
returns c =
    let bids = c.args.bids.now in
    let bid = slice_index (bids_of bids) in
    let n : ℕ = length bids in
    let past = c.loop-i-test.false in
    let e : n - c.loop-i.i ≡ 0 = omega (arith, past) in
    let end : c.loop-i.kept ≡ kept_of bid (n - 1) =
    ap (λ t. kept_all bid t c.loop-i.i c.loop-i.kept) (sym e) ∙ c.loop-i.invariant.rest in
    let is : IsSale (bids_of bids) (kept_of bid (n - 1)).who (kept_of bid (n - 1)).next =
    is-sale (bids_of bids) (n - 1) (length-map bids (λ (b : SaleBid). b.bid) ∙ omega (arith, c.requires.size.some))
    (omega (arith, c.requires.size.some)) in
    subst (λ (k : Kept). IsSale (bids_of bids) k.who k.next) (sym (c.kept.view_is ∙ end)) is
