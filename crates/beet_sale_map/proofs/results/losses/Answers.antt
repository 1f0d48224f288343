use Rattle.std.proofs.Common.{◌≡◌, ◌+◌, ◌-◌, ℕ, suc, List, [], ◌∷◌, ◌++◌, map, length, slice_index, refl, sym, ap, ◌∙◌, arith}
use Rattle.std.proofs.Common.{append_assoc}
use Rattle.std.specs.Prelude.{min}
use Rattle.std.specs.List.{zip}
use Rattle.beet_sale_plan.specs.Kept.{kept_after, compared_from}
use Rattle.beet_sale_map.specs.Bids.{bids_of}
use Rattle.beet_sale_map.specs.Losses.{lost}
use Rattle.beet_sale_map.proofs.results.losses.Goals as goal

pub loop-i-preserved : goal.loop-i-preserved
loop-i-preserved c =
    let b = slice_index (bids_of c.args.first.now) in
    let b' = slice_index (bids_of c.args.second.now) in
    let i = c.loop-i.i in
    let n : ℕ = length c.args.first.now in
    let m : ℕ = n - (i + 1) in
    let lt = c.loop-i-test.true in
    let e : n - i ≡ suc m = omega (arith, lt) in
    let here = c.loop-i.here in
    let there = c.loop-i.there in
    let old = c.loop-i.losses.items in
    let one = c.bid_at-one.ensures.value in
    let other = c.bid_at-other.ensures.value in
    let kept = c.kept_with-here.ensures.value ∙ ap (λ x. kept_after here x (i + 1)) one in
    let kept' = c.kept_with-there.ensures.value ∙ ap (λ x. kept_after there x (i + 1)) other in
    let rest : List ℕ = map lost (zip (compared_from b m (i + 1) (kept_after here (b i) (i + 1)))
    (compared_from b' m (i + 1) (kept_after there (b' i) (i + 1)))) in
    record {
      end = refl;
      some = omega arith;
      small = c.kept_with-here.ensures.small;
      small' = c.kept_with-there.ensures.small;
      so_far = (λ j. c.in_ok-push_losses.ensures j
          ++ map lost (zip (compared_from b m (i + 1) (kept j)) (compared_from b' m (i + 1) (kept' j))))
          ∙ (λ j. (old ++ lost ((here.best, one j), (there.best, other j))
          ∷ lost ((here.next, min here.best (one j)), (there.next, min there.best (other j))) ∷ []) ++ rest)
          ∙ append_assoc old (lost ((here.best, b i), (there.best, b' i))
          ∷ lost ((here.next, min here.best (b i)), (there.next, min there.best (b' i))) ∷ []) rest
          ∙ ap (λ t. old ++ map lost (zip (compared_from b t i here) (compared_from b' t i there))) (sym e)
          ∙ c.loop-i.invariant.so_far;
    }
