use Rattle.std.proofs.Common.{◌≡◌, ◌<◌, ◌+◌, ◌∷◌, ◌++◌, [], ℕ, suc, List, Some, length, slice_get, take, refl, ap, sym, ◌∙◌, subst, arith}
use Rattle.std.proofs.lemmas.List.{take_all}
use Rattle.std.proofs.lemmas.Option.{slice_get-get_or}
use Rattle.beet_book.specs.Farmers.{BidderWithWords, farmers_of}
use Rattle.beet_five_dealing.specs.FiveTotals.{HasDealtFive}
use Rattle.beet_five_dealing.proofs.FiveSums.{farmers-next, length-farmers}
use Rattle.beet_five_dealing.proofs.summing.five_inputs.Goals as goal

pub loop-k-preserved : goal.loop-k-preserved
loop-k-preserved c =
    let bidders = c.args.bidders.now in
    let words : List (List ℕ) = c.args.words.now in
    let k = c.loop-k.k in
    let bidder = c.index-bidders-k.result in
    let list : List ℕ = c.index-words-k.result in
    let lt : k < length bidders = omega (arith, c.loop-k-test.true) in
    let within : k < length words = omega (arith, lt, c.requires.count) in
    let front = take k (farmers_of bidders words) in
    let next : suc k ≡ k + 1 = omega arith in
    record {
      dealt = subst (λ (fs : List BidderWithWords). HasDealtFive c.args.grid.now fs c.deal.new.self)
          (ap (λ (l : List ℕ). front ++ record { bidder = bidder; words = l } ∷ []) c.as_slice.ensures.value
          ∙ farmers-next bidders words k bidder list c.requires.count
          (slice_get-get_or bidders k bidder lt ∙ ap (λ z. Some z) (sym c.index-bidders-k.is))
          (slice_get-get_or words k list within ∙ ap (λ z. Some z) (sym c.index-words-k.is))
          ∙ ap (λ n. take n (farmers_of bidders words)) next)
          (c.deal.ensures.dealt c.args.grid.now front bidder refl c.loop-k.invariant.dealt);
    }

pub returns : goal.returns
returns c =
    let fs = farmers_of c.args.bidders.now c.args.words.now in
    let long = length-farmers c.args.bidders.now c.args.words.now c.requires.count in
    c.in_ok-lists.ensures c.args.grid.now fs
    (subst (λ (l : List BidderWithWords). HasDealtFive c.args.grid.now l c.loop-k.totals)
    (take_all c.loop-k.k fs (omega (arith, long, c.loop-k-test.false))) c.loop-k.invariant.dealt)
