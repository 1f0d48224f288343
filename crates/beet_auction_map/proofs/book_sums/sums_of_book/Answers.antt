use Rattle.std.proofs.Common.{◌≡◌, ◌<◌, ◌*◌, ◌++◌, length, take, drop, get_or, ap, ◌∙◌, arith}
use Rattle.std.proofs.Math.Seq.{take-append_seam}
use Rattle.beet_bids.specs.Grids.{Grid}
use Rattle.beet_auction_map.proofs.BookSumFacts.{bidder-summed, first-elements, none-summed}
use Rattle.beet_auction_map.proofs.book_sums.sums_of_book.Goals as goal

pub loop-bidder-init : goal.loop-bidder-init
loop-bidder-init c =
    c.in_ok-sums.ensures.items_if_clones_equal (λ y e. e) ∙ none-summed c.args.book.now (2 * c.prices.result)
    (omega (arith, c.prices.ensures.value, ap (λ (x : Grid). x.prices) c.grid.ensures.value))

pub add_curve-requires-clause-room : goal.add_curve-requires-clause-room
add_curve-requires-clause-room c =
    let now = c.deref_mut.ensures.value ∙ c.loop-bidder.invariant in
    rw now (first-elements c.args.book.now c.loop-bidder.bidder-index c.grid.ensures.limits
    (omega (arith, ap length c.bidders-bidder-items.ensures.value)))

pub loop-bidder-preserved : goal.loop-bidder-preserved
loop-bidder-preserved c =
    let book = c.args.book.now in
    let i = c.loop-bidder.bidder-index in
    let bidder = c.bidder-item.result in
    let before = c.deref_mut.result.now in
    let after = c.add_curve.new.sums in
    let rest = c.loop-bidder.sums.items in
    let same = c.deref_mut.ensures.value in
    let added = c.add_curve.ensures in
    let len : c.loop-bidder.sums.len ≡ length after =
    omega (arith, c.loop-bidder.sums.ok.0, added.same_length, ap length same) in
    let kept : take c.loop-bidder.sums.len (after ++ drop (length after) rest) ≡ after =
    rw len (take-append_seam after (drop (length after) rest)) in
    let lt : i < length book.bidders = omega (arith, ap length c.bidders-bidder-items.ensures.value) in
    let is = c.bidder-item.is ∙ ap (λ l. get_or l i bidder) c.bidders-bidder-items.ensures.value in
    kept ∙ bidder-summed book i bidder before after c.grid.ensures.limits lt is (same ∙ c.loop-bidder.invariant)
    added.same_length added.added
