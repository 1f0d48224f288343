use Rattle.std.proofs.Common.{◌≡◌, ◌<◌, ◌+◌, ◌++◌, ℕ, [], map, length, slice_index}
use Rattle.std.proofs.Common.{refl, sym, ap, ◌∙◌, arith, append-nil}
use Rattle.std.proofs.lemmas.List.{get_or_default}
use Rattle.beet_bids.specs.Grids.{Grid}
use Rattle.beet_bids.specs.Sums.{supply_at, demand_at}
use Rattle.beet_bids.proofs.BookSums.{length-sums}
use Rattle.beet_gates.specs.Each.{each}
use Rattle.beet_gates.proofs.EachFacts.{each-zero}
use Rattle.beet_shamir.specs.declared.Line.{Line}
use Rattle.beet_auction_map.proofs.BookSumFacts.{supply-read, demand-read}
use Rattle.beet_auction_map.proofs.InputFacts.{lines-more}
use Rattle.beet_auction_map.proofs.inputs.lines_with.Goals as goal

pub index-requires : goal.index-requires
index-requires c =
    let prices = c.prices-prices.ensures.value ∙ ap (λ (x : Grid). x.prices) c.grid.ensures.value in
    let long = ap length c.in_ok-sums.ensures ∙ length-sums c.args.book.now in
    omega (arith, prices, long, c.in_ok-sums.sums.ok.0, c.loop-place-test.true)

pub index-requires-in-loop-place-2 : goal.index-requires-in-loop-place-2
index-requires-in-loop-place-2 c =
    let prices = c.prices-prices.ensures.value ∙ ap (λ (x : Grid). x.prices) c.grid.ensures.value in
    let long = ap length c.in_ok-sums.ensures ∙ length-sums c.args.book.now in
    omega (arith, prices, long, c.in_ok-sums.sums.ok.0, c.loop-place-2-test.true)

pub loop-place-init : goal.loop-place-init
loop-place-init c = record {
  values = ap (map (λ (x : Line). x.value)) c.in_ok-lines.ensures.items ∙ sym (each-zero (supply_at c.args.book.now.bidders));
  slopes = ap (map (λ (x : Line). x.slope)) c.in_ok-lines.ensures.items
      ∙ sym (each-zero (λ k. slice_index c.args.slopes.now (c.prices-prices.result + k)));
}

pub loop-place-preserved : goal.loop-place-preserved
loop-place-preserved c =
    let inv = c.loop-place.invariant in
    let f = supply_at c.args.book.now.bidders in
    let k = c.loop-place.place in
    let g : ℕ → ℕ = λ n. slice_index c.args.slopes.now (c.prices-prices.result + n) in
    let prices = c.prices-prices.ensures.value ∙ ap (λ (x : Grid). x.prices) c.grid.ensures.value in
    let place : k < c.args.book.now.grid.prices = omega (arith, prices, c.loop-place-test.true) in
    let within : c.prices-prices.result + k < length c.args.slopes.now = omega (arith, c.requires, prices, place) in
    let value = supply-read c.args.book.now c.grid.ensures.limits c.in_ok-sums.sums.items c.in_ok-sums.ensures k k
    c.index.result.now c.reduce_u64-value.result place c.index.ensures c.reduce_u64-value.ensures refl in
    let more = lines-more c.loop-place.lines.items c.push.new.self.items [] [] f g k c.reduce_u64-value.result
    c.index-slopes-prices.result inv.values inv.slopes c.in_ok-push.ensures.items value
    (c.index-slopes-prices.is ∙ get_or_default c.args.slopes.now (c.prices-prices.result + k) c.index-slopes-prices.result 0 within) in
    record { values = more.0; slopes = more.1 }

pub loop-place-2-init : goal.loop-place-2-init
loop-place-2-init c =
    let inv = c.loop-place.invariant in
    let f = supply_at c.args.book.now.bidders in
    let g : ℕ → ℕ = λ n. slice_index c.args.slopes.now (c.prices-prices.result + n) in
    let end : c.loop-place.place ≡ c.prices-prices.result = omega (arith, c.loop-place.auto.place-end, c.loop-place-test.false) in
    record {
      values = inv.values ∙ ap (each f) end ∙ sym (append-nil (each f c.prices-prices.result))
          ∙ ap (λ l. each f c.prices-prices.result ++ l) (sym (each-zero (demand_at c.args.book.now.bidders)));
      slopes = inv.slopes ∙ ap (each g) end ∙ sym (append-nil (each g c.prices-prices.result))
          ∙ ap (λ l. each g c.prices-prices.result ++ l) (sym (each-zero (slice_index c.args.slopes.now)));
    }

pub loop-place-2-preserved : goal.loop-place-2-preserved
loop-place-2-preserved c =
    let inv = c.loop-place-2.invariant in
    let f = demand_at c.args.book.now.bidders in
    let k = c.loop-place-2.place in
    let g : ℕ → ℕ = λ n. slice_index c.args.slopes.now (c.prices-prices.result + n) in
    let prices = c.prices-prices.ensures.value ∙ ap (λ (x : Grid). x.prices) c.grid.ensures.value in
    let place : k < c.args.book.now.grid.prices = omega (arith, prices, c.loop-place-2-test.true) in
    let within : k < length c.args.slopes.now = omega (arith, c.requires, prices, place) in
    let value = demand-read c.args.book.now c.grid.ensures.limits c.in_ok-sums.sums.items c.in_ok-sums.ensures
    (c.prices-prices.result + k) k c.index-in-loop-place-2.result.now c.reduce_u64-value-in-loop-place-2.result place
    c.index-in-loop-place-2.ensures c.reduce_u64-value-in-loop-place-2.ensures (ap (λ n. n + k) prices) in
    let more = lines-more c.loop-place-2.lines.items c.push-in-loop-place-2.new.self.items
    (each (supply_at c.args.book.now.bidders) c.prices-prices.result) (each g c.prices-prices.result)
    f (slice_index c.args.slopes.now) k c.reduce_u64-value-in-loop-place-2.result c.index-slopes-place.result
    inv.values inv.slopes c.in_ok-push-2.ensures.items value
    (c.index-slopes-place.is ∙ get_or_default c.args.slopes.now k c.index-slopes-place.result 0 within) in
    record { values = more.0; slopes = more.1 }

pub returns-clause-values : goal.returns-clause-values
returns-clause-values c =
    let f = supply_at c.args.book.now.bidders in
    let g = demand_at c.args.book.now.bidders in
    let end : c.loop-place-2.place ≡ c.prices-prices.result = omega (arith, c.loop-place-2.auto.place-end, c.loop-place-2-test.false) in
    let all = c.prices-prices.ensures.value ∙ ap (λ (x : Grid). x.prices) c.grid.ensures.value in
    c.loop-place-2.invariant.values ∙ ap (λ k. each f c.prices-prices.result ++ each g k) end ∙ ap (λ k. each f k ++ each g k) all

pub returns-clause-slopes : goal.returns-clause-slopes
returns-clause-slopes c =
    let f = slice_index c.args.slopes.now in
    let end : c.loop-place-2.place ≡ c.prices-prices.result = omega (arith, c.loop-place-2.auto.place-end, c.loop-place-2-test.false) in
    let all = c.prices-prices.ensures.value ∙ ap (λ (x : Grid). x.prices) c.grid.ensures.value in
    c.loop-place-2.invariant.slopes ∙ ap (λ n. each (λ k. f (c.prices-prices.result + k)) c.prices-prices.result ++ each f n) end
    ∙ ap (λ n. each (λ k. f (n + k)) n ++ each f n) all
