use Rattle.std.proofs.Common.{rules, ◌≡◌, ◌≢◌, ◌≤◌, length, refl, arith}
use Rattle.std.proofs.lemmas.Option.{slice_get_read}
use Rattle.beet_bids.specs.declared.book.Bidder.{Bidder}
use Rattle.beet_map.proofs.Disagreeing.{marks-all, marks-end, marks-more}
use Rattle.beet_two_books.proofs.agreeing.other_mark.Goals as goal

pub loop-i-preserved : goal.loop-i-preserved
loop-i-preserved c =
    let bidders = c.bidders-bidders.result.now in
    let others = c.bidders-others.result.now in
    let lt = c.loop-i-test.true in
    let low : c.min-fewer.result ≤ length bidders = search rules in
    let low' : c.min-fewer.result ≤ length others = search rules in
    let same : c.index-bidders-i.result.known ≡ c.index-others-i.result.known = search rules in
    record {
      same = marks-more (λ (b : Bidder). b.known) bidders others c.loop-i.i c.index-bidders-i.result c.index-others-i.result
          (slice_get_read bidders (length bidders) c.loop-i.i c.index-bidders-i.result refl (omega (arith, lt, low)) c.index-bidders-i.is)
          (slice_get_read others (length others) c.loop-i.i c.index-others-i.result refl (omega (arith, lt, low')) c.index-others-i.is)
          same c.loop-i.invariant.same;
    }

pub returns-then-bidders-others-clause-place : goal.returns-then-bidders-others-clause-place
returns-then-bidders-others-clause-place c =
    let bidders = c.bidders-bidders.result.now in
    let others = c.bidders-others.result.now in
    let alike : length others ≡ length bidders = search rules in
    let all : length bidders ≤ c.loop-i.i = search rules in
    let whole = marks-all (λ (b : Bidder). b.known) bidders others c.loop-i.i alike all c.loop-i.invariant.same in
    rw (← c.bidders-bidders.ensures.value, ← c.bidders-others.ensures.value) whole

pub returns-else-bidders-others-clause-place : goal.returns-else-bidders-others-clause-place
returns-else-bidders-others-clause-place c =
    let bidders = c.bidders-bidders.result.now in
    let others = c.bidders-others.result.now in
    let n = c.min-fewer.result in
    let ne : length bidders ≢ length others = search rules in
    let low : n ≤ length bidders = search rules in
    let low' : n ≤ length others = search rules in
    let past : n ≤ c.loop-i.i = c.loop-i-test.false in
    let whole = marks-end (λ (b : Bidder). b.known) bidders others n ne low low' (λ lt. search rules) (λ lt. search rules)
    (λ k lt. c.loop-i.invariant.same k (omega (arith, past))) in
    rw (← c.bidders-bidders.ensures.value, ← c.bidders-others.ensures.value) whole
