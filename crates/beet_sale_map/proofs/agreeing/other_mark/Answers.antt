use Rattle.std.proofs.Common.{rules, ◌≡◌, ◌≢◌, ◌≤◌, length, arith}
use Rattle.beet_map.proofs.Disagreeing.{marks-all, marks-end, marks-more}
use Rattle.beet_sale_file.specs.declared.rows.SaleBid.{SaleBid}
use Rattle.beet_sale_map.proofs.agreeing.other_mark.Goals as goal

pub loop-i-preserved : goal.loop-i-preserved
loop-i-preserved c =
    let same : c.row_at-one.result.known ≡ c.row_at-other.result.known = search rules in
    record {
      same = marks-more (λ (b : SaleBid). b.known) c.args.first.now c.args.second.now c.loop-i.i c.row_at-one.result
          c.row_at-other.result c.row_at-one.ensures c.row_at-other.ensures same c.loop-i.invariant.same;
    }

pub returns-then-first-second-clause-place : goal.returns-then-first-second-clause-place
returns-then-first-second-clause-place c =
    let first = c.args.first.now in
    let second = c.args.second.now in
    let alike : length second ≡ length first = search rules in
    let all : length first ≤ c.loop-i.i = search rules in
    marks-all (λ (b : SaleBid). b.known) first second c.loop-i.i alike all c.loop-i.invariant.same

pub returns-else-first-second-clause-place : goal.returns-else-first-second-clause-place
returns-else-first-second-clause-place c =
    let first = c.args.first.now in
    let second = c.args.second.now in
    let n = c.min-fewer.result in
    let ne : length first ≢ length second = search rules in
    let low : n ≤ length first = search rules in
    let low' : n ≤ length second = search rules in
    let past : n ≤ c.loop-i.i = c.loop-i-test.false in
    marks-end (λ (b : SaleBid). b.known) first second n ne low low' (λ lt. search rules) (λ lt. search rules)
    (λ k lt. c.loop-i.invariant.same k (omega (arith, past)))
