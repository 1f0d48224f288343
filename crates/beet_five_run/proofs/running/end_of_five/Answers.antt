use Rattle.std.proofs.Common.{Some, arith, ap, sym, ◌∙◌, rules}
use Rattle.std.proofs.lemmas.Option.{slice_get-get_or}
use Rattle.beet_plan.specs.FivePlan.{five_batch, most_rounds}
use Rattle.beet_five_run.specs.FiveRuns.{setup_with}
use Rattle.beet_five_run.proofs.FiveEnding.{EndsAt, ends-book, first-ends}
use Rattle.beet_five_run.proofs.FiveStarts.{opens-itself}
use Rattle.beet_five_run.proofs.running.end_of_five.Goals.{After-index-first}
use Rattle.beet_five_run.proofs.running.end_of_five.Goals as goal

pub index-first-requires : goal.index-first-requires
index-first-requires c =
    let a = c.args in
    let ended =
    c.run_among_five-cores.ensures a.script a.inputs.items a.masks.items a.coefficients.items c.in_ok-started.ensures.starts
    (setup_with five_batch a.script a.inputs.items a.masks.items a.coefficients.items)
    (opens-itself five_batch most_rounds a.script a.inputs.items a.masks.items a.coefficients.items) in
    search (rules, ended.stand.count)

-- what the first server knows
first : (c : After-index-first) →
    EndsAt (setup_with five_batch c.args.script c.args.inputs.items c.args.masks.items c.args.coefficients.items) c.args.script 1
    c.index-first.result.now
first c =
    let a = c.args in
    let o = setup_with five_batch a.script a.inputs.items a.masks.items a.coefficients.items in
    let ended =
    c.run_among_five-cores.ensures a.script a.inputs.items a.masks.items a.coefficients.items c.in_ok-started.ensures.starts o
    (opens-itself five_batch most_rounds a.script a.inputs.items a.masks.items a.coefficients.items) in
    first-ends o a.script c.run_among_five-cores.result.items c.index-first.result.now ended
    (slice_get-get_or c.run_among_five-cores.result.items 0 c.index-first.result.now (omega (arith, ended.stand.count))
    ∙ ap (λ z. Some z) (sym c.index-first.ensures))

pub run_among_five-cores-requires : goal.run_among_five-cores-requires
run_among_five-cores-requires c = record {
  script = c.args.script;
  inputs = c.args.inputs.items;
  masks = c.args.masks.items;
  coefficients = c.args.coefficients.items;
  starts = c.in_ok-started.ensures.starts;
}

pub unreachable-requires : goal.unreachable-requires
unreachable-requires c =
    let f = first (goal.at.unreachable-requires c).After-index-first in
    let some = c.finish_at.ensures.ended.1 f.ended in
    absurd (search (rules, some))

pub returns-clause-ends : goal.returns-clause-ends
returns-clause-ends c =
    let f = first (goal.at.returns-clause-ends c).After-index-first in
    ends-book c.args.script c.args.inputs.items c.args.masks.items c.args.coefficients.items c.index-first.result.now c.finish_at.result
    _ _ f c.finish_at.ensures.outcome (search rules) (search rules)
