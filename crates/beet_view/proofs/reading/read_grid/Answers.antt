use Rattle.std.proofs.Common.{◌≡◌, Ok, ap, sym, ◌∙◌}
use Rattle.std.proofs.lemmas.Result.{err_from_is_err_and}
use Rattle.beet_gates.specs.declared.Gates.{Gates}
use Rattle.beet_bids.specs.Grids.{Grid}
use Rattle.beet_view.specs.Transcripts.{gates_of}
use Rattle.beet_words.proofs.Times.{first-fault}
use Rattle.beet_view.proofs.SeenFacts.{grid_at-numbers}
use Rattle.beet_view.proofs.reading.read_grid.Goals as goal

pub returns-in_err-policy-clause-grid : goal.returns-in_err-policy-clause-grid
returns-in_err-policy-clause-grid c =
    let given = err_from_is_err_and c.from_residual-in_err-policy.result c.from_residual-in_err-policy.ensures.1 in
    let numbers = grid_at-numbers c.args.bytes.now c.args.tells c.args.at c.in_ok-base.base c.in_ok-tick.tick
    c.in_ok-prices.prices c.in_ok-gates.gates _ _ _ _
    c.in_ok-base.ensures.number c.in_ok-tick.ensures.number
    c.in_ok-prices.ensures.number c.in_ok-gates.ensures.number in
    rw (numbers, given.1, given.2) (first-fault _ _ (λ read. read) (λ read. read) c.in_err-policy.field-0.0 c.in_err-policy.ensures.policy)

pub returns-clause-grid : goal.returns-clause-grid
returns-clause-grid c =
    let with_gates : Gates → Grid = λ kind. record {
      base = c.in_ok-base.base;
      tick = c.in_ok-tick.tick;
      prices = c.in_ok-prices.prices;
      gates = kind;
      policy = c.in_ok-policy.policy;
    } in
    let with_policy : Grid → Grid = λ grid. record grid { policy = c.in_ok-policy.policy } in
    let is : c.with_policy.result ≡ with_gates (gates_of c.in_ok-gates.gates) =
    c.with_policy.ensures ∙ ap with_policy c.in-Some.ensures.1 ∙ ap with_gates c.gates_of.ensures in
    grid_at-numbers c.args.bytes.now c.args.tells c.args.at c.in_ok-base.base c.in_ok-tick.tick c.in_ok-prices.prices
    c.in_ok-gates.gates _ _ _ _
    c.in_ok-base.ensures.number c.in_ok-tick.ensures.number
    c.in_ok-prices.ensures.number c.in_ok-gates.ensures.number
    ∙ rw c.in_ok-policy.ensures.policy (ap (λ (grid : Grid). Ok (grid, c.in_ok-policy.at)) (sym is))
