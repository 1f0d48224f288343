use Rattle.std.proofs.Common.{ℕ, Bool, sym, ◌∙◌, ap, Ok}
use Rattle.std.proofs.lemmas.Result.{err_from_is_err_and}
use Rattle.beet_gates.specs.declared.Gates.{Gates}
use Rattle.beet_bids.specs.Grids.{Grid}
use Rattle.beet_bids.specs.declared.outcomes.Policy.{Policy}
use Rattle.beet_bids.proofs.AuctionRows.{five-taken}
use Rattle.beet_bids.proofs.LineFacts.{part_read, part_refused, row_passes, row_refuses}
use Rattle.beet_bids.proofs.auction_file.read_grid.Goals as goal

pub returns-in_err-tells : goal.returns-in_err-tells
returns-in_err-tells c =
    let p = err_from_is_err_and c.from_residual.result c.from_residual.ensures.1 in
    rw (p.1, p.2) (row_refuses 1 _ _ _ _ (λ (tells : Bool). tells)
    (λ (grid : Grid). grid) c.in_err-tells.field-0.0 c.in_err-tells.ensures.reads)

pub returns-in_err-base : goal.returns-in_err-base
returns-in_err-base c =
    let p = err_from_is_err_and c.from_residual-in_err-base.result c.from_residual-in_err-base.ensures.1 in
    let fault = c.in_err-base.field-0.0 in
    let is1 = c.in_ok-tells.ensures.row in
    rw (is1, p.1, p.2)
    (row_passes 1 _ _ c.in_ok-tells.tells _ _ fault (rw is1 at c.in_ok-tells.ensures.reads)
    (row_refuses 2 _ _ _ _ (λ (n : ℕ). n) (λ (grid : Grid). grid) fault c.in_err-base.ensures.reads))

pub returns-in_err-tick : goal.returns-in_err-tick
returns-in_err-tick c =
    let p = err_from_is_err_and c.from_residual-in_err-tick.result c.from_residual-in_err-tick.ensures.1 in
    let fault = c.in_err-tick.field-0.0 in
    let is1 = c.in_ok-tells.ensures.row in
    let is2 = c.in_ok-base.ensures.row in
    rw (is1, is2, p.1, p.2)
    (row_passes 1 _ _ c.in_ok-tells.tells _ _ fault (rw is1 at c.in_ok-tells.ensures.reads)
    (row_passes 2 _ _ c.in_ok-base.base _ _ fault (rw is2 at c.in_ok-base.ensures.reads)
    (row_refuses 3 _ _ _ _ (λ (n : ℕ). n) (λ (grid : Grid). grid) fault c.in_err-tick.ensures.reads)))

pub returns-in_err-prices : goal.returns-in_err-prices
returns-in_err-prices c =
    let p = err_from_is_err_and c.from_residual-in_err-prices.result c.from_residual-in_err-prices.ensures.1 in
    let fault = c.in_err-prices.field-0.0 in
    let is1 = c.in_ok-tells.ensures.row in
    let is2 = c.in_ok-base.ensures.row in
    let is3 = c.in_ok-tick.ensures.row in
    rw (is1, is2, is3, p.1, p.2)
    (row_passes 1 _ _ c.in_ok-tells.tells _ _ fault (rw is1 at c.in_ok-tells.ensures.reads)
    (row_passes 2 _ _ c.in_ok-base.base _ _ fault (rw is2 at c.in_ok-base.ensures.reads)
    (row_passes 3 _ _ c.in_ok-tick.tick _ _ fault (rw is3 at c.in_ok-tick.ensures.reads)
    (row_refuses 4 _ _ _ _ (λ (n : ℕ). n) (λ (grid : Grid). grid) fault c.in_err-prices.ensures.reads))))

pub returns-in_err-gates : goal.returns-in_err-gates
returns-in_err-gates c =
    let p = err_from_is_err_and c.from_residual-in_err-gates.result c.from_residual-in_err-gates.ensures.1 in
    let fault = c.in_err-gates.field-0.0 in
    let is1 = c.in_ok-tells.ensures.row in
    let is2 = c.in_ok-base.ensures.row in
    let is3 = c.in_ok-tick.ensures.row in
    let is4 = c.in_ok-prices.ensures.row in
    rw (is1, is2, is3, is4, p.1, p.2)
    (row_passes 1 _ _ c.in_ok-tells.tells _ _ fault (rw is1 at c.in_ok-tells.ensures.reads)
    (row_passes 2 _ _ c.in_ok-base.base _ _ fault (rw is2 at c.in_ok-base.ensures.reads)
    (row_passes 3 _ _ c.in_ok-tick.tick _ _ fault (rw is3 at c.in_ok-tick.ensures.reads)
    (row_passes 4 _ _ c.in_ok-prices.prices _ _ fault (rw is4 at c.in_ok-prices.ensures.reads)
    (row_refuses 5 _ _ _ _ (λ (gates : Gates). gates) (λ (grid : Grid). grid) fault c.in_err-gates.ensures.reads)))))

pub returns-in_err-policy : goal.returns-in_err-policy
returns-in_err-policy c =
    let p = err_from_is_err_and c.from_residual-in_err-policy.result c.from_residual-in_err-policy.ensures.1 in
    rw (five-taken _ _ _ _ _ _ _ _ _ _ _ c.in_ok-tells.ensures.row c.in_ok-base.ensures.row c.in_ok-tick.ensures.row
    c.in_ok-prices.ensures.row c.in_ok-gates.ensures.row
    c.in_ok-tells.tells c.in_ok-base.base c.in_ok-tick.tick c.in_ok-prices.prices c.in_ok-gates.gates
    c.in_ok-tells.ensures.reads c.in_ok-base.ensures.reads c.in_ok-tick.ensures.reads c.in_ok-prices.ensures.reads
    c.in_ok-gates.ensures.reads)
    (rw (p.1, p.2) (part_refused {B = Grid} {T = Policy} _ _ _ (λ policy. policy) c.in_err-policy.field-0.0 c.in_err-policy.ensures))

pub returns : goal.returns
returns c =
    let whole : Policy → Grid = λ policy.
    record {
      base = c.in_ok-base.base;
      tick = c.in_ok-tick.tick;
      prices = c.in_ok-prices.prices;
      gates = c.in_ok-gates.gates;
      policy = policy;
    } in
    five-taken _ _ _ _ _ _ _ _ _ _ _ c.in_ok-tells.ensures.row c.in_ok-base.ensures.row c.in_ok-tick.ensures.row
    c.in_ok-prices.ensures.row c.in_ok-gates.ensures.row
    c.in_ok-tells.tells c.in_ok-base.base c.in_ok-tick.tick c.in_ok-prices.prices c.in_ok-gates.gates
    c.in_ok-tells.ensures.reads c.in_ok-base.ensures.reads c.in_ok-tick.ensures.reads c.in_ok-prices.ensures.reads
    c.in_ok-gates.ensures.reads
    ∙ part_read _ _ c.in_ok-policy.policy whole c.in_ok-policy.ensures ∙ ap Ok (sym
    (c.with_policy.ensures ∙ ap (λ (grid : Grid). record grid { policy = c.in_ok-policy.policy }) c.in-Some.ensures.1))
