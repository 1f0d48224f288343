use Rattle.std.proofs.Common.{ℕ, List, Vec, Global, Err, refl, arith, subst}
use Rattle.std.proofs.lemmas.Result.{err_from_is_err_and}
use Rattle.beet_forms.specs.Faults.{Answers}
use Rattle.beet_words.specs.Bundles.{words_at}
use Rattle.beet_words.proofs.Times.{first-fault}
use Rattle.beet_view.specs.Views.{Viewed}
use Rattle.beet_view.proofs.SeenFacts.{words_at-few, bidders_at-are, rounds_at-are, view_fits, view_in-bidders}
use Rattle.beet_view.proofs.reading.read_parts.Goals as goal

pub returns-in_err-masks-clause-view : goal.returns-in_err-masks-clause-view
returns-in_err-masks-clause-view c =
    let p = err_from_is_err_and c.from_residual-in_err-masks.result c.from_residual-in_err-masks.ensures.1 in
    let bidders = view_in-bidders c.args.bytes.now _ _ _ _ _ _ _ _ c.in_ok-tells.ensures.form
    c.in_ok-server.ensures.server c.in_ok-grid.ensures.grid c.in_ok-bidders.ensures.bidders in
    let masks = subst (λ n. Answers (λ (read : List ℕ × ℕ). read) (words_at c.args.bytes.now n c.in_ok-bidders.at)
    (Err c.in_err-masks.field-0.0))
    c.masks_kept.ensures c.in_err-masks.ensures.list in
    rw (bidders, p.1, p.2)
    (first-fault _ _ (λ (read : List ℕ × ℕ). read) (λ (view : Viewed). view) c.in_err-masks.field-0.0 masks)

pub returns-in_err-coefficients-clause-view : goal.returns-in_err-coefficients-clause-view
returns-in_err-coefficients-clause-view c =
    let p = err_from_is_err_and c.from_residual-in_err-coefficients.result c.from_residual-in_err-coefficients.ensures.1 in
    let bidders = view_in-bidders c.args.bytes.now _ _ _ _ _ _ _ _ c.in_ok-tells.ensures.form
    c.in_ok-server.ensures.server c.in_ok-grid.ensures.grid c.in_ok-bidders.ensures.bidders in
    let masks = rw c.masks_kept.ensures at c.in_ok-masks.ensures.list in
    let coefficients = subst (λ n. Answers (λ (read : List ℕ × ℕ). read) (words_at c.args.bytes.now n c.in_ok-masks.at)
    (Err c.in_err-coefficients.field-0.0))
    c.coefficients_kept.ensures c.in_err-coefficients.ensures.list in
    rw (bidders, masks, p.1, p.2)
    (first-fault _ _ (λ (read : List ℕ × ℕ). read) (λ (view : Viewed). view) c.in_err-coefficients.field-0.0 coefficients)

pub returns-in_err-rounds-clause-view : goal.returns-in_err-rounds-clause-view
returns-in_err-rounds-clause-view c =
    let p = err_from_is_err_and c.from_residual-in_err-rounds.result c.from_residual-in_err-rounds.ensures.1 in
    let bidders = view_in-bidders c.args.bytes.now _ _ _ _ _ _ _ _ c.in_ok-tells.ensures.form
    c.in_ok-server.ensures.server c.in_ok-grid.ensures.grid c.in_ok-bidders.ensures.bidders in
    let masks = rw c.masks_kept.ensures at c.in_ok-masks.ensures.list in
    let coefficients = rw c.coefficients_kept.ensures at c.in_ok-coefficients.ensures.list in
    rw (bidders, masks, coefficients, p.1, p.2)
    (first-fault _ _ (λ (read : Vec (List ℕ × List ℕ) Global × ℕ). (read.0.items, read.1))
    (λ (view : Viewed). view) c.in_err-rounds.field-0.0 c.in_err-rounds.ensures.rounds)

pub returns-in_err-read_end-clause-view : goal.returns-in_err-read_end-clause-view
returns-in_err-read_end-clause-view c =
    let p = err_from_is_err_and c.from_residual-in_err-read_end.result c.from_residual-in_err-read_end.ensures.1 in
    let bidders = view_in-bidders c.args.bytes.now _ _ _ _ _ _ _ _ c.in_ok-tells.ensures.form
    c.in_ok-server.ensures.server c.in_ok-grid.ensures.grid c.in_ok-bidders.ensures.bidders in
    let masks = rw c.masks_kept.ensures at c.in_ok-masks.ensures.list in
    let coefficients = rw c.coefficients_kept.ensures at c.in_ok-coefficients.ensures.list in
    rw (bidders, masks, coefficients, c.in_ok-rounds.ensures.rounds, p.1, p.2)
    (first-fault _ _ (λ (done : Unit {0}). done) (λ (view : Viewed). view) c.in_err-read_end.field-0.0 c.in_err-read_end.ensures)

pub returns-clause-view : goal.returns-clause-view
returns-clause-view c =
    let bidders = view_in-bidders c.args.bytes.now _ _ _ _ _ _ _ _ c.in_ok-tells.ensures.form
    c.in_ok-server.ensures.server c.in_ok-grid.ensures.grid c.in_ok-bidders.ensures.bidders in
    let masks = rw c.masks_kept.ensures at c.in_ok-masks.ensures.list in
    let coefficients = rw c.coefficients_kept.ensures at c.in_ok-coefficients.ensures.list in
    rw (bidders, masks, coefficients, c.in_ok-rounds.ensures.rounds, c.in_ok-read_end.ensures) refl

pub invariant_of-result : goal.invariant_of-result
invariant_of-result c =
    let bytes = c.args.bytes.now in
    let grid = c.in_ok-grid.grid in
    let bidders = bidders_at-are bytes _ grid _ _ (c.in_ok-grid.ensures.limits).prices_some c.in_ok-bidders.ensures.bidders in
    let rounds = rounds_at-are bytes _ _ c.in_ok-rounds.ensures.rounds in
    record { few = bidders.few; seen = λ k d h. (bidders.each k d h).at_server; rounds = omega (arith, rounds.few) }

pub returns-clause-fits : goal.returns-clause-fits
returns-clause-fits c =
    let bytes = c.args.bytes.now in
    let grid = c.in_ok-grid.grid in
    let bidders = bidders_at-are bytes _ grid _ _ (c.in_ok-grid.ensures.limits).prices_some c.in_ok-bidders.ensures.bidders in
    let rounds = rounds_at-are bytes _ _ c.in_ok-rounds.ensures.rounds in
    let masks = words_at-few bytes _ _ _ c.in_ok-masks.ensures.list in
    let coefficients = words_at-few bytes _ _ _ c.in_ok-coefficients.ensures.list in
    let view : Viewed = record {
      server = c.in_ok-server.server;
      grid = grid;
      bidders = c.in_ok-bidders.bidders.items;
      masks = c.in_ok-masks.masks;
      coefficients = c.in_ok-coefficients.coefficients;
      rounds = c.in_ok-rounds.rounds.items;
    } in
    view_fits view bidders (omega (arith, masks, c.masks_kept.ensures)) (omega (arith, coefficients, c.coefficients_kept.ensures)) rounds
