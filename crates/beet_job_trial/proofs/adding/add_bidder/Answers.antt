use Rattle.std.proofs.Common.{◌≡◌, ◌<◌, ◌*◌, ◌^◌, ◌+◌, arith, ap, length, sym, ◌∙◌, None}
use Rattle.std.specs.Prelude.{min}
use Rattle.beet_words.specs.Words.{accepted}
use Rattle.beet_load.specs.Counts.{words_wanted}
use Rattle.beet_load.proofs.Farming.{counted-enough}
use Rattle.beet_job_trial.specs.Rules.{trial_farmer}
use Rattle.beet_job_trial.proofs.Bidders.{adds-farmer, holds-passed, same-test}
use Rattle.beet_job_trial.proofs.Curves.{is-of-grid, length-curves}
use Rattle.beet_job_trial.proofs.adding.add_bidder.Goals.{After-check_accepted}
use Rattle.beet_job_trial.proofs.adding.add_bidder.Goals as goal

pub curve_at-curve-requires : goal.curve_at-curve-requires
curve_at-curve-requires c = ap (λ l. length l) c.requires.curves ∙ length-curves c.args.grid.now

pub deal_seed-drawn-requires-clause-buy : goal.deal_seed-drawn-requires-clause-buy
deal_seed-drawn-requires-clause-buy c =
    rw (c.curve_at-curve.ensures c.args.grid.now c.requires.curves)
    ((is-of-grid c.args.grid.now c.args.i).buy_length ∙ sym c.requires.prices)

pub deal_seed-drawn-requires-clause-sell : goal.deal_seed-drawn-requires-clause-sell
deal_seed-drawn-requires-clause-sell c =
    rw (c.curve_at-curve.ensures c.args.grid.now c.requires.curves)
    ((is-of-grid c.args.grid.now c.args.i).sell_length ∙ sym c.requires.prices)

-- how many numbers of the words of the bidder are drawn
drawn : (c : After-check_accepted) → c.deal_seed-drawn.result
    ≡ min (words_wanted c.args.grid.now) (length (accepted (trial_farmer c.args.grid.now c.args.i).words))
drawn c = rw (c.seed_of.ensures, c.words_kept.ensures, c.requires.prices) at c.deal_seed-drawn.ensures.drawn

pub returns : goal.returns
returns c =
    let grid = c.args.grid.now in
    let farmer = trial_farmer grid c.args.i in
    let held = length (accepted farmer.words) in
    let fits : c.deal_seed-drawn.result < 2 ^ 32 = omega (arith, drawn c, c.words_kept.ensures, c.words_kept.type_inv) in
    record {
      tests = same-test (λ next. sym (counted-enough None (c.args.i + 1) (words_wanted grid) held next))
          (rw (c.auction_wants.ensures, drawn c) at c.check_accepted.ensures.tests);
      adds = holds-passed c.check_accepted.result (rw (c.auction_wants.ensures, drawn c) at c.check_accepted.ensures.enough)
          (λ enough.
          let all : c.deal_seed-drawn.result ≡ 2 * c.args.totals.now.prices = omega (arith, drawn c, enough, c.requires.prices) in
          adds-farmer grid farmer c.curve_at-curve.result.now c.args.totals.now c.deal_seed-drawn.new.self
          (c.curve_at-curve.ensures grid c.requires.curves) (is-of-grid grid c.args.i) (omega (arith, enough))
          (rw (c.seed_of.ensures, c.words_kept.ensures) at (c.deal_seed-drawn.ensures.sums all)) (c.deal_seed-drawn.ensures.values all));
    }
