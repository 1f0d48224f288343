use Rattle.std.proofs.Common.{◌≡◌, [], rules, subst, sym}
use Rattle.beet_five_dealing.specs.FiveTotals.{FiveTotals, HasDealtFive, no_totals}
use Rattle.beet_five_dealing.proofs.FiveSums.{none-dealt}
use Rattle.beet_five_dealing.proofs.summing.FiveTotals.new.Goals as goal

pub returns-clause-begins : goal.returns-clause-begins
returns-clause-begins c =
    let totals : FiveTotals = record {
      prices = c.prices-prices.result;
      sums = record {
        one = c.in_ok-vec.field-0.items;
        two = c.in_ok-vec-2.field-0.items;
        three = c.in_ok-vec-3.field-0.items;
        four = c.in_ok-vec-4.field-0.items;
        five = c.in_ok-vec-5.field-0.items;
      };
    } in
    let same : totals ≡ no_totals c.args.grid.now.prices = search rules in
    subst (HasDealtFive c.args.grid.now []) (sym same) (none-dealt c.args.grid.now)
