use Rattle.std.proofs.Common.{sym, subst, ◌∙◌}
use Rattle.beet_bids.specs.Curves.{IsOfGrid}
use Rattle.beet_bids.specs.Grids.{Grid}
use Rattle.beet_two_books.proofs.Marks.{place-in, same-mark}
use Rattle.beet_two_books.proofs.bidders.pair_at.Goals as goal

pub bidder_at-other-requires : goal.bidder_at-other-requires
bidder_at-other-requires c = place-in c.args.first.now c.args.second.now c.requires.marks c.args.place c.requires.place

pub returns-clause-pair : goal.returns-clause-pair
returns-clause-pair c = record {
  mark = same-mark c.args.first.now c.args.second.now c.requires.marks c.args.place c.bidder_at-one.result.now c.bidder_at-other.result.now
      c.bidder_at-one.ensures.bidder c.bidder_at-other.ensures.bidder;
  of_grid = subst (λ (g : Grid). IsOfGrid g c.bidder_at-one.result.now.curve) (sym c.grid-grid.ensures.value)
      c.bidder_at-one.ensures.of_grid;
  of_grid' = subst (λ (g : Grid). IsOfGrid g c.bidder_at-other.result.now.curve)
      (c.requires.grids ∙ sym c.grid-grid.ensures.value) c.bidder_at-other.ensures.of_grid;
}
