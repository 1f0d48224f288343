use Rattle.std.proofs.Common.{List, [], All, ap, subst}
use Rattle.beet_words.specs.Words.{IsWord}
use Rattle.beet_bids.specs.Grids.{Grid, IsGrid}
use Rattle.beet_view.specs.declared.view.Seen.{Seen}
use Rattle.beet_view.specs.Views.{Viewed, run_in}
use Rattle.beet_view.specs.Transcripts.{run_bytes, HasNumbers, HasElements}
use Rattle.beet_view.proofs.SeenBytes.{whole-view}
use Rattle.beet_view.proofs.writing.push_view.Goals as goal

pub returns-clause-bytes : goal.returns-clause-bytes
returns-clause-bytes c =
    let run = ap (λ (view : Viewed). run_bytes (run_in view)) c.view.view_is in
    rw (
      c.in_ok-push_run.ensures.bytes,
      c.in_ok-push_each.ensures.bytes,
      c.in_ok-push_header.ensures.bytes,
      c.requires,
      c.server.ensures.value,
      c.grid.ensures.value,
      c.bidders.ensures.value,
      c.bidders-2.ensures.value,
      run,
    )
    (whole-view [] c.args.view.now)

pub returns-clause-numbers : goal.returns-clause-numbers
returns-clause-numbers c = record {
  grid = subst (λ (grid : Grid). IsGrid grid) c.grid.ensures.value c.in_ok-push_header.ensures.grid;
  bidders = subst (λ (bidders : List Seen). All HasNumbers bidders) c.bidders-2.ensures.value c.in_ok-push_each.ensures.limits;
  masks = subst (λ (view : Viewed). All IsWord view.masks) c.view.view_is c.in_ok-push_run.ensures.masks;
  coefficients = subst (λ (view : Viewed). All IsWord view.coefficients) c.view.view_is
      c.in_ok-push_run.ensures.coefficients;
  rounds = subst (λ (view : Viewed). All HasElements view.rounds) c.view.view_is c.in_ok-push_run.ensures.rounds;
}
