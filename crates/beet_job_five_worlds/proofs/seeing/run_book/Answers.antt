use Rattle.std.proofs.Common.{ap, ◌∙◌}
use Rattle.beet_book.specs.Farmers.{farmers_of}
use Rattle.beet_plan.specs.FivePlan.{five_over}
use Rattle.beet_five_dealing.specs.FiveTotals.{five_inputs_of}
use Rattle.beet_five_dealing.specs.FiveWords.{FiveWords}
use Rattle.beet_five_run.proofs.BookStarts.{can-begin}
use Rattle.beet_job_five_worlds.proofs.SeenCores.{book-run}
use Rattle.beet_job_five_worlds.proofs.seeing.run_book.Goals as goal

pub start_five-requires : goal.start_five-requires
start_five-requires c =
    let lists = c.as_slice.ensures.value ∙ ap (λ (w : FiveWords). w.bidders) c.words.view_is in
    let script = c.script_over.ensures ∙ ap five_over c.grid-grid.ensures.value in
    let inputs = c.in_ok-inputs.ensures
    ∙ (λ j. five_inputs_of (c.grid-grid.ensures.value j) (farmers_of (c.bidders.ensures.value j) (lists j))) in
    let masks = c.in_ok-masks.ensures ∙ c.as_slice-2.ensures.value ∙ ap (λ (w : FiveWords). w.masks) c.words.view_is in
    let coefficients =
    c.in_ok-coefficients.ensures ∙ c.as_slice-3.ensures.value ∙ ap (λ (w : FiveWords). w.coefficients) c.words.view_is in
    rw (script, inputs, masks, coefficients) (can-begin c.args.book.now c.args.words.now c.requires.runs c.requires.few)

pub run_among_five-requires : goal.run_among_five-requires
run_among_five-requires c = record {
  script = c.script_over.result;
  inputs = c.in_ok-inputs.inputs.items;
  masks = c.in_ok-masks.masks.items;
  coefficients = c.in_ok-coefficients.coefficients.items;
  starts = c.in_ok-started.ensures.starts;
}

pub returns-clause-ended : goal.returns-clause-ended
returns-clause-ended c =
    let lists = c.as_slice.ensures.value ∙ ap (λ (w : FiveWords). w.bidders) c.words.view_is in
    let script = c.script_over.ensures ∙ ap five_over c.grid-grid.ensures.value in
    let inputs = c.in_ok-inputs.ensures
    ∙ (λ j. five_inputs_of (c.grid-grid.ensures.value j) (farmers_of (c.bidders.ensures.value j) (lists j))) in
    let masks = c.in_ok-masks.ensures ∙ c.as_slice-2.ensures.value ∙ ap (λ (w : FiveWords). w.masks) c.words.view_is in
    let coefficients =
    c.in_ok-coefficients.ensures ∙ c.as_slice-3.ensures.value ∙ ap (λ (w : FiveWords). w.coefficients) c.words.view_is in
    book-run c.args.book.now c.args.words.now _ _ _ _ _ script inputs masks coefficients
    (c.run_among_five.ensures c.script_over.result c.in_ok-inputs.inputs.items c.in_ok-masks.masks.items
    c.in_ok-coefficients.coefficients.items c.in_ok-started.ensures.starts)
