use Rattle.beet_job_tally.specs.Tally.{tally_job}
use Rattle.beet_errand.proofs.Frame.{bind, bound, exits, given, no_memory, passed, stopped, tested}
use Rattle.beet_job_tally.proofs.Tallying.{tells-sums, two-wires}
use Rattle.beet_job_tally.proofs.tally.Goals as goal

pub returns-in_err-grid-clause-reads : goal.returns-in_err-grid-clause-reads
unfolding tally_job
returns-in_err-grid-clause-reads g c = exits c.from_residual.ensures.1 (stopped c.in_err-grid.ensures)

pub returns-in_err-check_one_price-clause-reads : goal.returns-in_err-check_one_price-clause-reads
unfolding tally_job
returns-in_err-check_one_price-clause-reads g c =
    exits c.from_residual-in_err-check_one_price.ensures.1 (bind c.in_ok-grid.ensures (tested c.in_err-check_one_price.ensures.tests))

pub returns-in_err-entries-clause-reads : goal.returns-in_err-entries-clause-reads
unfolding tally_job
returns-in_err-entries-clause-reads g c =
    exits c.from_residual-in_err-entries.ensures.1 (bind c.in_ok-grid.ensures (passed c.in_ok-check_one_price.ensures.tests
    (stopped c.in_err-entries.ensures.reads)))

pub returns-in_err-add_farmers-clause-reads : goal.returns-in_err-add_farmers-clause-reads
unfolding tally_job
returns-in_err-add_farmers-clause-reads g c =
    exits c.from_residual-in_err-add_farmers.ensures.1 (bind c.in_ok-grid.ensures (passed c.in_ok-check_one_price.ensures.tests
    (bind c.in_ok-entries.ensures.reads (stopped (rw c.as_slice.ensures.value at c.in_err-add_farmers.ensures)))))

pub returns-in_err-text-clause-reads : goal.returns-in_err-text-clause-reads
unfolding tally_job
returns-in_err-text-clause-reads g c =
    exits c.from_residual-in_err-text.ensures.1 (bind c.in_ok-grid.ensures (passed c.in_ok-check_one_price.ensures.tests
    (bind c.in_ok-entries.ensures.reads (bound (rw c.as_slice.ensures.value at c.in_ok-add_farmers.ensures) (λ farmers are. no_memory)))))

pub returns-clause-reads : goal.returns-clause-reads
unfolding tally_job
returns-clause-reads g c =
    bind c.in_ok-grid.ensures (passed c.in_ok-check_one_price.ensures.tests (bind c.in_ok-entries.ensures.reads
    (bound (rw c.as_slice.ensures.value at c.in_ok-add_farmers.ensures) (λ farmers are. given
    (rw (
      c.of_text.ensures,
      c.in_ok-text.ensures,
      c.value-supply.ensures.value,
      c.open.ensures,
      c.value-demand.ensures.value,
      c.open-2.ensures,
    )
    (tells-sums c.in_ok-grid.grid c.in_ok-entries.entries.items _ farmers c.inputs-inputs.result
    c.in_ok-check_one_price.ensures.one c.in_ok-entries.ensures.few are
    c.inputs-inputs.ensures.values))))))

pub open-requires-clause-lengths : goal.open-requires-clause-lengths
open-requires-clause-lengths g c =
    two-wires _ _ _ _ _ c.in_ok-check_one_price.ensures.one c.in_ok-add_farmers.ensures.gives.1 c.inputs-inputs.ensures.points

pub open-requires-2-clause-lengths : goal.open-requires-2-clause-lengths
open-requires-2-clause-lengths g c =
    two-wires _ _ _ _ _ c.in_ok-check_one_price.ensures.one c.in_ok-add_farmers.ensures.gives.1 c.inputs-inputs.ensures.points
