use Rattle.std.proofs.Common.{refl, ◌∙◌}
use Rattle.beet_errand.proofs.Frame.{bind, exits, given, handed, stopped}
use Rattle.beet_errand.specs.Errands.{gives}
use Rattle.beet_five_load.specs.FiveWholes.{read_of}
use Rattle.beet_job_five_worlds.specs.Reading.{BothOfFive, both_errand}
use Rattle.beet_job_five_worlds.proofs.reading.load_both.Goals as goal

pub returns-in_err-whole-clause-reads : goal.returns-in_err-whole-clause-reads
unfolding both_errand
returns-in_err-whole-clause-reads g c = exits c.from_residual.ensures.1 (stopped c.in_err-whole.ensures)

pub returns-in_err-whole-2-clause-reads : goal.returns-in_err-whole-2-clause-reads
unfolding both_errand
returns-in_err-whole-2-clause-reads g c =
    let first = read_of c.in_ok-whole.whole in
    exits c.from_residual-in_err-whole-2.ensures.1
    (bind c.in_ok-whole.ensures (stopped {rest = λ second. gives {A = BothOfFive} (record { first = first; second = second })}
    (handed c.in_err-whole-2.ensures (rw c.grid.ensures.value at c.load_curves-second.ensures.reads))))

pub returns-clause-grid : goal.returns-clause-grid
returns-clause-grid g c =
    let loaded = rw c.in_ok-whole-2.ensures.1 at c.load_curves-second.ensures in
    rw c.in_ok-whole-2.ensures.0 (loaded.grid ∙ c.grid.ensures.value)

pub returns-clause-reads : goal.returns-clause-reads
unfolding both_errand
returns-clause-reads g c =
    let first = read_of c.in_ok-whole.whole in
    rw c.in_ok-whole-2.ensures.0
    (bind c.in_ok-whole.ensures (bind {rest = λ second. gives {A = BothOfFive} (record { first = first; second = second })}
    (handed c.in_ok-whole-2.ensures.1 (rw c.grid.ensures.value at c.load_curves-second.ensures.reads))
    (given refl)))
