use Rattle.std.proofs.Common.{refl, ◌∙◌}
use Rattle.std.proofs.lemmas.Result.{err_from_is_err_and}
use Rattle.beet_errand.proofs.Frame.{bind, given, handed, stopped}
use Rattle.beet_errand.specs.Errands.{gives}
use Rattle.beet_job_worlds.specs.Reading.{Both, both_errand}
use Rattle.beet_job_worlds.proofs.JobSteps.{answered-both, both_of, unread}
use Rattle.beet_load.specs.WholeViews.{loaded_of}
use Rattle.beet_job_worlds.proofs.two_worlds.worlds.Goals as goal

pub returns-in_err-whole : goal.returns-in_err-whole
unfolding both_errand
returns-in_err-whole g c =
    let files = c.args.files.now in
    let p = err_from_is_err_and c.from_residual.result c.from_residual.ensures.1 in
    rw (p.1, p.2) (unread files.auction.now files.servers.now files.first.now files.second.now c.args.server files.out.now
    (stopped c.in_err-whole.ensures))

pub returns-in_err-whole-2 : goal.returns-in_err-whole-2
unfolding both_errand
returns-in_err-whole-2 g c =
    let p = err_from_is_err_and c.from_residual-in_err-whole-2.result c.from_residual-in_err-whole-2.ensures.1 in
    let first = loaded_of c.in_ok-whole.whole in
    let files = c.args.files.now in
    rw (p.1, p.2) (unread files.auction.now files.servers.now files.first.now files.second.now c.args.server files.out.now
    (bind c.in_ok-whole.ensures (stopped {rest = λ second. gives {A = Both} (record { first = first; second = second })}
    (handed c.in_err-whole-2.ensures (rw c.grid.ensures.value at c.load_curves-second.ensures.reads)))))

pub returns : goal.returns
unfolding both_errand
returns g c =
    let files = c.args.files.now in
    let whole = c.in_ok-whole.whole in
    let second = c.in_ok-whole-2.second in
    let is = c.in_ok-whole-2.ensures.0 in
    let loaded = rw c.in_ok-whole-2.ensures.1 at c.load_curves-second.ensures in
    answered-both files.auction.now files.servers.now files.first.now files.second.now c.args.server files.out.now
    whole second (loaded.grid ∙ c.grid.ensures.value) c.answer_both.result
    (bind c.in_ok-whole.ensures (bind {rest = λ second. gives {A = Both} (record { first = loaded_of whole; second = second })}
    (handed c.in_ok-whole-2.ensures.1 (rw c.grid.ensures.value at c.load_curves-second.ensures.reads))
    (given {value = both_of whole second} refl)))
    (rw is at c.answer_both.ensures)
