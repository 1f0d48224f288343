use Rattle.std.proofs.Common.{ap, refl, ◌∙◌}
use Rattle.std.proofs.lemmas.Result.{err_from_is_err_and}
use Rattle.beet_errand.proofs.Frame.{bind, given, handed, stopped}
use Rattle.beet_errand.specs.Errands.{gives}
use Rattle.beet_differences.proofs.Comparing.{compared-does, unread-does}
use Rattle.beet_sale_load.specs.SaleLoading.{SaleRead}
use Rattle.beet_job_sale_pair.specs.Reading.{Both, both_errand}
use Rattle.beet_job_sale_pair.specs.Differences.{refused_text}
use Rattle.beet_job_sale_pair.specs.Ending.{ShowsBoth, difference_read}
use Rattle.beet_job_sale_pair.proofs.SaleAnswers.{answered-done}
use Rattle.beet_job_sale_pair.proofs.pairing.pair.Goals as goal

pub returns-in_err-first : goal.returns-in_err-first
unfolding both_errand
returns-in_err-first g c =
    let files = c.args.files.now in
    let p = err_from_is_err_and c.from_residual.result c.from_residual.ensures.1 in
    rw (p.1, p.2) (unread-does refused_text (difference_read c.args.server)
    (both_errand files.first.now files.second.now files.servers.now) (ShowsBoth c.args.server files.out.now)
    (stopped c.in_err-first.ensures))

pub returns-in_err-first-2 : goal.returns-in_err-first-2
unfolding both_errand
returns-in_err-first-2 g c =
    let files = c.args.files.now in
    let p = err_from_is_err_and c.from_residual-in_err-first-2.result c.from_residual-in_err-first-2.ensures.1 in
    let first = c.in_ok-first.first in
    let gates = c.gates.ensures ∙ ap (λ (w : SaleRead). w.sale.gates) c.first.view_is in
    rw (p.1, p.2) (unread-does refused_text (difference_read c.args.server)
    (both_errand files.first.now files.second.now files.servers.now) (ShowsBoth c.args.server files.out.now)
    (bind c.in_ok-first.ensures (stopped {rest = λ second. gives {A = Both} (record { first = first; second = second })}
    (handed c.in_err-first-2.ensures (rw gates at c.load_second-second.ensures.reads)))))

pub returns : goal.returns
unfolding both_errand
returns g c =
    let first = c.in_ok-first.first in
    let gates = c.gates.ensures ∙ ap (λ (w : SaleRead). w.sale.gates) c.first.view_is in
    let second = c.in_ok-first-2.second in
    let is = c.in_ok-first-2.ensures.0 in
    let both : Both = record { first = first; second = second } in
    let answers = rw is at c.answer_both-reply.ensures in
    let files = c.args.files.now in
    compared-does refused_text (difference_read c.args.server) (both_errand files.first.now files.second.now files.servers.now)
    (ShowsBoth c.args.server files.out.now) both c.answer_both-reply.result
    (bind c.in_ok-first.ensures (bind {rest = λ second. gives {A = Both} (record { first = first; second = second })}
    (handed c.in_ok-first-2.ensures.1 (rw gates at c.load_second-second.ensures.reads))
    (given {value = both} refl)))
    (answered-done c.args.server files.out.now first second c.answer_both-reply.result answers) answers
