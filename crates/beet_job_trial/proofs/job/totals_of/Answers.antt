use Rattle.beet_errand.proofs.Frame.{exits, tested}
use Rattle.beet_job_trial.proofs.Bidders.{deals-read, holds-anyway, part-carries}
use Rattle.beet_job_trial.proofs.job.totals_of.Goals as goal

pub returns-in_err-check_three-clause-reads : goal.returns-in_err-check_three-clause-reads
returns-in_err-check_three-clause-reads g c =
    λ seen. exits c.from_residual.ensures.1
    (tested (rw (c.requires.servers, c.auction_wants.ensures) at c.in_err-check_three.ensures.tests))

pub returns-clause-reads : goal.returns-clause-reads
returns-clause-reads g c =
    λ seen. deals-read c.args.grid.now c.args.bidders
    (rw (c.requires.servers, c.auction_wants.ensures) at c.in_ok-check_three.ensures.tests) c.deal_bidders.ensures

pub returns-clause-enough : goal.returns-clause-enough
returns-clause-enough g c =
    holds-anyway _ c.deal_bidders.result (rw c.auction_wants.ensures at c.in_ok-check_three.ensures.enough)

pub returns-clause-carry : goal.returns-clause-carry
returns-clause-carry g c = part-carries c.args.grid.now 0 c.args.bidders c.deal_bidders.result c.deal_bidders.ensures
