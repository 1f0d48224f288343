use Rattle.std.proofs.Common.{subst, sym}
use Rattle.beet_link.specs.Ends.{IsNext}
use Rattle.beet_station.specs.Stations.{HasHeard}
use Rattle.beet_station.proofs.Hearing.{fits-heard}
use Rattle.beet_station.proofs.station.hear.Given.{Over}
use Rattle.beet_station.proofs.station.hear.Goals.{After-deliver-verdict}
use Rattle.beet_station.proofs.station.hear.Goals as goal

-- the core has heard the message that was taken
heard : (g : Over) (c : After-deliver-verdict g) →
    HasHeard g.S.Script.batch_of c.args.core.now c.deliver-verdict.new.self c.args.from.now c.deliver-verdict.result
heard g c = record {
  message = c.deref.result.now;
  is_next = subst (IsNext c.args.from.now) (sym c.deref.ensures) c.wait-message.ensures.0;
  answers = c.deliver-verdict.ensures.verdict;
  fits = c.deliver-verdict.ensures.fits;
}

pub returns-clause-heard : goal.returns-clause-heard
returns-clause-heard g c = heard g (goal.at.returns-clause-heard g c).After-deliver-verdict

pub returns-clause-fits : goal.returns-clause-fits
returns-clause-fits g c =
    fits-heard g.S.Script.batch_of c.args.core.now c.deliver-verdict.new.self c.args.from.now c.deliver-verdict.result
    (heard g (goal.at.returns-clause-fits g c).After-deliver-verdict)
