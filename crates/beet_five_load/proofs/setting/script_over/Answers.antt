use Rattle.std.proofs.Common.{refl}
use Rattle.beet_five_load.proofs.Gating.{are-chains, chains-pass, trees-stop}
use Rattle.beet_five_load.proofs.setting.script_over.Goals as goal

pub returns-in-Some-clause-chains : goal.returns-in-Some-clause-chains
returns-in-Some-clause-chains c = are-chains c.args.grid.now.gates c.in-Some.ensures.refused.1

pub returns-in-Some-clause-tests : goal.returns-in-Some-clause-tests
returns-in-Some-clause-tests c =
    chains-pass c.args.auction.now c.args.grid.now.gates
    (are-chains c.args.grid.now.gates c.in-Some.ensures.refused.1)

pub returns-in-None-clause-tests : goal.returns-in-None-clause-tests
returns-in-None-clause-tests c =
    trees-stop c.args.auction.now c.args.grid.now.gates _ (c.in-None.ensures.refused.0 refl) c.refuse.ensures
