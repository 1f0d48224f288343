use Rattle.std.proofs.Common.{◌+◌, ◌∙◌}
use Rattle.beet_delivery.specs.Networks.{is_missing}
use Rattle.beet_five_server.specs.Network.{five}
use Rattle.beet_five_world.proofs.MissingFacts.{sum-of}
use Rattle.beet_five_world.proofs.world.FiveWorld.missing_of.Goals as goal

pub returns-clause-missing : goal.returns-clause-missing
returns-clause-missing g c = λ script o rounds x f.
    (λ i. c.missing_from.ensures.missing script o rounds x f i + c.missing_from-2.ensures.missing script o rounds x f i
    + c.missing_from-3.ensures.missing script o rounds x f i + c.missing_from-4.ensures.missing script o rounds x f i
    + c.missing_from-5.ensures.missing script o rounds x f i)
    ∙ sum-of (is_missing five rounds x) c.args.round
