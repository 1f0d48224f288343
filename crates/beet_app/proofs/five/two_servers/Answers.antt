use Rattle.beet_app.proofs.TwoServers.{made-so}
use Rattle.beet_app.proofs.five.two_servers.Goals as goal

pub returns : goal.returns
returns c =
    made-so c.args.one.now c.args.other.now _ _ c.in_ok-a.ensures.server c.in_ok-b.ensures.server c.of.result c.of.ensures
