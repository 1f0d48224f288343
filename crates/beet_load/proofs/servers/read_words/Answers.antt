use Rattle.std.proofs.Common.{None, refl}
use Rattle.beet_errand.specs.Errands.{gives}
use Rattle.beet_errand.proofs.Frame.{bind, exits, given, stopped}
use Rattle.beet_load.proofs.servers.read_words.Goals as goal

pub returns-in_err-servers-in-Three-clause-reads : goal.returns-in_err-servers-in-Three-clause-reads
returns-in_err-servers-in-Three-clause-reads g c =
    rw c.in-Three.is (exits c.from_residual.ensures.1 (stopped {
    rest = λ servers. gives (record { servers = servers; bidders = None })} c.in_err-servers-in-Three.ensures.reads))

pub returns-in_ok-servers-in-Three-clause-reads : goal.returns-in_ok-servers-in-Three-clause-reads
returns-in_ok-servers-in-Three-clause-reads g c = rw c.in-Three.is (bind {
    rest = λ servers. gives (record { servers = servers; bidders = None })} c.in_ok-servers-in-Three.ensures.reads (given refl))

pub returns-in-Bundle-clause-reads : goal.returns-in-Bundle-clause-reads
returns-in-Bundle-clause-reads g c = rw c.in-Bundle.is c.read_bundled.ensures.reads
