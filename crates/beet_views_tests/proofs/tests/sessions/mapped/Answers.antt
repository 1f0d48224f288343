use Rattle.std.proofs.Common.{rules}
use Rattle.beet_views_tests.proofs.tests.sessions.mapped.Goals as goal

pub session_map-requires-clause-enough : goal.session_map-requires-clause-enough
session_map-requires-clause-enough g c = c.enough_each.ensures.0 (search rules)
