use Rattle.std.proofs.Common.{◌∷◌, []}
use Rattle.beet_server.proofs.server.ServerCore.out.Goals as goal

pub returns-clause-messages : goal.returns-clause-messages
returns-clause-messages g c o x fits = let sent = c.hand_out.ensures.messages o x fits in λ i. sent.to_low i ∷ sent.to_high i ∷ []
