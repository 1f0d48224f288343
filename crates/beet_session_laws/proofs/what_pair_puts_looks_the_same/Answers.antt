use Rattle.beet_session_laws.proofs.Pairing.{puts-sessions}
use Rattle.beet_session_laws.proofs.what_pair_puts_looks_the_same.Goals as goal

pub returns : goal.returns
returns c = λ files session1 session2 servers server out call done. puts-sessions files call session1 session2 servers server out done
