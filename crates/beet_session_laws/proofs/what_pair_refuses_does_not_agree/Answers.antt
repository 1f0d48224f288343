use Rattle.beet_session_laws.proofs.Pairing.{refuses-sessions}
use Rattle.beet_session_laws.proofs.what_pair_refuses_does_not_agree.Goals as goal

pub returns : goal.returns
returns c = λ files session1 session2 servers server out both call ran read e.
    refuses-sessions files call session1 session2 servers server out both ran read e
