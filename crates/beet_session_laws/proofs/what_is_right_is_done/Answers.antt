use Rattle.beet_session_laws.proofs.Jobs.{paired, replay, session}
use Rattle.beet_session_laws.proofs.what_is_right_is_done.Goals as goal

pub returns-clause-session : goal.returns-clause-session
returns-clause-session c = λ files name servers call w can. session files call name servers w can

pub returns-clause-replay : goal.returns-clause-replay
returns-clause-replay c = λ files name servers schedule call w can. replay files call name servers schedule w can

pub returns-clause-paired : goal.returns-clause-paired
returns-clause-paired c = λ files session1 session2 servers server out call w can.
    paired files call session1 session2 servers server out can w
