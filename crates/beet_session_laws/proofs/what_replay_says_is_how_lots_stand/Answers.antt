use Rattle.beet_session_laws.proofs.Saying.{replays}
use Rattle.beet_session_laws.proofs.what_replay_says_is_how_lots_stand.Goals as goal

pub returns : goal.returns
returns c = λ files session servers schedule call done. replays files session servers schedule call done
