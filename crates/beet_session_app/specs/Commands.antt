-- The errand of a command whose words are read.
use Rattle.beet_errand.specs.Errands.{Errand}
use Rattle.beet_job_session.specs.Sessions.{session_errand}
use Rattle.beet_job_replay.specs.Replay.{replay_errand}
use Rattle.beet_session_app.specs.declared.commands.LotsCommand.{LotsCommand}
use Rattle.beet_session_app.specs.declared.commands.LotsCommand.TheVariants.{Session, Replay}

-- the errand of a command with these words
abbrev pub errand_for : LotsCommand → Errand
errand_for (Session files) = session_errand files.session.now files.servers.now
errand_for (Replay files schedule) = replay_errand files.session.now files.servers.now schedule.now
