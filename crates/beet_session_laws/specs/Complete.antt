-- What is right for a job of the program of sessions over these files.
use Rattle.std.specs.Prelude.{◌≡◌, ℕ, List, All, Some, length}
use Rattle.beet_field.specs.Point.{server_of}
use Rattle.beet_field.specs.declared.point.Point.{Point}
use Rattle.beet_store.specs.Files.{File}
use Rattle.beet_book.specs.Farmers.{book_with}
use Rattle.beet_book.specs.declared.server_file.TheConstants.{SERVERS_LIMIT}
use Rattle.beet_world.specs.declared.schedule.TheConstants.{SCHEDULE_LIMIT}
use Rattle.beet_errand.specs.Errands.{reads}
use Rattle.beet_load.specs.Loading.{AuctionWithBidders}
use Rattle.beet_load.specs.Servers.{masks_of}
use Rattle.beet_lot_files.specs.LotSchedules.{lot_schedule_of}
use Rattle.beet_lot_files.specs.SeedFiles.{seed_servers_of}
use Rattle.beet_lot_files.specs.SessionFiles.{session_of}
use Rattle.beet_lot_files.specs.declared.session_file.TheConstants.{SESSION_LIMIT}
use Rattle.beet_lot_load.specs.Lots.{lots_errand}
use Rattle.beet_job_session_pair.specs.Reading.{both_errand, first_books}
use Rattle.beet_session_app.specs.Doing.{task_of}
use Rattle.beet_session_app.specs.Jobs.{job_of}
use Rattle.beet_app_laws.specs.Calls.{Call}
use Rattle.beet_app_laws.specs.Readings.{Read}
use Rattle.beet_completeness_laws.specs.Complete.{MasksSufficeFor}
use Rattle.beet_completeness_laws.specs.WithoutFault.{RunsTableWithoutFault}
use Rattle.beet_session_laws.specs.Pairs.{SessionsAgree}

-- a run of the program of sessions in which the outside answers every call
abbrev pub RunsSessionWithoutFault : List File → List (List ℕ) → Call → Type 0
RunsSessionWithoutFault files words call = RunsTableWithoutFault job_of task_of files words call

-- the masks suffice for the auction of a lot
abbrev pub MasksSufficeIn : AuctionWithBidders → Type 0
MasksSufficeIn lot = MasksSufficeFor (book_with lot.grid lot.farmers) (masks_of lot.servers)

-- `session`: the lots, the seeds of the servers, and of each lot its auction, its words and its bidders are read, and
-- the masks suffice in each
pub record CanRunSession (files : List File) (session servers : List ℕ) : Type 0 where
  pub rows : Read files (reads session SESSION_LIMIT session_of)
  pub sources : Read files (reads servers SERVERS_LIMIT seed_servers_of)
  pub lots : Read files (lots_errand sources.value rows.value)
  pub masks : All MasksSufficeIn lots.value

-- `replay`: so it is, and a schedule for these lots is read
pub record CanReplay (files : List File) (session servers schedule : List ℕ) : Type 0 where
  pub runs : CanRunSession files session servers
  pub deliveries : Read files (reads schedule SCHEDULE_LIMIT (lot_schedule_of (length runs.rows.value)))

-- `pair`: two sessions are read that agree for the server, and the masks suffice in each lot of the first
pub record CanPair (files : List File) (session1 session2 servers server : List ℕ) : Type 0 where
  pub s : Point
  pub server_is : server_of server ≡ Some s
  pub both : Read files (both_errand session1 session2 servers)
  pub agree : SessionsAgree s (first_books both.value) both.value.seconds
  pub masks : All MasksSufficeIn both.value.lots
