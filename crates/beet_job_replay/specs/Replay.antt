-- The job `replay`: how three servers stand in each lot of a session once the messages of a schedule are delivered.
use Rattle.std.specs.Prelude.{ℕ, ◌+◌, List, [], ◌∷◌, ◌++◌, length}
use Rattle.beet_book.specs.declared.server_file.TheConstants.{SERVERS_LIMIT}
use Rattle.beet_errand.specs.Errands.{Answer, Errand, Ends, Step, gives, reads, text_answer, ◌>>=◌}
use Rattle.beet_load.specs.Loading.{AuctionWithBidders}
use Rattle.beet_world.specs.declared.schedule.TheConstants.{SCHEDULE_LIMIT}
use Rattle.beet_lots.specs.LotEvents.{of_lot}
use Rattle.beet_lots.specs.LotWorlds.{lot_triples}
use Rattle.beet_lots.specs.declared.lots.LotDelivery.{LotDelivery}
use Rattle.beet_lot_files.specs.LotSchedules.{lot_schedule_of}
use Rattle.beet_lot_files.specs.SeedFiles.{seed_servers_of}
use Rattle.beet_lot_files.specs.SessionFiles.{session_of}
use Rattle.beet_lot_files.specs.declared.session_file.LotRow.{LotRow}
use Rattle.beet_lot_files.specs.declared.session_file.TheConstants.{SESSION_LIMIT}
use Rattle.beet_lot_load.specs.Lots.{lots_errand}
use Rattle.beet_lot_load.specs.Telling.{lots_status, lots_text}
use Rattle.beet_job_rehearse.specs.Rehearse.{rehearsal_after, servers_answer}
use Rattle.beet_job_rehearse.specs.StandingTexts.{undelivered_line}
use Rattle.beet_job_rehearse.specs.declared.standing.Rehearsal.{Rehearsal}

-- how the servers of a lot stand, which is counted from 0: the events of this lot alone decide it
abbrev pub lot_rehearsal : List LotDelivery → ℕ → AuctionWithBidders → Rehearsal
lot_rehearsal deliveries lot loaded = rehearsal_after loaded (of_lot lot (lot_triples deliveries))

-- for each lot, of which the first has this number, the answer that tells of its servers alone
abbrev pub lot_answers : List LotDelivery → ℕ → List AuctionWithBidders → List Answer
lot_answers deliveries lot [] = []
lot_answers deliveries lot (loaded ∷ lots) =
    servers_answer loaded.grid (lot_rehearsal deliveries lot loaded).servers ∷ lot_answers deliveries (lot + 1) lots

-- how many messages of these lots are sent and not delivered, of which the first has this number
abbrev pub undelivered_in : List LotDelivery → ℕ → List AuctionWithBidders → ℕ
undelivered_in deliveries lot [] = 0
undelivered_in deliveries lot (loaded ∷ lots) =
    (lot_rehearsal deliveries lot loaded).undelivered + undelivered_in deliveries (lot + 1) lots

-- the answer for the lots of these rows that are read, and a schedule: the servers of each lot, and then how many
-- messages of all lots are not delivered
abbrev pub replayed : List LotRow → List AuctionWithBidders → List LotDelivery → Answer
replayed rows lots deliveries =
    let answers = lot_answers deliveries 0 lots in
    text_answer (lots_status answers) (lots_text rows answers ++ undelivered_line (undelivered_in deliveries 0 lots))

-- the whole job: the session, the seeds of the servers, then lot after lot, and last the schedule
abbrev pub replay_job : List ℕ → List ℕ → List ℕ → Step Answer
replay_job session servers schedule = do
  rows ← reads session SESSION_LIMIT session_of
  sources ← reads servers SERVERS_LIMIT seed_servers_of
  lots ← lots_errand sources rows
  deliveries ← reads schedule SCHEDULE_LIMIT (lot_schedule_of (length rows))
  gives (replayed rows lots deliveries)

-- what it does outside
abbrev pub replay_errand : List ℕ → List ℕ → List ℕ → Errand
replay_errand session servers schedule = replay_job session servers schedule Ends
