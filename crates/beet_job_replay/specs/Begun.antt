-- The lots of a session whose servers have begun.
use Rattle.std.specs.Prelude.{ℕ, List, [], ◌∷◌}
use Rattle.beet_field.specs.declared.trio.Trio.{Trio}
use Rattle.beet_bids.specs.Grids.{Grid}
use Rattle.beet_load.specs.Loading.{AuctionWithBidders, IsKeptOf}
use Rattle.beet_plan.specs.Auction.{Auction}
use Rattle.beet_run.specs.Runs.{Starts}
use Rattle.beet_server.specs.Cores.{Core}
use Rattle.beet_lot_files.specs.declared.session_file.LotRow.{LotRow}
use Rattle.beet_lot_load.specs.Taking.{HasTaken}
use Rattle.beet_job_replay.specs.declared.beginning.Begun.{Begun}

-- three servers begin the auction of a lot that is read, over this grid: with its words, and with points of lines with
-- the sums of its book
pub record HasBegun (grid : Grid) (cores : Trio (Core Auction)) (loaded : AuctionWithBidders) : Type 0 where
  pub inputs : Trio (List ℕ)
  pub kept : IsKeptOf (record { grid = grid; servers = loaded.servers; inputs = inputs }) loaded
  pub starts : Starts grid inputs loaded.servers cores

-- the servers of each lot that is read have begun
abbrev pub HaveBegun : List Grid → List (Trio (Core Auction)) → List AuctionWithBidders → Type 0
HaveBegun [] [] [] = Unit {0}
HaveBegun (grid ∷ grids) (cores ∷ all) (loaded ∷ lots) = HasBegun grid cores loaded × HaveBegun grids all lots
HaveBegun _ _ _ = ⊥

-- the lots have begun, by what the program keeps of them
abbrev pub HaveBegunIn : Begun → List AuctionWithBidders → Type 0
HaveBegunIn begun lots = HaveBegun begun.grids.items begun.cores.items lots

-- the lots of these rows have begun, as they are read
abbrev pub AreBegun : List LotRow → Begun → List AuctionWithBidders → Type 0
AreBegun rows begun lots = HasTaken (λ rows lots begun. HaveBegunIn begun lots) rows begun lots
