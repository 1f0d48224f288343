-- A rehearsal of three servers that begin with points and words.
use Rattle.std.specs.Prelude.{◌≡◌, ℕ, List}
use Rattle.beet_field.specs.declared.point.Point.{Point}
use Rattle.beet_field.specs.declared.trio.Trio.{Trio}
use Rattle.beet_auction.specs.Endings.{AuctionEnds}
use Rattle.beet_auction.specs.WorldEnds.{auction_in}
use Rattle.beet_plan.specs.Auction.{Auction, auction_over}
use Rattle.beet_bids.specs.Grids.{Grid}
use Rattle.beet_load.specs.Servers.{ServerWords, masks_of}
use Rattle.beet_masking.specs.Masks.{AreMasks}
use Rattle.beet_plan.specs.declared.Finish.{Finish}
use Rattle.beet_run.specs.Runs.{setup_with}
use Rattle.beet_delivery.specs.Events.{Triple, after}
use Rattle.beet_world.specs.Worlds.{World, delivered_in}
use Rattle.beet_job_rehearse.specs.Standings.{rehearsal_of, standing_of}
use Rattle.beet_job_rehearse.specs.declared.standing.Rehearsal.{Rehearsal}
use Rattle.beet_job_rehearse.specs.declared.standing.Standing.{Standing}

-- how a server in a `World` stands is told, once it is known how its run ends
abbrev pub Tells : World Auction → Point → Standing → Type 0
Tells w s standing = (rounds : ℕ) (finish : Finish) →
    AuctionEnds w.start.one.script (auction_in w) rounds finish →
    standing ≡ standing_of finish rounds (delivered_in w) s

-- the auction over a grid with these points and words, after these events: the servers stand as the end of its run
-- tells
pub record Rehearses (grid : Grid) (inputs : Trio (List ℕ)) (words : Trio ServerWords) (events : List Triple)
    (found : Rehearsal) : Type 0 where
  pub masks : AreMasks (masks_of words)
  pub found_is : (rounds : ℕ) (finish : Finish) →
      AuctionEnds (auction_over grid) (setup_with grid inputs words) rounds finish →
      found ≡ rehearsal_of finish rounds (after rounds events)
