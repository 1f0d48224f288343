-- How a server stands in the run of an auction that ends.
use Rattle.std.specs.Prelude.{◌≡◌, ◌↔◌, ℕ, Some, true}
use Rattle.beet_field.specs.declared.point.Point.{Point}
use Rattle.beet_gates.specs.Plans.{plan_finish}
use Rattle.beet_plan.specs.Auction.{Auction, auction_batch, auction_plan, most_rounds}
use Rattle.beet_plan.specs.declared.Finish.{Finish}
use Rattle.beet_server.specs.Cores.{Core, has_ended}
use Rattle.beet_delivery.specs.Events.{passed}
use Rattle.beet_sharing.specs.Runs.{Setup}
use Rattle.beet_world.specs.Worlds.{IsCoreOf, World, delivered_in, setup_in}
use Rattle.beet_auction.specs.Setups.{inputs_of}

-- the setup of a `World` that runs an auction
abbrev pub auction_in : World Auction → Setup
auction_in w = setup_in auction_batch inputs_of most_rounds w

-- this is the core of a server in a `World` that runs an auction, as it is lent after some list of events
abbrev pub IsAuctionCore : World Auction → Point → Core Auction → Type 0
IsAuctionCore w s c = IsCoreOf auction_batch inputs_of most_rounds w s c

-- in a run of so many rounds that ends with this finish, the core of a server is at the rounds that its server has
-- passed; it waits there, or has ended, exactly if these are all rounds, and then the script names this finish after
-- the numbers that it has opened
pub record StandsBy (rounds : ℕ) (finish : Finish) (w : World Auction) (s : Point) (c : Core Auction) : Type 0 where
  pub round : c.round ≡ passed rounds (delivered_in w) s
  pub ended : (has_ended auction_batch c ≡ true) ↔ (passed rounds (delivered_in w) s ≡ rounds)
  pub opens : has_ended auction_batch c ≡ true → plan_finish (auction_plan c.script) c.opened ≡ Some finish
