-- How a server in a `World` stands, once it is known how its run ends.
use Rattle.std.proofs.Common.{◌≡◌, ◌≢◌, ◌==◌, ℕ, Some, true, false, true≢false, sym, ◌∙◌, ap, arith}
use Rattle.std.proofs.lemmas.Grind.{common_steps}
use Rattle.beet_field.specs.declared.point.Point.{Point}
use Rattle.beet_auction.specs.Endings.{AuctionEnds}
use Rattle.beet_auction.specs.WorldEnds.{IsAuctionCore, StandsBy, auction_in}
use Rattle.beet_auction.proofs.WorldEnds.{stands-by}
use Rattle.beet_gates.specs.Plans.{plan_finish}
use Rattle.beet_plan.specs.Auction.{Auction, auction_batch, auction_plan}
use Rattle.beet_plan.specs.declared.Finish.{Finish}
use Rattle.beet_run.specs.Runs.{HasEndedRun}
use Rattle.beet_server.specs.Cores.{Core, has_ended}
use Rattle.beet_delivery.specs.Events.{passed}
use Rattle.beet_world.specs.Worlds.{World, delivered_in}
use Rattle.beet_job_rehearse.specs.Standings.{standing_of}
use Rattle.beet_job_rehearse.specs.declared.standing.Standing.TheVariants.{Waiting, Ended}
use Rattle.std.proofs.lemmas.Option.{same_Some}

is_not : (n m : ℕ) → n ≢ m → (n == m) ≡ false
is_not n m h = grind (arith, common_steps)

pub is_same : (n m : ℕ) → n ≡ m → (n == m) ≡ true
is_same n m h = grind (arith, common_steps)

-- a server that has ended is one of a run that has ended
pub has-ended-run : (w : World Auction) (s : Point) (c : Core Auction) → IsAuctionCore w s c →
    has_ended auction_batch c ≡ true → HasEndedRun c
has-ended-run w s c h over = record {
  setup = auction_in w;
  delivered = delivered_in w;
  fits = h.fits;
  ended = over;
}

module _ (w : World Auction) (s : Point) (c : Core Auction) (h : IsAuctionCore w s c) (rounds : ℕ) (finish : Finish)
    (e : AuctionEnds w.start.one.script (auction_in w) rounds finish) where
  stands : StandsBy rounds finish w s c
  stands = stands-by w s c h rounds finish e

  -- it waits in the round that it has not passed
  pub waits : has_ended auction_batch c ≡ false → Waiting c.round ≡ standing_of finish rounds (delivered_in w) s
  waits goes =
      let test : (passed rounds (delivered_in w) s == rounds) ≡ false =
      is_not (passed rounds (delivered_in w) s) rounds (λ all. true≢false (sym (stands.ended.1 all) ∙ goes)) in
      rw test (ap Waiting stands.round)

  -- or it has ended with the finish that the script names after the numbers that it has opened
  pub ends : has_ended auction_batch c ≡ true → (found : Finish) → plan_finish (auction_plan c.script) c.opened ≡ Some found →
      Ended found ≡ standing_of finish rounds (delivered_in w) s
  ends over found named =
      let test : (passed rounds (delivered_in w) s == rounds) ≡ true =
      is_same (passed rounds (delivered_in w) s) rounds (stands.ended.0 over) in
      rw test (ap Ended (same_Some _ _ (sym named ∙ stands.opens over)))
