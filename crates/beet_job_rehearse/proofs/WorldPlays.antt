-- A `World` of three servers that begin an auction, after a schedule.
use Rattle.std.proofs.Common.{◌≡◌, ℕ, List, refl, sym, ◌∙◌, ap, subst}
use Rattle.beet_field.specs.declared.point.Point.TheVariants.{One, Two, Three}
use Rattle.beet_field.specs.declared.trio.Trio.{Trio}
use Rattle.beet_auction.specs.Endings.{AuctionEnds}
use Rattle.beet_plan.specs.Auction.{auction_over, Auction, auction_batch, most_rounds}
use Rattle.beet_auction.specs.Setups.{inputs_of}
use Rattle.beet_auction.specs.WorldEnds.{auction_in}
use Rattle.beet_bids.specs.Grids.{Grid}
use Rattle.beet_load.specs.Servers.{ServerWords}
use Rattle.beet_plan.specs.declared.Finish.{Finish}
use Rattle.beet_run.specs.Runs.{Starts, setup_with}
use Rattle.beet_server.specs.Cores.{Core, setup_of}
use Rattle.beet_delivery.specs.Events.{Triple, after, after_from, nothing, undelivered}
use Rattle.beet_sharing.specs.Runs.{rounds_among}
use Rattle.beet_world.specs.Marks.{unmarked}
use Rattle.beet_world.specs.Worlds.{World, delivered_in, rounds_in}
use Rattle.beet_world.proofs.MarkFacts.{set-unmarked}
use Rattle.beet_job_rehearse.specs.Rehearsing.{Rehearses, Tells}
use Rattle.beet_job_rehearse.specs.Standings.{standing_of}
use Rattle.beet_job_rehearse.specs.declared.standing.Standing.{Standing}
use Rattle.beet_field.specs.declared.point.Point.{Point}

module _ (grid : Grid) (inputs : Trio (List ℕ)) (words : Trio ServerWords) (cores : Trio (Core Auction))
    (s : Starts grid inputs words cores)
    (old new : World Auction) (events : List Triple)
    (begins : old ≡ record { start = cores; marks = unmarked (most_rounds cores.one.script) })
    (plays : delivered_in new ≡ after_from (rounds_in auction_batch inputs_of most_rounds old) (delivered_in old) events)
    (stays : new.start ≡ old.start) where
  started : new.start ≡ cores
  started = stays ∙ ap (λ w. w.start) begins

  script_is : new.start.one.script ≡ auction_over grid
  script_is = ap (λ t. t.one.script) started ∙ s.script One

  setup_is : auction_in new ≡ setup_with grid inputs words
  setup_is = ap (setup_of auction_batch inputs_of) started ∙ s.setup

  module _ (rounds : ℕ) (finish : Finish) (e : AuctionEnds (auction_over grid) (setup_with grid inputs words) rounds finish) where
    -- the run of the `World` ends so
    ends-so : AuctionEnds new.start.one.script (auction_in new) rounds finish
    ends-so =
        subst (λ a. AuctionEnds a (auction_in new) rounds finish) (sym script_is)
        (subst (λ o. AuctionEnds (auction_over grid) o rounds finish) (sym setup_is) e)

    rounds-new : rounds_in auction_batch inputs_of most_rounds new ≡ rounds
    rounds-new = ends-so.counted

    rounds-old : rounds_in auction_batch inputs_of most_rounds old ≡ rounds
    rounds-old = ap (λ t. rounds_among (setup_of auction_batch inputs_of t) (most_rounds t.one.script)) (sym stays) ∙ rounds-new

    none-before : delivered_in old ≡ nothing
    none-before = ap delivered_in begins ∙ set-unmarked (most_rounds cores.one.script)

    -- and what was delivered is the set after the events
    delivered-is : delivered_in new ≡ after rounds events
    delivered-is = plays ∙ ap (λ r. after_from r (delivered_in old) events) rounds-old ∙ ap (λ x. after_from rounds x events) none-before

    abbrev Stands : Point → Standing → Type 0
    Stands at standing = standing ≡ standing_of finish rounds (after rounds events) at

    pub stands : (at : Point) (standing : Standing) → Tells new at standing → Stands at standing
    stands at standing t = t rounds finish ends-so ∙ ap (λ x. standing_of finish rounds x at) delivered-is

    pub counts : (n : ℕ) → n ≡ undelivered (rounds_in auction_batch inputs_of most_rounds new) (delivered_in new) →
        n ≡ undelivered rounds (after rounds events)
    counts n is = is ∙ ap (λ r. undelivered r (delivered_in new)) rounds-new ∙ ap (undelivered rounds) delivered-is

  -- so the servers stand as the end of the run tells
  pub rehearses : (one two three : Standing) (n : ℕ) → Tells new One one → Tells new Two two → Tells new Three three →
      n ≡ undelivered (rounds_in auction_batch inputs_of most_rounds new) (delivered_in new) →
      Rehearses grid inputs words events (record { servers = record { one = one; two = two; three = three }; undelivered = n })
  rehearses one two three n t1 t2 t3 is = record {
    masks = s.are_masks;
    found_is = λ rounds finish e.
        rw (
          stands rounds finish e One one t1,
          stands rounds finish e Two two t2,
          stands rounds finish e Three three t3,
          counts rounds finish e n is,
        ) refl;
  }
