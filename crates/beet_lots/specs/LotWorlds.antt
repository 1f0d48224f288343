-- How contracts see a `World` for each lot.
use Rattle.std.specs.Prelude.{◌≡◌, ℕ, List, map, length, slice_get, slice_set, Some}
use Rattle.beet_field.specs.Trio.{member}
use Rattle.beet_field.specs.declared.point.Point.{Point}
use Rattle.beet_field.specs.declared.trio.Trio.{Trio}
use Rattle.beet_gates.specs.declared.Batch.{Batch}
use Rattle.beet_server.specs.Cores.{Core, setup_of}
use Rattle.beet_server.specs.Fits.{Fits}
use Rattle.beet_sharing.specs.Runs.{rounds_among}
use Rattle.beet_delivery.specs.Events.{Triple, after, after_from, deliver, passed, undelivered}
use Rattle.beet_world.specs.Happens.{event_of}
use Rattle.beet_world.specs.Marks.{unmarked}
use Rattle.beet_world.specs.Worlds.{World, delivered_in, rounds_in, triple_of}
use Rattle.beet_world.specs.declared.world.Event.{Event}
use Rattle.beet_world.specs.declared.world.Event.TheVariants.{NotSent}
use Rattle.beet_lots.specs.LotEvents.{LotTriple, of_lot}
use Rattle.beet_lots.specs.declared.lots.LotDelivery.{LotDelivery}

-- a `World` of fresh servers, in which nothing is delivered
abbrev pub begun : {S : Type 0} → (S → ℕ) → Trio (Core S) → World S
begun most cores = record { start = cores; marks = unmarked (most cores.one.script) }

-- a delivery as the name of its message
abbrev pub lot_triple_of : LotDelivery → LotTriple
lot_triple_of d = record { lot = d.lot; triple = triple_of d.delivery }

-- the messages of deliveries, in order
abbrev pub lot_triples : List LotDelivery → List LotTriple
lot_triples schedule = map lot_triple_of schedule

module _ {S : Type 0} (next : S → ℕ → List ℕ → Batch) (inputs most : S → ℕ) where
  -- a lot after an event in it
  pub record HappensTo (before changed : World S) (e : Triple) (event : Event) : Type 0 where
    pub delivered : delivered_in changed ≡ deliver (rounds_in next inputs most before) (delivered_in before) e
    pub start : changed.start ≡ before.start
    pub told : event ≡ event_of (rounds_in next inputs most before) (delivered_in before) e
    pub unchanged : event ≡ NotSent → changed ≡ before

  -- lots after an event in one of them: it changes that lot alone
  pub record HappensIn (old new : List (World S)) (lot : ℕ) (e : Triple) (event : Event) : Type 0 where
    pub before : World S
    pub changed : World S
    pub is : slice_get old lot ≡ Some before
    pub happens : HappensTo before changed e event
    pub alone : new ≡ slice_set old lot changed

  -- a lot after a list of its events
  pub record PlaysTo (before now : World S) (es : List Triple) : Type 0 where
    pub delivered : delivered_in now ≡ after_from (rounds_in next inputs most before) (delivered_in before) es
    pub start : now.start ≡ before.start

  -- lots after a list of events: in each lot those messages are delivered that its own events deliver
  pub record PlaysIn (old new : List (World S)) (es : List LotTriple) : Type 0 where
    pub many : length new ≡ length old
    pub each : (lot : ℕ) (before now : World S) → slice_get old lot ≡ Some before → slice_get new lot ≡ Some now →
        PlaysTo before now (of_lot lot es)

  -- how many messages of a lot are sent and not delivered
  abbrev pub undelivered_of : World S → ℕ
  undelivered_of w = undelivered (rounds_in next inputs most w) (delivered_in w)

  -- the number of rounds of the run that three servers begin
  abbrev pub rounds_from : Trio (Core S) → ℕ
  rounds_from opening = rounds_among (setup_of next inputs opening) (most opening.one.script)

  -- a lot that began with these servers, and the core of one of them: after these events of the lot it has the script
  -- and the words that it began with, fits the run of this lot and what these events deliver, and is at the rounds that
  -- its server has passed by it
  pub record StandsAlone (opening : Trio (Core S)) (es : List Triple) (w : World S) (s : Point) (c : Core S) :
      Type 0 where
    pub start : w.start ≡ opening
    pub delivered : delivered_in w ≡ after (rounds_from opening) es
    pub name : c.me ≡ s
    pub script : c.script ≡ opening.one.script
    pub masks : c.masks.words ≡ (member opening s).masks.words
    pub coefficients : c.coefficients.words ≡ (member opening s).coefficients.words
    pub fits : Fits next (setup_of next inputs opening) (after (rounds_from opening) es) c
    pub round : c.round ≡ passed (rounds_from opening) (after (rounds_from opening) es) s
