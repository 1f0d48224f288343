-- What each lot is after events of all lots.
use Rattle.std.proofs.Common.{◌≡◌, ◌==◌, ℕ, Bool, true, false, List, [], ◌∷◌, ◌++◌, map, Some, refl, sym, ap, ◌∙◌, subst, get_or}
use Rattle.std.proofs.Common.{slice_get, arith}
use Rattle.std.specs.Prelude.{option_map}
use Rattle.std.proofs.lemmas.Option.{slice_get-get_or, slice_get-map, slice_get_within}
use Rattle.beet_field.specs.Trio.{member}
use Rattle.beet_field.specs.declared.point.Point.{Point}
use Rattle.beet_field.specs.declared.trio.Trio.{Trio}
use Rattle.beet_bids.specs.Books.{IsBook}
use Rattle.beet_bids.specs.Grids.{Grid}
use Rattle.beet_book.specs.Farmers.{BidderWithWords, book_with}
use Rattle.beet_gates.specs.declared.Batch.{Batch}
use Rattle.beet_plan.specs.Auction.{Auction, auction_batch, auction_over, most_rounds}
use Rattle.beet_masking.specs.Masks.{AreMasks}
use Rattle.beet_server.specs.Cores.{Core, setup_of}
use Rattle.beet_server.specs.Fits.{Fits}
use Rattle.beet_delivery.specs.Events.{Delivered, Triple, after, after_from, passed}
use Rattle.beet_delivery.proofs.NetworkFacts.{after_append}
use Rattle.beet_delivery.proofs.ThreeServers.{three-is}
use Rattle.beet_world.specs.Worlds.{IsCoreOf, World, delivered_in, rounds_in}
use Rattle.beet_world.specs.declared.world.Event.{Event}
use Rattle.beet_world.proofs.MarkFacts.{set-unmarked}
use Rattle.beet_auction.specs.Endings.{book_finish, book_rounds}
use Rattle.beet_auction.specs.Setups.{book_setup, inputs_of}
use Rattle.beet_auction.specs.WorldEnds.{IsAuctionCore, StandsBy}
use Rattle.beet_auction.proofs.WorldEnds.{stands-by-bids}
use Rattle.beet_lots.specs.LotEvents.{LotTriple, of_lot}
use Rattle.beet_lots.specs.LotWorlds.{HappensIn, PlaysIn, StandsAlone, begun, rounds_from}
use Rattle.beet_lots.proofs.LotFacts.{plays-all, plays-more, plays-none, same-rounds}

-- the events of a lot in two lists, one after the other
of_lot-append : (lot : ℕ) (es more : List LotTriple) → of_lot lot (es ++ more) ≡ of_lot lot es ++ of_lot lot more
of_lot-append lot [] more = refl
of_lot-append lot (e ∷ es) more = go (lot == e.lot) refl (of_lot-append lot es more) where
  go : (b : Bool) → (lot == e.lot) ≡ b → of_lot lot (es ++ more) ≡ of_lot lot es ++ of_lot lot more →
      of_lot lot (e ∷ (es ++ more)) ≡ of_lot lot (e ∷ es) ++ of_lot lot more
  go true is rest = rw is (ap (λ l. e.triple ∷ l) rest)
  go false is rest = rw is rest

module _ {S : Type 0} (next : S → ℕ → List ℕ → Batch) (inputs most : S → ℕ) where
  -- one event
  pub plays-one : (old new : List (World S)) (lot : ℕ) (e : Triple) (event : Event) → HappensIn next inputs most old new lot e event →
      PlaysIn next inputs most old new (record { lot = lot; triple = e } ∷ [])
  plays-one old new lot e event h =
      let all : List LotTriple = record { lot = lot; triple = e } ∷ [] in
      plays-all next inputs most old new all
      (plays-more next inputs most old old new (record { lot = lot; triple = e }) [] all event (plays-none next inputs most old all) h)

  -- two lists of events, one after the other
  pub plays-both : (old now new : List (World S)) (es more : List LotTriple) → PlaysIn next inputs most old now es →
      PlaysIn next inputs most now new more → PlaysIn next inputs most old new (es ++ more)
  plays-both old now new es more p q = record {
    many = q.many ∙ p.many;
    each = λ lot before last at held.
        let lt = slice_get_within old lot before at in
        let many = p.many in
        let mid : World S = get_or now lot before in
        let there : slice_get now lot ≡ Some mid = slice_get-get_or now lot before (omega (arith, lt, many)) in
        let first = p.each lot before mid at there in
        let second = q.each lot mid last there held in
        let rounds = same-rounds next inputs most before mid first.start in
        record {
          delivered = second.delivered
              ∙ ap (λ r. after_from r (delivered_in mid) (of_lot lot more)) rounds
              ∙ ap (λ x. after_from (rounds_in next inputs most before) x (of_lot lot more)) first.delivered
              ∙ sym (after_append three-is (rounds_in next inputs most before) (of_lot lot es) (of_lot lot more) (delivered_in before))
              ∙ ap (after_from (rounds_in next inputs most before) (delivered_in before)) (sym (of_lot-append lot es more));
          start = second.start ∙ first.start;
        };
  }

  module _ (openings : List (Trio (Core S))) (now : List (World S)) (events : List LotTriple) (lot : ℕ) (opening : Trio (Core S))
      (w : World S)
      (plays : PlaysIn next inputs most (map (begun most) openings) now events)
      (opens : slice_get openings lot ≡ Some opening) (is : slice_get now lot ≡ Some w) where
    begins : slice_get (map (begun most) openings) lot ≡ Some (begun most opening)
    begins = slice_get-map (begun most) openings lot ∙ ap (option_map (begun most)) opens

    -- the servers that a lot began with
    pub started : w.start ≡ opening
    started = (plays.each lot (begun most opening) w begins is).start

    -- what its own events deliver
    pub own-set : delivered_in w ≡ after (rounds_from next inputs most opening) (of_lot lot events)
    own-set =
        (plays.each lot (begun most opening) w begins is).delivered
        ∙ ap (λ x. after_from (rounds_from next inputs most opening) x (of_lot lot events)) (set-unmarked (most opening.one.script))

    -- the core of one of its servers
    pub stands-alone : (s : Point) (c : Core S) → IsCoreOf next inputs most w s c →
        StandsAlone next inputs most opening (of_lot lot events) w s c
    stands-alone s c h =
        let rounds : rounds_in next inputs most w ≡ rounds_from next inputs most opening =
        same-rounds next inputs most (begun most opening) w started in
        record {
          start = started;
          delivered = own-set;
          name = h.name;
          script = h.script ∙ ap (λ (t : Trio (Core S)). t.one.script) started;
          masks = h.masks ∙ ap (λ (t : Trio (Core S)). (member t s).masks.words) started;
          coefficients = h.coefficients ∙ ap (λ (t : Trio (Core S)). (member t s).coefficients.words) started;
          fits = subst (λ (x : Delivered). Fits next (setup_of next inputs opening) x c) own-set
              (subst (λ (t : Trio (Core S)). Fits next (setup_of next inputs t) (delivered_in w) c) started h.fits);
          round = h.round ∙ ap (λ r. passed r (delivered_in w) s) rounds
              ∙ ap (λ (x : Delivered). passed (rounds_from next inputs most opening) x s) own-set;
        }

-- the outcome of the lot's own book
pub opens-own : (openings : List (Trio (Core Auction))) (now : List (World Auction)) (events : List LotTriple)
    (lot : ℕ) (opening : Trio (Core Auction)) (w : World Auction) (s : Point) (c : Core Auction)
    (grid : Grid) (farmers : List BidderWithWords) (masks coefficients : Trio (List ℕ)) →
    PlaysIn auction_batch inputs_of most_rounds (map (begun most_rounds) openings) now events →
    slice_get openings lot ≡ Some opening → slice_get now lot ≡ Some w → IsAuctionCore w s c →
    IsBook (book_with grid farmers) → AreMasks masks → opening.one.script ≡ auction_over grid →
    setup_of auction_batch inputs_of opening ≡ book_setup grid farmers masks coefficients →
    StandsBy (book_rounds (book_with grid farmers) masks) (book_finish (book_with grid farmers) masks) w s c
opens-own openings now events lot opening w s c grid farmers masks coefficients plays opens is h book are script setup =
    let start = started auction_batch inputs_of most_rounds openings now events lot opening w plays opens is in
    stands-by-bids grid farmers masks coefficients w s c book are
    (ap (λ (t : Trio (Core Auction)). t.one.script) start ∙ script)
    (ap (setup_of auction_batch inputs_of) start ∙ setup) h
