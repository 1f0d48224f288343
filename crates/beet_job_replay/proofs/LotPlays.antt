-- How the servers of each lot stand after the events of all lots.
use Rattle.std.proofs.Common.{◌≡◌, ◌+◌, ℕ, zero, suc, List, [], ◌∷◌, length, map, None, Some, refl, sym, ap, ◌∙◌, subst, arith, slice_get}
use Rattle.std.specs.Prelude.{option_map, sum_by}
use Rattle.std.proofs.lemmas.List.Sums.{sum_by-cons}
use Rattle.std.proofs.lemmas.Option.{same_Some, slice_get-map}
use Rattle.beet_field.specs.Trio.{member}
use Rattle.beet_field.specs.declared.point.Point.{Point}
use Rattle.beet_field.specs.declared.point.Point.TheVariants.{One, Two, Three}
use Rattle.beet_field.specs.declared.trio.Trio.{Trio}
use Rattle.beet_auction.specs.Endings.{AuctionEnds, book_finish, book_rounds}
use Rattle.beet_auction.specs.Setups.{inputs_of}
use Rattle.beet_bids.specs.Grids.{Grid}
use Rattle.beet_book.specs.Farmers.{book_with}
use Rattle.beet_delivery.specs.Events.{after}
use Rattle.beet_load.specs.Loading.{AuctionWithBidders, AuctionWithInputs}
use Rattle.beet_load.specs.Servers.{masks_of}
use Rattle.beet_lots.specs.LotEvents.{of_lot}
use Rattle.beet_lots.specs.LotWorlds.{PlaysIn, PlaysTo, begun, lot_triples, undelivered_of}
use Rattle.beet_lots.specs.declared.lots.LotDelivery.{LotDelivery}
use Rattle.beet_plan.specs.Auction.{Auction, auction_batch, auction_over, most_rounds}
use Rattle.beet_run.specs.Runs.{setup_with}
use Rattle.beet_server.specs.Cores.{Core}
use Rattle.beet_world.specs.Worlds.{World}
use Rattle.beet_job_rehearse.specs.Rehearse.{servers_answer}
use Rattle.beet_job_rehearse.specs.Standings.{rehearsal_of, standing_of}
use Rattle.beet_job_rehearse.specs.declared.standing.Rehearsal.{Rehearsal}
use Rattle.beet_job_rehearse.proofs.JobEnds.{kept-ends}
use Rattle.beet_job_rehearse.proofs.WorldPlays.{counts, stands}
use Rattle.beet_job_replay.specs.Begun.{HasBegun, HaveBegun}
use Rattle.beet_job_replay.specs.Playing.{AnswerForEach, AnswersFor}
use Rattle.beet_job_replay.specs.Replay.{lot_answers, lot_rehearsal, undelivered_in}

-- a lot that begins with these servers after its events in a schedule
abbrev pub PlaysLot : List LotDelivery → ℕ → Trio (Core Auction) → World Auction → Type 0
PlaysLot deliveries lot cores now =
    PlaysTo auction_batch inputs_of most_rounds (begun most_rounds cores) now (of_lot lot (lot_triples deliveries))

module _ (deliveries : List LotDelivery) (lot : ℕ) (grid : Grid) (cores : Trio (Core Auction)) (loaded : AuctionWithBidders)
    (now : World Auction) (h : HasBegun grid cores loaded) (p : PlaysLot deliveries lot cores now) where
  abbrev kept : AuctionWithInputs
  kept = record { grid = grid; servers = loaded.servers; inputs = h.inputs }

  abbrev rounds : Grid → ℕ
  rounds g = book_rounds (book_with g loaded.farmers) (masks_of loaded.servers)

  -- how its servers stand by the book over a grid
  abbrev rehearsal-over : Grid → Rehearsal
  rehearsal-over g =
      rehearsal_of (book_finish (book_with g loaded.farmers) (masks_of loaded.servers)) (rounds g)
      (after (rounds g) (of_lot lot (lot_triples deliveries)))

  run-ends : AuctionEnds (auction_over grid) (setup_with grid h.inputs loaded.servers) (rounds grid)
      (book_finish (book_with grid loaded.farmers) (masks_of loaded.servers))
  run-ends = kept-ends kept loaded h.kept h.starts.are_masks

  -- the servers of the lot stand as its own events say
  lot-stands : AnswersFor now grid (servers_answer loaded.grid (lot_rehearsal deliveries lot loaded).servers)
  lot-stands servers told =
      let at : (s : Point) → member servers s ≡ standing_of (book_finish (book_with grid loaded.farmers) (masks_of loaded.servers))
      (rounds grid) (after (rounds grid) (of_lot lot (lot_triples deliveries))) s =
      λ s. stands grid h.inputs loaded.servers cores h.starts (begun most_rounds cores) now (of_lot lot (lot_triples deliveries)) refl
      p.delivered p.start (rounds grid) _ run-ends s (member servers s) (told s) in
      let one = at One in
      let two = at Two in
      let three = at Three in
      let same : (rehearsal-over grid).servers ≡ servers = λ i. record { one = sym one i; two = sym two i; three = sym three i } in
      ap (λ g. servers_answer g (rehearsal-over g).servers) h.kept.grid ∙ ap (servers_answer grid) same

  -- and as many of its messages are not delivered
  lot-undelivered : undelivered_of auction_batch inputs_of most_rounds now ≡ (lot_rehearsal deliveries lot loaded).undelivered
  lot-undelivered =
      counts grid h.inputs loaded.servers cores h.starts (begun most_rounds cores) now (of_lot lot (lot_triples deliveries)) refl
      p.delivered p.start (rounds grid) _ run-ends (undelivered_of auction_batch inputs_of most_rounds now) refl
      ∙ ap (λ g. (rehearsal-over g).undelivered) (sym h.kept.grid)

-- all lots, of which the first has this number, after their events in a schedule
abbrev pub PlayLots : List LotDelivery → ℕ → List (Trio (Core Auction)) → List (World Auction) → Type 0
PlayLots deliveries first all now =
    (k : ℕ) (cores : Trio (Core Auction)) (world : World Auction) → slice_get all k ≡ Some cores → slice_get now k ≡ Some world →
    PlaysLot deliveries (first + k) cores world

-- without the first of them
rest-plays : (deliveries : List LotDelivery) (first : ℕ) (cores : Trio (Core Auction)) (all : List (Trio (Core Auction)))
    (world : World Auction) (now : List (World Auction)) →
    PlayLots deliveries first (cores ∷ all) (world ∷ now) → PlayLots deliveries (first + 1) all now
rest-plays deliveries first cores all world now p k c w e f =
    let next : first + suc k ≡ (first + 1) + k = omega arith in
    subst (λ n. PlaysLot deliveries n c w) next (p (suc k) c w e f)

first-plays : (deliveries : List LotDelivery) (first : ℕ) (cores : Trio (Core Auction)) (all : List (Trio (Core Auction)))
    (world : World Auction) (now : List (World Auction)) →
    PlayLots deliveries first (cores ∷ all) (world ∷ now) → PlaysLot deliveries first cores world
first-plays deliveries first cores all world now p =
    let here : first + 0 ≡ first = omega arith in
    subst (λ n. PlaysLot deliveries n cores world) here (p 0 cores world refl refl)

-- each of them is told as its own events say
pub all-told : (deliveries : List LotDelivery) (first : ℕ) (grids : List Grid) (all : List (Trio (Core Auction)))
    (lots : List AuctionWithBidders) (now : List (World Auction)) → HaveBegun grids all lots → PlayLots deliveries first all now →
    length now ≡ length all → AnswerForEach now grids (lot_answers deliveries first lots)
all-told deliveries first [] all lots now h p many k w g a at over is = absurd (let no : None ≡ Some g = over in cc)
all-told deliveries first (g ∷ grids) [] lots now h p many k w x a at over is = absurd h
all-told deliveries first (g ∷ grids) (c ∷ all) [] now h p many k w x a at over is = absurd h
all-told deliveries first (g ∷ grids) (c ∷ all) (l ∷ lots) [] h p many k w x a at over is = absurd (omega (arith, many))
all-told deliveries first (g ∷ grids) (c ∷ all) (l ∷ lots) (w ∷ now) h p many zero world grid answer at over is =
    let t : AnswersFor w g (servers_answer l.grid (lot_rehearsal deliveries first l).servers) =
    lot-stands deliveries first g c l w h.0 (first-plays deliveries first c all w now p) in
    subst (λ (x : World Auction). AnswersFor x grid answer) (same_Some w world at)
    (subst (λ (x : Grid). AnswersFor w x answer) (same_Some g grid over) (subst (AnswersFor w g) (same_Some _ answer is) t))
all-told deliveries first (g ∷ grids) (c ∷ all) (l ∷ lots) (w ∷ now) h p many (suc k) world grid answer at over is =
    all-told deliveries (first + 1) grids all lots now h.1 (rest-plays deliveries first c all w now p) (omega (arith, many)) k
    world grid answer at over is

-- and the messages of all that are not delivered are those of each
pub all-undelivered : (deliveries : List LotDelivery) (first : ℕ) (grids : List Grid) (all : List (Trio (Core Auction)))
    (lots : List AuctionWithBidders) (now : List (World Auction)) → HaveBegun grids all lots → PlayLots deliveries first all now →
    length now ≡ length all →
    sum_by (undelivered_of auction_batch inputs_of most_rounds) now ≡ undelivered_in deliveries first lots
all-undelivered deliveries first [] [] [] [] h p many = refl
all-undelivered deliveries first [] [] [] (w ∷ now) h p many = absurd (omega (arith, many))
all-undelivered deliveries first [] [] (l ∷ lots) now h p many = absurd h
all-undelivered deliveries first [] (c ∷ all) lots now h p many = absurd h
all-undelivered deliveries first (g ∷ grids) [] lots now h p many = absurd h
all-undelivered deliveries first (g ∷ grids) (c ∷ all) [] now h p many = absurd h
all-undelivered deliveries first (g ∷ grids) (c ∷ all) (l ∷ lots) [] h p many = absurd (omega (arith, many))
all-undelivered deliveries first (g ∷ grids) (c ∷ all) (l ∷ lots) (w ∷ now) h p many =
    let here = lot-undelivered deliveries first g c l w h.0 (first-plays deliveries first c all w now p) in
    let rest = all-undelivered deliveries (first + 1) grids all lots now h.1 (rest-plays deliveries first c all w now p)
    (omega (arith, many)) in
    sum_by-cons (undelivered_of auction_batch inputs_of most_rounds) w now ∙ (λ i. here i + rest i)

-- lots that begin and play a schedule
pub plays-lots : (deliveries : List LotDelivery) (all : List (Trio (Core Auction))) (old now : List (World Auction)) →
    old ≡ map (begun most_rounds) all → PlaysIn auction_batch inputs_of most_rounds old now (lot_triples deliveries) →
    PlayLots deliveries 0 all now
plays-lots deliveries all old now begins p k cores world e f =
    let from_first : k ≡ 0 + k = omega arith in
    subst (λ n. PlaysLot deliveries n cores world) from_first (p.each k (begun most_rounds cores) world
    (ap (λ ws. slice_get ws k) begins ∙ slice_get-map (begun most_rounds) all k ∙ ap (option_map (begun most_rounds)) e) f)
