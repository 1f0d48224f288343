-- The lots of a session are told after a schedule.
use Rattle.std.proofs.Common.{◌≡◌, ◌<◌, ◌+◌, ℕ, List, [], ◌∷◌, ◌++◌, length, map, sum, take, get_or, Some, zero, suc, refl, sym}
use Rattle.std.proofs.Common.{ap, ◌∙◌, subst, arith, length-take-le, slice_get}
use Rattle.std.proofs.Math.Seq.{take-suc}
use Rattle.std.proofs.lemmas.List.{length-map}
use Rattle.std.proofs.lemmas.List.Sums.{sum-map}
use Rattle.std.proofs.lemmas.Option.{slice_get-get_or}
use Rattle.std.specs.Prelude.{if◌then◌else◌}
use Rattle.beet_auction.specs.Setups.{inputs_of}
use Rattle.beet_bids.specs.Grids.{Grid}
use Rattle.beet_errand.specs.Errands.{Answer, text_answer}
use Rattle.beet_errand.specs.declared.answer.Status.TheVariants.{Done, MasksSpent}
use Rattle.beet_load.specs.Loading.{AuctionWithBidders}
use Rattle.beet_lot_files.specs.declared.session_file.LotRow.{LotRow}
use Rattle.beet_lot_load.specs.Telling.{TellsLot, TellsLots, lots_status, lots_text}
use Rattle.beet_lot_load.specs.declared.telling.LotsTold.{LotsTold}
use Rattle.beet_lot_load.proofs.LotsTelling.{tells-more}
use Rattle.beet_lots.specs.LotWorlds.{PlaysIn, begun, lot_triples, undelivered_of}
use Rattle.beet_lots.specs.declared.lots.LotDelivery.{LotDelivery}
use Rattle.beet_plan.specs.Auction.{Auction, auction_batch, most_rounds}
use Rattle.beet_world.specs.Worlds.{World}
use Rattle.beet_job_rehearse.specs.StandingTexts.{undelivered_line}
use Rattle.beet_job_replay.specs.Begun.{AreBegun}
use Rattle.beet_job_replay.specs.Playing.{AnswerForEach}
use Rattle.beet_job_replay.specs.Replay.{lot_answers, replayed, undelivered_in}
use Rattle.beet_job_replay.specs.declared.beginning.Begun.{Begun}
use Rattle.beet_job_replay.proofs.LotPlays.{all-told, all-undelivered, plays-lots}

-- there is an element at a place within a list
pub there : {X : Type 0} (xs : List X) (k : ℕ) → k < length xs → (x : X) × (slice_get xs k ≡ Some x)
there [] k lt = absurd (omega (arith, lt))
there (x ∷ xs) zero lt = (x, refl)
there (x ∷ xs) (suc k) lt = there xs k (omega (arith, lt))

-- there is an answer for each lot
pub answers-many : (deliveries : List LotDelivery) (first : ℕ) (lots : List AuctionWithBidders) →
    length (lot_answers deliveries first lots) ≡ length lots
answers-many deliveries first [] = refl
answers-many deliveries first (l ∷ lots) = ap suc (answers-many deliveries (first + 1) lots)

-- the first lots are told, whatever the answers are that tell of their servers
abbrev pub TellsFirst : List LotRow → List (World Auction) → List Grid → ℕ → LotsTold → Type 0
TellsFirst rows worlds grids count told =
    (answers : List Answer) → length answers ≡ length rows → AnswerForEach worlds grids answers → TellsLots rows (take count answers) told

-- one lot more is told
pub first-more : (rows : List LotRow) (answers : List Answer) (i : ℕ) (row : LotRow) (before after : LotsTold) →
    length answers ≡ length rows → i < length rows → row ≡ get_or rows i row → TellsLots rows (take i answers) before →
    ((answer : Answer) → slice_get answers i ≡ Some answer → TellsLot row answer before after) →
    TellsLots rows (take (i + 1) answers) after
first-more rows answers i row before after many lt e t more =
    let none = text_answer Done [] in
    let here = get_or answers i none in
    let long : length (take i answers) ≡ i = length-take-le i answers (omega (arith, many, lt)) in
    let one : i + 1 ≡ suc i = omega arith in
    let split : take (i + 1) answers ≡ take i answers ++ here ∷ [] = rw one (take-suc answers i none (omega (arith, many, lt))) in
    subst (λ (l : List Answer). TellsLots rows l after) (sym split)
    (tells-more rows (take i answers) row here before after (omega (arith, long, lt)) (e ∙ ap (λ n. get_or rows n row) (sym long)) t
    (more here (slice_get-get_or answers i none (omega (arith, many, lt)))))

module _ (rows : List LotRow) (begun_lots : Begun) (lots : List AuctionWithBidders) (deliveries : List LotDelivery)
    (old now : List (World Auction)) (a : AreBegun rows begun_lots lots)
    (begins : old ≡ map (begun most_rounds) begun_lots.cores.items)
    (p : PlaysIn auction_batch inputs_of most_rounds old now (lot_triples deliveries)) where
  pub worlds-many : length now ≡ length begun_lots.cores.items
  worlds-many = p.many ∙ ap length begins ∙ length-map begun_lots.cores.items (begun most_rounds)

  -- the answer tells how the servers of all lots stand
  pub replays : (told : LotsTold) (reply : Answer) (undelivered : ℕ) →
      ((answers : List Answer) → length answers ≡ length rows → AnswerForEach now begun_lots.grids.items answers →
      TellsLots rows answers told) →
      undelivered ≡ sum (map (undelivered_of auction_batch inputs_of most_rounds) now) →
      reply ≡ text_answer (if told.spent then MasksSpent else Done) (told.text.items ++ undelivered_line undelivered) →
      reply ≡ replayed rows lots deliveries
  replays told reply undelivered tells count is =
      let plays = plays-lots deliveries begun_lots.cores.items old now begins p in
      let answers = lot_answers deliveries 0 lots in
      let t = tells answers (answers-many deliveries 0 lots ∙ a.count)
      (all-told deliveries 0 begun_lots.grids.items begun_lots.cores.items lots now a.all plays worlds-many) in
      let many : undelivered ≡ undelivered_in deliveries 0 lots =
      count ∙ sum-map (undelivered_of auction_batch inputs_of most_rounds) now
      ∙ all-undelivered deliveries 0 begun_lots.grids.items begun_lots.cores.items lots now a.all plays worlds-many in
      is ∙ ap (λ b. text_answer (if b then MasksSpent else Done) (told.text.items ++ undelivered_line undelivered)) t.spent
      ∙ ap (λ text. text_answer (lots_status answers) (text ++ undelivered_line undelivered)) t.text
      ∙ ap (λ n. text_answer (lots_status answers) (lots_text rows answers ++ undelivered_line n)) many
