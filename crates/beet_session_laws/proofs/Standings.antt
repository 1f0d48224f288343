-- What is said of lots that are read, by their books and words.
use Rattle.std.proofs.Common.{◌≡◌, ◌+◌, ℕ, zero, suc, List, [], ◌∷◌, map, sum, Some, None, refl, sym, ap, ◌∙◌, arith, subst, slice_get}
use Rattle.std.specs.Prelude.{All, sum_by}
use Rattle.std.proofs.lemmas.List.Elements.{All-head, All-tail}
use Rattle.std.proofs.lemmas.List.Sums.{sum-map, sum_by-cons}
use Rattle.std.proofs.lemmas.Option.{same_Some}
use Rattle.beet_delivery.specs.Events.{Triple}
use Rattle.beet_errand.specs.Errands.{Answer}
use Rattle.beet_headline.specs.Statements.{AllHaveEnded}
use Rattle.beet_load.specs.Loading.{AuctionWithBidders}
use Rattle.beet_lots.specs.LotEvents.{LotTriple, of_lot}
use Rattle.beet_lots.specs.LotWorlds.{lot_triples}
use Rattle.beet_lots.specs.declared.lots.LotDelivery.{LotDelivery}
use Rattle.beet_run.specs.Outcomes.{cleared}
use Rattle.beet_job_rehearse.specs.Rehearse.{rehearsal_after, servers_answer}
use Rattle.beet_job_rehearse.specs.declared.standing.Rehearsal.{Rehearsal}
use Rattle.beet_job_replay.specs.Replay.{lot_answers, lot_rehearsal, undelivered_in}
use Rattle.beet_program_laws.proofs.Jobs.{left, none-left, shown}
use Rattle.beet_program_laws.proofs.Read.{IsLoaded}
use Rattle.beet_session_laws.specs.Lots.{Lot, StandAlone, StandsShown, end_of_lot, standing_answers}
use Rattle.beet_session_laws.proofs.Reading.{lot-of, lots-of}

-- each lot is told its own end
pub ends-told : (all : List AuctionWithBidders) (h : All IsLoaded all) → map cleared all ≡ map end_of_lot (lots-of all h)
ends-told [] h = refl
ends-told (loaded ∷ all) h = ap (λ (l : List Answer). cleared loaded ∷ l) (ends-told all (All-tail IsLoaded loaded all h))

-- ---- after events

-- how the servers of a lot stand after its events
stand-shown : (loaded : AuctionWithBidders) (h : IsLoaded loaded) (es : List Triple) →
    StandsShown (lot-of loaded h) es (rehearsal_after loaded es)
stand-shown loaded h es =
    let lot : Lot = lot-of loaded h in record {
      shown = shown lot.book lot.words lot.run es;
      left = left lot.book lot.words lot.run es;
      all = none-left lot.book lot.words lot.run es;
    }

module _ (deliveries : List LotDelivery) where
  abbrev events : List LotTriple
  events = lot_triples deliveries

  -- how the servers of each lot stand, of which the first has this number
  abbrev pub lot_rehearsals : ℕ → List AuctionWithBidders → List Rehearsal
  lot_rehearsals number [] = []
  lot_rehearsals number (loaded ∷ all) = lot_rehearsal deliveries number loaded ∷ lot_rehearsals (number + 1) all

  pub stand-alone : (number : ℕ) (all : List AuctionWithBidders) (h : All IsLoaded all) →
      StandAlone events number (lots-of all h) (lot_rehearsals number all)
  stand-alone number [] h = tt
  stand-alone number (loaded ∷ all) h = (
    stand-shown loaded (All-head IsLoaded loaded all h) (of_lot number events),
    stand-alone (number + 1) all (All-tail IsLoaded loaded all h),
  )

  pub answers-told : (number : ℕ) (all : List AuctionWithBidders) (h : All IsLoaded all) →
      lot_answers deliveries number all ≡ standing_answers (lots-of all h) (lot_rehearsals number all)
  answers-told number [] h = refl
  answers-told number (loaded ∷ all) h =
      ap (λ (l : List Answer). servers_answer loaded.grid (lot_rehearsal deliveries number loaded).servers ∷ l)
      (answers-told (number + 1) all (All-tail IsLoaded loaded all h))

  pub left-told : (number : ℕ) (all : List AuctionWithBidders) →
      undelivered_in deliveries number all ≡ sum (map (λ (r : Rehearsal). r.undelivered) (lot_rehearsals number all))
  left-told number all = by-sum number all ∙ sym (sum-map (λ (r : Rehearsal). r.undelivered) (lot_rehearsals number all)) where
    by-sum : (number : ℕ) (all : List AuctionWithBidders) →
        undelivered_in deliveries number all ≡ sum_by (λ (r : Rehearsal). r.undelivered) (lot_rehearsals number all)
    by-sum number [] = refl
    by-sum number (loaded ∷ all) =
        ap (λ n. (lot_rehearsal deliveries number loaded).undelivered + n) (by-sum (number + 1) all)
        ∙ sym (sum_by-cons (λ (r : Rehearsal). r.undelivered) (lot_rehearsal deliveries number loaded)
        (lot_rehearsals (number + 1) all))

-- ---- nothing undelivered

-- where nothing is undelivered in all lots, all servers of each have ended
pub all-end : (es : List LotTriple) (first : ℕ) (lots : List Lot) (rehearsals : List Rehearsal) →
    StandAlone es first lots rehearsals → sum_by (λ (r : Rehearsal). r.undelivered) rehearsals ≡ 0 →
    (number : ℕ) (lot : Lot) → slice_get lots number ≡ Some lot →
    AllHaveEnded lot.book lot.words (of_lot (first + number) es)
all-end es first [] rehearsals stand none number lot is = absurd (let no : None ≡ Some lot = is in cc)
all-end es first (x ∷ lots) [] stand none number lot is = absurd stand
all-end es first (x ∷ lots) (r ∷ rehearsals) stand none zero lot is =
    let whole = sum_by-cons (λ (r : Rehearsal). r.undelivered) r rehearsals in
    let here : first ≡ first + 0 = omega arith in
    subst (λ (l : Lot). AllHaveEnded l.book l.words (of_lot (first + 0) es)) (same_Some x lot is)
    (subst (λ n. AllHaveEnded x.book x.words (of_lot n es)) here (stand.0.all (omega (arith, whole, none))))
all-end es first (x ∷ lots) (r ∷ rehearsals) stand none (suc number) lot is =
    let whole = sum_by-cons (λ (r : Rehearsal). r.undelivered) r rehearsals in
    let next : (first + 1) + number ≡ first + suc number = omega arith in
    subst (λ n. AllHaveEnded lot.book lot.words (of_lot n es)) next
    (all-end es (first + 1) lots rehearsals stand.1 (omega (arith, whole, none)) number lot is)
