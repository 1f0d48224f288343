-- The bidders one after another.
use Rattle.std.proofs.Common.{◌≡◌, ◌≤◌, ◌<◌, ◌-◌, ℕ, zero, suc, ◌+◌, ◌*◌, [], ◌∷◌, ◌++◌, length, Result, Ok, Err, arith}
use Rattle.std.proofs.Common.{refl, ap, sym, ◌∙◌, length-append, append-nil, append_assoc, subst, List, None}
use Rattle.std.specs.Prelude.{IfOk, IsErrAnd, OnOk}
use Rattle.std.proofs.lemmas.Result.{err_from_is_err_and}
use Rattle.std.proofs.lemmas.List.{map-append}
use Rattle.std.proofs.lemmas.List.FromFn.{length-map-range_with_len, map-range_with_len_more}
use Rattle.beet_words.specs.Words.{accepted}
use Rattle.beet_bids.specs.Curves.{Curve, IsOfGrid}
use Rattle.beet_bids.specs.Grids.{Grid}
use Rattle.beet_book.specs.Farmers.{BidderWithWords, summed_points}
use Rattle.beet_auction.proofs.Adding.{summed-none as no-points, summed-more as points-more}
use Rattle.beet_book.specs.Dealing.{dealt_points, quantities}
use Rattle.beet_book.specs.Totals.{Totals, AddsQuantities, AddsValues, added, none_of, plain_sums, summed_quantities}
use Rattle.beet_book.proofs.Merged.{points-joined, quantities-joined}
use Rattle.beet_book.proofs.Summed.{shares-none, summed-more}
use Rattle.beet_store.specs.Files.{Seen}
use Rattle.beet_errand.specs.Errands.{Answer, Errand, gives, ◌>>◌}
use Rattle.beet_errand.specs.Fetches.{Reads, Tests}
use Rattle.beet_errand.specs.declared.answer.Stop.{Stop}
use Rattle.beet_errand.specs.declared.answer.Stop.TheVariants.{OutOfMemory}
use Rattle.beet_errand.proofs.Frame.{both, first_fails, given, passed, tested}
use Rattle.beet_load.specs.Counts.{words_wanted}
use Rattle.beet_load.specs.Collecting.{curves_of}
use Rattle.beet_load.specs.Farmers.{enough_words}
use Rattle.beet_job_trial.specs.Adding.{AddsFarmers, AddsPart, CarrySums, DealsPart, enough_of_each, enough_of_part}
use Rattle.beet_job_trial.specs.Rules.{trial_farmer, trial_farmers, trial_part}

-- totals of no bidder
carry-none : (grid : Grid) (totals : Totals) → totals ≡ none_of grid.prices → CarrySums grid [] totals
carry-none grid totals e = rw e (record { prices = refl; points = sym (no-points grid.prices); shares = shares-none grid.prices })

-- one bidder more
pub adds-farmer : (grid : Grid) (farmer : BidderWithWords) (curve : Curve) (before after : Totals) →
    curve ≡ farmer.bidder.curve → IsOfGrid grid farmer.bidder.curve → 2 * grid.prices ≤ length (accepted farmer.words) →
    after ≡ record before { points = added before.points (dealt_points curve (accepted farmer.words)) } →
    AddsQuantities curve before.points after.points →
    AddsFarmers grid (farmer ∷ []) before after
adds-farmer grid farmer curve before after e of_grid enough sums adds =
    let own = farmer.bidder.curve in
    let numbers = accepted farmer.words in
    let count : length (quantities own) ≡ length own.buy + length own.sell = length-append own.buy own.sell in
    let long : length (quantities own) ≡ 2 * grid.prices = omega (arith, count, of_grid.buy_length, of_grid.sell_length) in
    record {
      prices = ap (λ t. t.prices) sums;
      carry = λ farmers c.
          let before_all = summed_quantities grid.prices (curves_of farmers) in
          let curves : curves_of (farmers ++ farmer ∷ []) ≡ curves_of farmers ++ own ∷ [] =
          map-append (λ f. f.bidder.curve) farmers (farmer ∷ []) in
          let values : summed_quantities grid.prices (curves_of (farmers ++ farmer ∷ [])) ≡ plain_sums before_all (quantities curve) =
          ap (summed_quantities grid.prices) curves ∙ summed-more grid.prices (curves_of farmers) own long
          ∙ ap (λ q. plain_sums before_all q) (sym (ap quantities e)) in
          record {
            prices = ap (λ t. t.prices) sums ∙ c.prices;
            points = ap (λ t. t.points) sums
                ∙ ap (λ points. added points (dealt_points curve numbers)) c.points
                ∙ ap (λ one. added (summed_points grid.prices farmers) (dealt_points one numbers)) e
                ∙ sym (points-more grid.prices farmers farmer long enough);
            shares = rw values (adds before_all c.shares);
          };
    }

part-more : (grid : Grid) (from n : ℕ) → trial_part grid from (n + 1) ≡ trial_part grid from n ++ trial_farmer grid (from + n) ∷ []
part-more grid from n = map-range_with_len_more (trial_farmer grid) from n (from + n) refl

-- bidders in two parts
part-joined : (grid : Grid) (from few rest : ℕ) →
    trial_part grid from (few + rest) ≡ trial_part grid from few ++ trial_part grid (from + few) rest
part-joined grid from few zero =
    let none : few + zero ≡ few = omega arith in
    ap (λ k. trial_part grid from k) none ∙ sym (append-nil (trial_part grid from few))
part-joined grid from few (suc n) =
    let front = trial_part grid from few in
    let back = trial_part grid (from + few) n in
    let more : few + suc n ≡ few + n + 1 = omega arith in
    let last : from + (few + n) ≡ from + few + n = omega arith in
    let next : n + 1 ≡ suc n = omega arith in
    ap (λ k. trial_part grid from k) more
    ∙ part-more grid from (few + n)
    ∙ ap (λ (fs : List BidderWithWords). fs ++ trial_farmer grid (from + (few + n)) ∷ []) (part-joined grid from few n)
    ∙ append_assoc front back (trial_farmer grid (from + (few + n)) ∷ [])
    ∙ ap (λ i. front ++ (back ++ trial_farmer grid i ∷ [])) last
    ∙ ap (λ (fs : List BidderWithWords). front ++ fs) (sym (part-more grid (from + few) n))
    ∙ ap (λ k. front ++ trial_part grid (from + few) k) next

two-parts : (grid : Grid) (from few rest i count : ℕ) → from + few ≡ i → few + rest ≡ count →
    trial_part grid from count ≡ trial_part grid from few ++ trial_part grid i rest
two-parts grid from few rest i count e f = rw (← e, ← f) (part-joined grid from few rest)

-- the words of two lists of bidders are enough where those of the first are, and then those of the second
enough-joined : (grid : Grid) (n : ℕ) (few rest : List BidderWithWords) (next : Errand) →
    enough_of_each grid n (few ++ rest) next ≡ enough_of_each grid n few (enough_of_each grid (n + length few) rest next)
enough-joined grid n [] rest next =
    let same : n ≡ n + 0 = omega arith in ap (λ k. enough_of_each grid k rest next) same
enough-joined grid n (farmer ∷ few) rest next =
    let same : n + 1 + length few ≡ n + length (farmer ∷ few) = omega arith in
    ap (enough_words None n (words_wanted grid) farmer.words)
    (enough-joined grid (n + 1) few rest next ∙ ap (λ k. enough_of_each grid (n + 1) few (enough_of_each grid k rest next)) same)

enough-parts : (grid : Grid) (from few rest i count : ℕ) → from + few ≡ i → few + rest ≡ count → (next : Errand) →
    enough_of_each grid (from + 1) (trial_part grid from count) next
    ≡ enough_of_each grid (from + 1) (trial_part grid from few) (enough_of_each grid (i + 1) (trial_part grid i rest) next)
enough-parts grid from few rest i count e f next =
    let number : from + 1 + length (trial_part grid from few) ≡ i + 1 =
    omega (arith, e, length-map-range_with_len (trial_farmer grid) from few) in
    ap (λ farmers. enough_of_each grid (from + 1) farmers next) (two-parts grid from few rest i count e f)
    ∙ enough-joined grid (from + 1) (trial_part grid from few) (trial_part grid i rest) next
    ∙ ap (λ k. enough_of_each grid (from + 1) (trial_part grid from few) (enough_of_each grid k (trial_part grid i rest) next)) number

pub same-test : {test same : Errand → Errand} {result : Result (Unit {0}) Stop} →
    ((next : Errand) → test next ≡ same next) → Tests same result → Tests test result
same-test {result = result} e t = subst (λ (f : Errand → Errand). Tests f result) (λ j next. sym (e next) j) t

-- the first part has enough words, and the second is tested
pub tests-second : (grid : Grid) (from few rest i count : ℕ) (result : Result (Unit {0}) Stop) → from + few ≡ i → few + rest ≡ count →
    Tests (enough_of_each grid (from + 1) (trial_part grid from few)) (Ok tt) →
    Tests (enough_of_each grid (i + 1) (trial_part grid i rest)) result →
    Tests (enough_of_each grid (from + 1) (trial_part grid from count)) result
tests-second grid from few rest i count result e f t u = same-test (enough-parts grid from few rest i count e f) (both result t u)

-- the first part has not
pub tests-first : (grid : Grid) (from few rest i count : ℕ) (stop : Stop) → from + few ≡ i → few + rest ≡ count →
    Tests (enough_of_each grid (from + 1) (trial_part grid from few)) (Err stop) →
    Tests (enough_of_each grid (from + 1) (trial_part grid from count)) (Err stop)
tests-first grid from few rest i count stop e f t =
    same-test (enough-parts grid from few rest i count e f)
    (first_fails {second = enough_of_each grid (i + 1) (trial_part grid i rest)} stop t)

-- no bidder is tested, and none is added
pub tests-none : (grid : Grid) (from : ℕ) → Tests (enough_of_each grid (from + 1) (trial_part grid from 0)) (Ok tt)
tests-none grid from = record { passes = λ next. refl; cause = λ count. refl }

pub adds-none : (grid : Grid) (from : ℕ) (totals : Totals) → AddsFarmers grid (trial_part grid from 0) totals totals
adds-none grid from totals = record {
  prices = refl;
  carry = λ farmers c. subst (λ (fs : List BidderWithWords). CarrySums grid fs totals) (sym (append-nil farmers)) c;
}

-- one part after another is added to the same totals
pub adds-second : (grid : Grid) (from few rest i count : ℕ) (before middle after : Totals) → from + few ≡ i → few + rest ≡ count →
    AddsFarmers grid (trial_part grid from few) before middle → AddsFarmers grid (trial_part grid i rest) middle after →
    AddsFarmers grid (trial_part grid from count) before after
adds-second grid from few rest i count before middle after e f a b = record {
  prices = b.prices ∙ a.prices;
  carry = λ farmers c.
      let parts = ap (λ fs. farmers ++ fs) (two-parts grid from few rest i count e f) in
      let joined = append_assoc farmers (trial_part grid from few) (trial_part grid i rest) in
      subst (λ (fs : List BidderWithWords). CarrySums grid fs after) (joined ∙ sym parts)
      (b.carry (farmers ++ trial_part grid from few) (a.carry farmers c));
}

-- totals of two lists of bidders, added up
carry-both : (grid : Grid) (few rest : List BidderWithWords) (one other after : Totals) → CarrySums grid few one →
    CarrySums grid rest other →
    after ≡ record one { points = added one.points other.points } → AddsValues one.points other.points after.points →
    CarrySums grid (few ++ rest) after
carry-both grid few rest one other after a b sums adds =
    let curves : curves_of (few ++ rest) ≡ curves_of few ++ curves_of rest = map-append (λ f. f.bidder.curve) few rest in
    let values = ap (summed_quantities grid.prices) curves ∙ quantities-joined grid.prices (curves_of few) (curves_of rest) in
    record {
      prices = ap (λ t. t.prices) sums ∙ a.prices;
      points = ap (λ t. t.points) sums
          ∙ ap (λ points. added points other.points) a.points
          ∙ ap (λ points. added (summed_points grid.prices few) points) b.points
          ∙ sym (points-joined grid.prices few rest);
      shares = rw values (adds (summed_quantities grid.prices (curves_of few))
          (summed_quantities grid.prices (curves_of rest)) a.shares b.shares);
    }

-- what is added to totals of no bidder
pub deals-added : (grid : Grid) (from count : ℕ) (none after : Totals) → none ≡ none_of grid.prices →
    AddsPart grid from count none after (Ok tt) → DealsPart grid from count (Ok after)
deals-added grid from count none after e part = (part.tests, part.adds.carry [] (carry-none grid none e))

-- two parts are dealt, each into totals of its own, which are added up
pub deals-joined : (grid : Grid) (from few rest : ℕ) (one other after : Totals) → DealsPart grid from few (Ok one) →
    DealsPart grid (from + few) rest (Ok other) → after ≡ record one { points = added one.points other.points } →
    AddsValues one.points other.points after.points → DealsPart grid from (few + rest) (Ok after)
deals-joined grid from few rest one other after a b sums adds = (
  tests-second grid from few rest (from + few) (few + rest) (Ok tt) refl refl a.0 b.0,
  subst (λ (fs : List BidderWithWords). CarrySums grid fs after) (sym (part-joined grid from few rest))
      (carry-both grid (trial_part grid from few) (trial_part grid (from + few) rest) one other after a.1 b.1 sums adds),
)

-- a part that stops
pub part-stops : (grid : Grid) (from count : ℕ) (result : Result Totals Stop) {stop : Stop} →
    IsErrAnd result (λ e. e ≡ stop) → Tests (enough_of_part grid from count) (Err stop) → DealsPart grid from count result
part-stops grid from count result e t = let p = err_from_is_err_and result e in rw (p.1, p.2) t

-- what holds where it does not
pub part-carries : (grid : Grid) (from count : ℕ) (result : Result Totals Stop) → DealsPart grid from count result →
    IfOk result (CarrySums grid (trial_part grid from count))
part-carries grid from count (Ok totals) d = d.1
part-carries grid from count (Err stop) d = tt

-- what holds anyway
pub holds-anyway : {T : Type 0} (P : Type 0) (result : Result T Stop) → P → IfOk result (λ value. P)
holds-anyway P (Ok value) p = p
holds-anyway P (Err stop) p = tt

-- what follows from a test that holds if it passes
pub holds-passed : {P Q : Type 0} (result : Result (Unit {0}) Stop) → OnOk result P → (P → Q) → IfOk result (λ done. Q)
holds-passed (Ok done) p f = f p
holds-passed (Err stop) p f = tt

-- all bidders are dealt after a test
pub deals-read : (grid : Grid) (bidders : ℕ) {seen : Seen} {test : Errand → Errand} {answer : Answer} {result : Result Totals Stop} →
    Tests test (Ok tt) → DealsPart grid 0 bidders result →
    Reads (λ (totals : Totals). answer) seen seen (test >> (enough_of_each grid 1 (trial_farmers grid bidders) >> gives answer)) result
deals-read grid bidders {result = Ok totals} t d = passed t (passed d.0 (given refl))
deals-read grid bidders {result = Err stop} t d = passed t (tested d)

-- a step that stops, and what the exit of a `?` returns
pub stops : {grid : Grid} {from count : ℕ} {before after : Totals} {stop : Stop} {result : Result (Unit {0}) Stop} →
    IsErrAnd result (λ e. e ≡ stop) →
    Tests (enough_of_each grid (from + 1) (trial_part grid from count)) (Err stop) → AddsPart grid from count before after result
stops {result = result} e t = let p = err_from_is_err_and result e in rw (p.1, p.2) (record { tests = t; adds = tt })

pub no-memory : {test : Errand → Errand} → Tests test (Err OutOfMemory)
no-memory = record { passes = tt; cause = λ count. refl }

-- the bidders before one have enough words, and it has not
pub stops-at : (grid : Grid) (from count i : ℕ) (before after : Totals) (stop : Stop) → from ≤ i → i < from + count →
    Tests (enough_of_each grid (from + 1) (trial_part grid from (i - from))) (Ok tt) → AddsPart grid i 1 before after (Err stop) →
    Tests (enough_of_each grid (from + 1) (trial_part grid from count)) (Err stop)
stops-at grid from count i before after stop low high enough part =
    let rest = from + count - i in
    tests-second grid from (i - from) rest i count (Err stop) (omega arith) (omega arith) enough
    (tests-first grid i 1 (rest - 1) (i + 1) rest stop (omega arith) (omega arith) part.tests)
