-- What the job `trial` has tried and said.
use Rattle.std.proofs.Common.{◌≡◌, ◌≤◌, ◌+◌, ℕ, List, [], ◌∷◌, length, get_or, nat_lt}
use Rattle.std.proofs.Common.{Bool, true, false, Option, Some, None, Result, Ok, Err, if◌then◌else◌, refl, ap, subst}
use Rattle.std.proofs.Common.{arith}
use Rattle.std.specs.Prelude.{All, codes, option_and_then, option_map}
use Rattle.std.specs.List.{range_with_len}
use Rattle.std.proofs.lemmas.Bool.{ltb-false}
use Rattle.std.proofs.lemmas.List.Elements.{All-cons, All-map, All-nil}
use Rattle.std.proofs.lemmas.List.FromFn.{length-map-range_with_len}
use Rattle.beet_store.specs.Files.{File}
use Rattle.beet_forms.specs.Numbers.{number_of}
use Rattle.beet_forms.specs.declared.decimals.NumberFault.{NumberFault}
use Rattle.beet_forms.proofs.RoundTrip.{number-within}
use Rattle.beet_words.specs.Seeds.{seed_word}
use Rattle.beet_words.specs.Words.{IsWord, accepted}
use Rattle.beet_words.specs.declared.bundle.TheConstants.{MOST_BIDDERS}
use Rattle.beet_bids.specs.Curves.{IsCurve, IsOfGrid}
use Rattle.beet_bids.specs.Grids.{Grid}
use Rattle.beet_bids.specs.declared.grid.TheConstants.{MOST_PRICES}
use Rattle.beet_book.specs.Farmers.{BidderWithWords}
use Rattle.beet_plan.specs.Kept.{words_kept}
use Rattle.beet_auction.specs.Endings.{book_finish, book_rounds}
use Rattle.beet_errand.specs.Errands.{Answer, Step, gives}
use Rattle.beet_errand.specs.declared.answer.Refusal.TheVariants.{TooFewWords}
use Rattle.beet_errand.specs.Statuses.{IsDoneCode}
use Rattle.beet_load.specs.Counts.{counts_of, words_wanted}
use Rattle.beet_load.specs.Wanted.{wanted_of}
use Rattle.beet_load.specs.Servers.{HasEnough, masks_of, seeded}
use Rattle.beet_load.specs.WordTexts.{too_few_text}
use Rattle.beet_run.specs.OutcomeTexts.{outcome_text}
use Rattle.beet_job_trial.specs.Adding.{enough_of_each}
use Rattle.beet_job_trial.specs.Rules.{bidder_seed, server_seed, trial_book, trial_farmer, trial_farmers, trial_grid}
use Rattle.beet_job_trial.specs.Rules.{trial_servers}
use Rattle.beet_job_trial.specs.Sizes.{from_low, number_within, sizes_of}
use Rattle.beet_job_trial.specs.Trial.{trial_answer, trial_errand, trial_job, trial_over}
use Rattle.beet_job_trial.proofs.Curves.{is-curve, is-of-grid}
use Rattle.beet_app.specs.Jobs.{Answering}
use Rattle.beet_app_laws.specs.Calls.{Call, IsOf, RunsJob, RunsJobOf}
use Rattle.beet_program_laws.specs.Commands.{RunsTrial}
use Rattle.beet_program_laws.proofs.Ends.{WentOut, found, no-job, servers-open, tells}
use Rattle.beet_program_laws.proofs.Files.{seed-are}
use Rattle.beet_program_laws.proofs.Read.{CanServe, CanServeAll, IsRead, can-run, is-book, seeded-kept, servers-yield}
use Rattle.beet_program_laws.proofs.Read.{the_book, the_words}
use Rattle.beet_program_laws.proofs.Steps.{Yields, gives-yield, passes-yield}

-- ---- the sizes

not-low : (b : Bool) (m n : ℕ) → (if b then None else Some m) ≡ Some n → m ≡ n
not-low true m n e = absurd cc
not-low false m n e = cc

from-low-is : (low : ℕ) (r : Result ℕ NumberFault) (n : ℕ) → from_low low r ≡ Some n → r ≡ Ok n
from-low-is low (Ok m) n e = ap Ok (not-low (nat_lt m low) m n e)
from-low-is low (Err fault) n e = absurd cc

within-most : (low high : ℕ) (word : List ℕ) (n : ℕ) → number_within low high word ≡ Some n → n ≤ high
within-most low high word n e = number-within word high n (from-low-is low (number_of word high) n e)

both-are : (count places : Option ℕ) (sizes : ℕ × ℕ) →
    option_and_then (λ c. option_map (λ p. (c, p)) places) count ≡ Some sizes →
    (count ≡ Some sizes.0) × (places ≡ Some sizes.1)
both-are None places sizes e = absurd cc
both-are (Some c) None sizes e = absurd cc
both-are (Some c) (Some p) sizes e =
    let same : (c, p) ≡ sizes = cc in (ap (λ (t : ℕ × ℕ). Some t.0) same, ap (λ (t : ℕ × ℕ). Some t.1) same)

sizes-are : (first second : List ℕ) (sizes : ℕ × ℕ) → sizes_of first second ≡ Some sizes →
    (sizes.0 ≤ MOST_BIDDERS) × (sizes.1 ≤ MOST_PRICES)
sizes-are first second sizes e =
    let both = both-are (number_within 0 MOST_BIDDERS first) (number_within 1 MOST_PRICES second) sizes e in
    (within-most 0 MOST_BIDDERS first sizes.0 both.0, within-most 1 MOST_PRICES second sizes.1 both.1)

-- ---- the bidders

abbrev HasWords : Grid → BidderWithWords → Type 0
HasWords grid farmer = words_wanted grid ≤ length (accepted farmer.words)

-- what the rule makes
record IsMade (grid : Grid) (farmer : BidderWithWords) : Type 0 where
  curve : IsCurve farmer.bidder.curve
  of_grid : IsOfGrid grid farmer.bidder.curve
  kept : length farmer.words ≤ words_kept grid.prices
  words : All IsWord farmer.words

all-made : (grid : Grid) (bidders : ℕ) → grid.prices ≤ MOST_PRICES → All (IsMade grid) (trial_farmers grid bidders)
all-made grid bidders limit =
    All-map (IsMade grid) (trial_farmer grid) (range_with_len 0 bidders) (λ k d lt.
    let i : ℕ = get_or (range_with_len 0 bidders) k d in
    record {
      curve = is-curve grid i limit;
      of_grid = is-of-grid grid i;
      kept = omega (arith, length-map-range_with_len (seed_word (bidder_seed i) 0) 0 (words_kept grid.prices));
      words = seed-are (bidder_seed i) 0 (words_kept grid.prices);
    })

all-read : (grid : Grid) (bidders : ℕ) → grid.prices ≤ MOST_PRICES → All (HasWords grid) (trial_farmers grid bidders) →
    All (IsRead grid) (trial_farmers grid bidders)
all-read grid bidders limit enough = λ k d lt.
    let made = all-made grid bidders limit k d lt in
    record {
      is = record {
        curve = made.curve;
        of_grid = made.of_grid;
        words = record { enough = enough k d lt; kept = made.kept };
      };
      words = made.words;
    }

module _ (files : List File) (call : Call) (from : IsOf files call) (w : IsDoneCode call.status) where
  each-yield : {A : Type 0} (grid : Grid) (number : ℕ) (farmers : List BidderWithWords) (step : Step A) (P : A → Type 0) →
      (All (HasWords grid) farmers → Yields files step P) →
      Yields {A = A} files (λ next. enough_of_each grid number farmers (step next)) P
  each-yield grid number [] step P y = y (All-nil (HasWords grid))
  each-yield grid number (farmer ∷ farmers) step P y =
      passes-yield files (nat_lt (length (accepted farmer.words)) (words_wanted grid))
      TooFewWords (too_few_text None number (length (accepted farmer.words)) (words_wanted grid))
      (λ next. enough_of_each grid (number + 1) farmers (step next)) P (λ enough.
      each-yield grid (number + 1) farmers step P (λ all.
      y (All-cons (HasWords grid) farmer farmers (ltb-false _ _ enough) all)))

  -- what a trial has tested
  record IsTried (grid : Grid) (bidders : ℕ) (answer : Answer) : Type 0 where
    is : answer ≡ trial_answer grid bidders
    one : HasEnough (counts_of grid) (trial_servers grid).one
    two : HasEnough (counts_of grid) (trial_servers grid).two
    three : HasEnough (counts_of grid) (trial_servers grid).three
    bidders_enough : All (HasWords grid) (trial_farmers grid bidders)

  trial-yield : (grid : Grid) (bidders : ℕ) → Yields files (trial_over grid bidders) (IsTried grid bidders)
  trial-yield grid bidders =
      servers-yield files (wanted_of None grid) (trial_servers grid) (λ next. enough_of_each grid 1 (trial_farmers grid bidders)
      (next (trial_answer grid bidders))) (IsTried grid bidders)
      (λ one two three. each-yield grid 1 (trial_farmers grid bidders) (gives (trial_answer grid bidders))
      (IsTried grid bidders) (λ all.
      gives-yield files (IsTried grid bidders) (trial_answer grid bidders)
      (record { is = refl; one = one; two = two; three = three; bidders_enough = all })))

  tried : (first second : List ℕ) (sizes : Option (ℕ × ℕ)) → sizes_of first second ≡ sizes →
      RunsJob (option_map (λ s. Answering (trial_errand s.0 s.1)) sizes) call →
      RunsTrial first second call
  tried first second None e ran = no-job files call from w ran
  tried first second (Some sizes) e ran =
      let grid = trial_grid sizes.1 in
      let limits = sizes-are first second sizes e in
      let f = found files call from w (trial_job sizes.0 sizes.1) (λ answer. answer)
      (IsTried grid sizes.0) (trial-yield grid sizes.0) ran in
      let out : WentOut (trial_answer grid sizes.0) call =
      subst (λ (x : Answer). WentOut x call) f.holds.is f.out in
      let farmers = trial_farmers grid sizes.0 in
      let servers = trial_servers grid in
      let serve : (server : ℕ) →
      HasEnough (counts_of grid) (seeded (wanted_of None grid) (server_seed server)) → CanServe (counts_of grid)
      (seeded (wanted_of None grid) (server_seed server)) =
      λ server enough. record { enough = enough; kept = seeded-kept (wanted_of None grid) (server_seed server) } in
      let all : CanServeAll (counts_of grid) servers =
      record { one = serve 1 f.holds.one; two = serve 2 f.holds.two; three = serve 3 f.holds.three } in
      let few : length farmers ≤ MOST_BIDDERS =
      omega (arith, limits.0, length-map-range_with_len (trial_farmer grid) 0 sizes.0) in
      let each : All (IsRead grid) farmers = all-read grid sizes.0 limits.1 f.holds.bidders_enough in
      record {
        bidders = sizes.0;
        prices = sizes.1;
        sizes = e;
        text = outcome_text grid (book_finish (trial_book grid sizes.0) (masks_of servers))
            (book_rounds (trial_book grid sizes.0) (masks_of servers));
        words = the_words grid servers farmers;
        words_are = refl;
        run = servers-open (the_book grid servers farmers) (the_words grid servers farmers)
            (is-book grid servers farmers few each all) (can-run grid servers farmers few each all);
        tells = tells (the_book grid servers farmers) (the_words grid servers farmers) call.status out.code;
        said = out.calls;
      }

  pub tries : (first second : List ℕ) → RunsJobOf (codes "trial" ∷ first ∷ second ∷ []) call → RunsTrial first second call
  tries first second ran = tried first second (sizes_of first second) refl ran
