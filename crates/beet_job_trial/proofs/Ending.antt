-- How a trial ends.
use Rattle.std.proofs.Common.{◌≡◌, ◌≤◌, ℕ, ◌*◌, List, length, get_or, All, Result, arith, ap, sym, ◌∙◌, subst}
use Rattle.std.specs.List.{range_with_len}
use Rattle.std.proofs.lemmas.List.FromFn.{length-map-range_with_len}
use Rattle.std.proofs.lemmas.List.Elements.{All-map}
use Rattle.beet_field.specs.Trio.{member}
use Rattle.beet_field.specs.declared.point.Point.{Point}
use Rattle.beet_field.specs.declared.trio.Trio.{Trio}
use Rattle.beet_store.specs.Files.{Seen}
use Rattle.beet_bids.specs.Books.{IsBook}
use Rattle.beet_bids.specs.Curves.{Curve, IsCurve, IsOfGrid}
use Rattle.beet_bids.specs.Grids.{Grid}
use Rattle.beet_book.specs.Dealing.{AreShares}
use Rattle.beet_book.specs.Totals.{Totals, wires_of}
use Rattle.beet_auction.specs.Endings.{book_finish}
use Rattle.beet_book.specs.Farmers.{BidderWithWords}
use Rattle.beet_bids.specs.Sums.{sums_of}
use Rattle.beet_plan.specs.declared.Finish.{Finish}
use Rattle.beet_errand.specs.Errands.{Answer}
use Rattle.beet_errand.specs.Fetches.{Reads}
use Rattle.beet_errand.specs.declared.answer.Stop.{Stop}
use Rattle.beet_load.specs.Collecting.{curves_of}
use Rattle.beet_load.specs.Servers.{ServerWords, masks_of}
use Rattle.beet_load.proofs.Inputs.{inputs-shares, is-book}
use Rattle.beet_run.specs.Runs.{EndsAuction}
use Rattle.beet_run.proofs.BookRuns.{book-run, inputs-many}
use Rattle.beet_job_trial.specs.Adding.{CarrySums}
use Rattle.beet_job_trial.specs.Sizes.{AreSizes}
use Rattle.beet_job_trial.specs.Rules.{trial_grid, trial_curve, trial_farmer, trial_farmers, trial_servers, trial_book}
use Rattle.beet_job_trial.specs.Trial.{sized_answer, trial_answer, trial_over, trial_job}
use Rattle.beet_job_trial.proofs.Curves.{is-curve, is-of-grid}
use Rattle.beet_bids.specs.declared.grid.TheConstants.{MOST_PRICES}
use Rattle.beet_words.specs.declared.bundle.TheConstants.{MOST_BIDDERS}

-- what holds of the curve of each place holds of all curves
each-curve : (P : Curve → Type 0) (grid : Grid) (bidders : ℕ) → ((i : ℕ) → P (trial_curve grid i)) →
    All P (curves_of (trial_farmers grid bidders))
each-curve P grid bidders each =
    All-map P (λ farmer. farmer.bidder.curve) (trial_farmers grid bidders)
    (All-map (λ (farmer : BidderWithWords). P farmer.bidder.curve) (trial_farmer grid) (range_with_len 0 bidders)
    (λ k d h. each (get_or (range_with_len 0 bidders) k d)))

-- the inputs are shares of the sums of the book
pub trial-shares : (grid : Grid) (bidders : ℕ) (totals : Totals) (inputs : Trio (List ℕ)) →
    CarrySums grid (trial_farmers grid bidders) totals → inputs ≡ wires_of totals → AreShares (sums_of (trial_book grid bidders)) inputs
trial-shares grid bidders totals inputs c e =
    inputs-shares grid totals (trial_farmers grid bidders) inputs c.shares c.prices
    (each-curve (IsOfGrid grid) grid bidders (is-of-grid grid)) e

pub trial-is-book : (grid : Grid) (bidders : ℕ) → grid.prices ≤ MOST_PRICES → bidders ≤ MOST_BIDDERS →
    IsBook (trial_book grid bidders)
trial-is-book grid bidders limit few =
    is-book grid (trial_farmers grid bidders) (each-curve IsCurve grid bidders (λ i. is-curve grid i limit))
    (each-curve (IsOfGrid grid) grid bidders (is-of-grid grid))
    (omega (arith, few, length-map-range_with_len (trial_farmer grid) 0 bidders))

-- the prices are within the limit
in-limit : (grid : Grid) (bidders prices : ℕ) → grid ≡ trial_grid prices → AreSizes bidders prices → grid.prices ≤ MOST_PRICES
in-limit grid bidders prices e sizes = subst (λ (g : Grid). g.prices ≤ MOST_PRICES) (sym e) sizes.prices_limit

-- each server has an input for each side of each price
pub trial-many : (grid : Grid) (bidders prices : ℕ) (totals : Totals) (inputs : Trio (List ℕ)) →
    grid ≡ trial_grid prices → AreSizes bidders prices →
    CarrySums grid (trial_farmers grid bidders) totals → inputs ≡ wires_of totals → (i : Point) → length (member inputs i) ≡ 2 * grid.prices
trial-many grid bidders prices totals inputs e sizes c w =
    inputs-many (trial_book grid bidders) inputs (trial-is-book grid bidders (in-limit grid bidders prices e sizes) sizes.few)
    (trial-shares grid bidders totals inputs c w)

-- the job over the grid that it begins with
pub over-grid : {grid : Grid} (bidders prices : ℕ) {seen : Seen} {result : Result Answer Stop} → grid ≡ trial_grid prices →
    Reads (λ (reply : Answer). reply) seen seen (trial_over grid bidders) result →
    Reads (λ (reply : Answer). reply) seen seen (trial_job bidders prices) result
over-grid bidders prices {seen = seen} {result = result} e r =
    subst (λ g. Reads (λ (reply : Answer). reply) seen seen (trial_over g bidders) result) e r

-- the run ends with the outcome of the book
pub trial-ends : (grid : Grid) (servers : Trio ServerWords) (bidders prices : ℕ) (totals : Totals)
    (inputs : Trio (List ℕ)) (finish : Finish) (rounds : ℕ) →
    grid ≡ trial_grid prices → servers ≡ trial_servers grid → AreSizes bidders prices → CarrySums grid (trial_farmers grid bidders) totals →
    inputs ≡ wires_of totals → EndsAuction grid inputs servers finish rounds →
    sized_answer grid bidders finish rounds ≡ trial_answer grid bidders
trial-ends grid servers bidders prices totals inputs finish rounds e s sizes c w run =
    let book = trial-is-book grid bidders (in-limit grid bidders prices e sizes) sizes.few in
    let ends = book-run (trial_book grid bidders) inputs (trial_servers grid) finish rounds book
    (trial-shares grid bidders totals inputs c w) (subst (λ x. EndsAuction grid inputs x finish rounds) s run) in
    ap (λ f. sized_answer grid bidders f rounds) ends.0
    ∙ ap (λ n. sized_answer grid bidders (book_finish (trial_book grid bidders) (masks_of (trial_servers grid))) n) ends.1
