-- A finish that tells an outcome tells no other, and is never that of spent masks.
use Rattle.std.proofs.Common.{◌≡◌, ◌≢◌, ℕ, Option, Some, None, false, true, refl, sym, ◌∙◌}
use Rattle.std.proofs.lemmas.Option.{same_Some}
use Rattle.beet_words.specs.Bundles.{Words}
use Rattle.beet_bids.specs.Books.{Book}
use Rattle.beet_bids.specs.Grids.{Grid, price_of}
use Rattle.beet_bids.specs.Outcomes.{outcome_at, outcome_of, reached_place}
use Rattle.beet_bids.specs.declared.outcomes.Outcome.{Outcome}
use Rattle.beet_bids.specs.declared.outcomes.Outcome.TheVariants.{Price as PriceAt, No}
use Rattle.beet_plan.specs.Runs.{finish_of}
use Rattle.beet_plan.specs.declared.Finish.{Finish}
use Rattle.beet_plan.specs.declared.Finish.TheVariants.{Price, NoPrice, MasksSpent}
use Rattle.beet_auction.specs.Endings.{book_finish}
use Rattle.beet_headline.specs.Statements.{are_spent}

pub never-spent : (outcome : Outcome) → finish_of outcome ≢ MasksSpent
never-spent (PriceAt place price volume supply) e = cc e
never-spent No e = cc e

-- the outcome that a finish tells, over a grid
outcome-in : Grid → Finish → Option Outcome
outcome-in grid (Price place volume supply) = Some (PriceAt place (price_of grid place) volume supply)
outcome-in grid NoPrice = Some No
outcome-in grid MasksSpent = None

outcome-told : (book : Book) (place : Option ℕ) → outcome-in book.grid (finish_of (outcome_at book place)) ≡ Some (outcome_at book place)
unfolding outcome-in
outcome-told book None = refl
outcome-told book (Some place) = refl

pub one-outcome : (one other : Book) → other.grid ≡ one.grid →
    finish_of (outcome_of other) ≡ finish_of (outcome_of one) → outcome_of other ≡ outcome_of one
one-outcome one other grids e =
    same_Some (outcome_of other) (outcome_of one)
    (sym (outcome-told other (reached_place other)) ∙ (λ i. outcome-in (grids i) (e i)) ∙ outcome-told one (reached_place one))

pub unspent : (book : Book) (words : Words) → are_spent book words ≡ false → book_finish book words.masks ≡ finish_of (outcome_of book)
unspent book words e = rw e refl

pub are-spent : (book : Book) (words : Words) → are_spent book words ≡ true → book_finish book words.masks ≡ MasksSpent
are-spent book words e = rw e refl
