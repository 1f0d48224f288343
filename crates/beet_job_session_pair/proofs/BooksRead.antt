-- The books of the second session, one after another.
use Rattle.std.proofs.Common.{◌≡◌, ◌+◌, ◌*◌, ℕ, List, [], ◌∷◌, ◌++◌, length, Result, Ok, Err, IfOk, Vec, Global, sym, ap, ◌∙◌}
use Rattle.std.proofs.lemmas.List.Sums.{sum_by_push}
use Rattle.beet_store.specs.Files.{Seen}
use Rattle.beet_job_session_pair.specs.Reading.{taken_by_books}
use Rattle.beet_bids.specs.Books.{Book}
use Rattle.beet_bids.specs.Grids.{Grid}
use Rattle.beet_bids.specs.declared.book.Bidder.{Bidder}
use Rattle.beet_errand.specs.Errands.{Step, ◌>>=◌, gives}
use Rattle.beet_errand.specs.Fetches.{Reads}
use Rattle.beet_errand.specs.declared.answer.Stop.{Stop}
use Rattle.beet_errand.proofs.Frame.{bind, given, stopped}

-- the bidders that are read are those of a book over the grid
pub as-book : {old now : Seen} {step : Step (List Bidder)} (grid : Grid) (result : Result Book Stop) →
    IfOk result (λ book. book.grid ≡ grid) → Reads (λ (book : Book). book.bidders) old now step result →
    Reads (λ book. book) old now (step >>= (λ bidders. gives {A = Book} (record { grid = grid; bidders = bidders }))) result
as-book grid (Ok book) e r =
    bind r (given (ap (λ (g : Grid). record { grid = g; bidders = book.bidders }) (sym e)))
as-book grid (Err stop) e r = stopped r

-- the books that are read are those that are kept
abbrev pub KeepsBooks : Vec Book Global → List Book → Type 0
KeepsBooks kept books = books ≡ kept.items

-- one book more takes what it takes
pub taken-more : (before after : List Book) (book : Book) (product more : ℕ) → product ≡ taken_by_books before →
    more ≡ product + length book.bidders * book.grid.prices → after ≡ before ++ book ∷ [] → more ≡ taken_by_books after
taken-more before after book product more e f g =
    f ∙ ap (λ n. n + length book.bidders * book.grid.prices) e
    ∙ sym (sum_by_push (λ (b : Book). length b.bidders * b.grid.prices) before book) ∙ ap taken_by_books (sym g)
