-- How a server has ended in the auction of a book.
use Rattle.std.proofs.Common.{◌≡◌, ◌↔◌, ℕ, ◌<◌, ◌^◌, [], slice_index, slice_index_or, Option, Some, IsSome}
use Rattle.std.proofs.Common.{true, true≢false, refl, sym, ◌∙◌, ap}
use Rattle.beet_gates.specs.Clear.{is_end}
use Rattle.beet_gates.specs.Ends.{ComesTo, TellsEnd}
use Rattle.beet_gates.specs.Plans.{plan_finish}
use Rattle.beet_gates.specs.declared.Act.{Act}
use Rattle.beet_gates.specs.declared.Act.TheVariants.{Deal, Mul, Reveal, End}
use Rattle.beet_bids.specs.Books.{Book, IsBook}
use Rattle.beet_bids.specs.Sums.{sums_of}
use Rattle.beet_plan.specs.declared.Finish.{Finish}
use Rattle.beet_delivery.specs.Networks.{Delivered}
use Rattle.beet_weights.specs.Quadratics.{IsServer, of_five}
use Rattle.beet_linear_sharing.specs.Polynomials.{AreShared}
use Rattle.beet_linear_sharing.specs.Runs.{Setup, shared_at}
use Rattle.beet_linear_sharing.specs.Schemes.{five_servers}
use Rattle.beet_plan.specs.FivePlan.{FiveAuction, five_batch, five_over, five_plan}
use Rattle.beet_five_server.specs.Cores.{Work, has_ended}
use Rattle.beet_five_server.specs.Fits.{Fits}
use Rattle.beet_five_server.specs.Mails.{Mailbag}
use Rattle.beet_five_server.proofs.Passing.{ended-at}
use Rattle.beet_five_auction.specs.FiveEndings.{book_finish, book_rounds}
use Rattle.beet_five_auction.proofs.FiveEnds.{book-ends-among}

is-the-end : (a : Act) → is_end a ≡ true → a ≡ End
is-the-end Deal h = absurd (true≢false (sym h))
is-the-end (Mul pairs) h = absurd (true≢false (sym h))
is-the-end (Reveal shown) h = absurd (true≢false (sym h))
is-the-end End h = refl

-- an answer is there exactly if the server has ended
pub tells-end : (w : Work FiveAuction) (answer : Option Finish) → ComesTo (five_batch w.script) w.round w.opened →
    TellsEnd (five_batch w.script) w.opened answer → IsSome answer ↔ (has_ended five_batch w ≡ true)
tells-end w answer came tells =
    let t = tells w.round came in (
      λ some. ap is_end (t.0 some),
      λ ended. t.1 (is-the-end (five_batch w.script w.round w.opened).act ended),
    )

module _ (o : Setup) (x : Delivered ℕ) (w : Work FiveAuction) (bag : Mailbag) (f : Fits five_batch o x w bag) where
  -- a server that fits a run and has ended has the book's outcome, or spent
  pub opens-the-outcome : (book : Book) → IsBook book →
      ((k i : ℕ) → slice_index (slice_index_or (of_five o.masks) k []) i < 2 ^ 61) → w.script ≡ five_over book.grid →
      AreShared five_servers (sums_of book) o.inputs → IsServer w.me → has_ended five_batch w ≡ true →
      (plan_finish (five_plan w.script) w.opened ≡ Some (book_finish book o.masks)) × (w.round ≡ book_rounds book o.masks)
  opens-the-outcome book b few script are server ended =
      let e = book-ends-among book o b few (f.script ∙ ap five_batch script) are in
      let round : w.round ≡ book_rounds book o.masks =
      (ended-at five_batch o x w bag (book_rounds book o.masks) e.has_rounds server f).0 ended in (
        ap (λ a. plan_finish (five_plan a) w.opened) script
            ∙ ap (plan_finish (five_plan (five_over book.grid)))
            (f.opened ∙ ap (λ t. (shared_at five_servers o t).opened) round)
            ∙ e.finish_named,
        round,
      )
