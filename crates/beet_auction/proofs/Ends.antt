-- How the auction of a book ends.
use Rattle.std.proofs.Common.{◌≡◌, ℕ, ◌*◌, List, [], length, refl, sym, ◌∙◌, ap, subst, inl, inr, ◌==◌}
use Rattle.std.proofs.lemmas.Bool.{cases_Bool}
use Rattle.beet_gates.specs.Clear.{clear_values, rounds_run}
use Rattle.beet_gates.specs.Plans.{plan_finish}
use Rattle.beet_gates.specs.Scripts.{LawFrom, bounds_of, start_of}
use Rattle.beet_bids.specs.Books.{Book, IsBook}
use Rattle.beet_bids.specs.Outcomes.{clearing_place, outcome_of}
use Rattle.beet_plan.specs.Auction.{Auction, auction_over, auction_plan, auction_batch, most_rounds, most_wires}
use Rattle.beet_plan.specs.Auction.{most_masks, most_coefficients}
use Rattle.beet_masking.specs.Masks.{AreMasks, mask_at}
use Rattle.beet_plan.specs.Runs.{RunEnds, finish_of, run_finish, run_rounds}
use Rattle.beet_bids.specs.Sums.{sums_of}
use Rattle.beet_plan.proofs.BookRuns.{book-run}
use Rattle.beet_bids.proofs.BookSums.{length-sums}
use Rattle.beet_sharing.specs.Runs.{Setup, shared_at, rounds_among}
use Rattle.beet_sharing.specs.Lines.{OnLines}
use Rattle.beet_sharing.proofs.Rounds.{ends-alike, lawful-rounds}
use Rattle.beet_delivery.specs.Events.{after, passed}
use Rattle.beet_server.specs.Endings.{Ends}
use Rattle.beet_plan.proofs.AuctionLaw.{auction-law}
use Rattle.beet_plan.specs.declared.Finish.{Finish}
use Rattle.beet_auction.specs.Endings.{AuctionEnds, EndsAlways, book_finish, book_rounds}

-- a run on lines ends as the run on their values does
pub lines-end : (a : Auction) (o : Setup) (values slopes : List ℕ) (z : ℕ) (finish : Finish) → length values ≡ 2 * a.prices →
    o.next ≡ auction_batch a → OnLines values slopes o.inputs → RunEnds a values o.masks z finish →
    AuctionEnds a o (run_rounds a (mask_at o.masks) z) (run_finish a.prices (mask_at o.masks) z finish)
lines-end a o values slopes z finish len next lines run =
    let law : LawFrom o.next (bounds_of (most_wires a) (most_masks a) (most_coefficients a)) (most_rounds a) (start_of (length values)) [] =
    rw len (subst (λ n. LawFrom n (bounds_of (most_wires a) (most_masks a) (most_coefficients a)) (most_rounds a)
    (start_of (2 * a.prices)) []) (sym next) (auction-law a)) in
    let alike = ends-alike o (bounds_of (most_wires a) (most_masks a) (most_coefficients a)) (most_rounds a) values slopes law lines in
    let counted : rounds_among o (most_rounds a) ≡ run_rounds a (mask_at o.masks) z =
    alike.0 ∙ ap (λ n. rounds_run n (most_rounds a) values o.masks) next ∙ run.rounds in
    record {
      has_rounds = rw counted at (lawful-rounds o (bounds_of (most_wires a) (most_masks a) (most_coefficients a))
          (most_rounds a) (length values) law).0;
      counted = counted;
      finish_named = ap (λ r. plan_finish (auction_plan a) (shared_at o r).opened) (sym counted)
          ∙ ap (plan_finish (auction_plan a))
          (alike.1 ∙ ap (λ n. (clear_values n (most_rounds a) values o.masks).opened) next) ∙ run.ends;
    }

-- a run on lines with the sums of a book ends with the book's outcome or spent, after its rounds
pub book-ends : (book : Book) (o : Setup) (slopes : List ℕ) → IsBook book → AreMasks o.masks →
    o.next ≡ auction_batch (auction_over book.grid) → OnLines (sums_of book) slopes o.inputs →
    AuctionEnds (auction_over book.grid) o (book_rounds book o.masks) (book_finish book o.masks)
book-ends book o slopes b m next lines =
    lines-end (auction_over book.grid) o (sums_of book) slopes (clearing_place book) (finish_of (outcome_of book))
    (length-sums book) next lines (book-run book o.masks b m)

-- after every list of events a server waits or has ended so
pub ends-always : (a : Auction) (o : Setup) (rounds : ℕ) (finish : Finish) → AuctionEnds a o rounds finish → EndsAlways a o rounds finish
ends-always a o rounds finish e es s = elim (cases_Bool (passed rounds (after rounds es) s == rounds)) [
  | inl there ↦ inr (rw there (ap Ends e.finish_named))
  | inr before ↦ inl (rw before refl)
]
