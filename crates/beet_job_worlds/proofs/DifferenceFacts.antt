-- A refusal of two books tells the first difference between them.
use Rattle.std.proofs.Common.{◌≡◌, Some, None, sym, ap, ◌∙◌}
use Rattle.beet_field.specs.declared.point.Point.{Point}
use Rattle.beet_bids.specs.Books.{Book}
use Rattle.beet_view.specs.BookViews.{names}
use Rattle.beet_view.proofs.Marks.{names-is, names-own}
use Rattle.beet_two_books.specs.Agreement.{Agree}
use Rattle.beet_auction_map.specs.Disagreement.{Refuses}
use Rattle.beet_two_books.specs.declared.agreeing.MapFault.{MapFault}
use Rattle.beet_two_books.specs.declared.agreeing.MapFault.TheVariants.{ShapeDiffers, OwnBidsDiffer, OutcomesDiffer, OutOfMemory}
use Rattle.beet_book_differences.specs.Differences.{difference_between}
use Rattle.beet_book_differences.proofs.DifferenceFacts.{none-told, outcomes-told, own-told, shape-told}

-- there is none between books that agree
pub no-difference : (s : Point) (first second : Book) → Agree s first second → difference_between s first second ≡ None
no-difference s first second a =
    none-told (λ mark. names mark s) first second a.marks (λ n x y e f h. a.own n x y e f (names-is x.known s h)) a.outcomes

-- a refusal tells it
pub the-difference : (s : Point) (first second : Book) (fault : MapFault) → Refuses s first second fault →
    difference_between s first second ≡ Some fault
the-difference s first second (ShapeDiffers bidder) (n, e, d) =
    shape-told (λ mark. names mark s) first second n d ∙ ap (λ b. Some (ShapeDiffers b)) (sym e)
the-difference s first second (OwnBidsDiffer bidder) (marks, (n, e, d)) =
    own-told (λ mark. names mark s) first second marks n d.one d.other d.is_one d.is_other (names-own d.one.known s d.known) d.here
    (λ k v w lt g i known. d.before k v w lt g i (names-is v.known s known))
    ∙ ap (λ b. Some (OwnBidsDiffer b)) (sym e)
the-difference s first second (OutcomesDiffer one other) (marks, own, (e, f, ne)) =
    outcomes-told (λ mark. names mark s) first second marks (λ n x y g h known. own n x y g h (names-is x.known s known))
    (λ is. ne (f ∙ is ∙ sym e))
    ∙ (λ i. Some (OutcomesDiffer (sym e i) (sym f i)))
the-difference s first second OutOfMemory r = absurd r
