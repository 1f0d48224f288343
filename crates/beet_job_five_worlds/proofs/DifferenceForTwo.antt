-- The difference that is told of two books is the first by which two servers together can tell them apart.
use Rattle.std.proofs.Common.{◌≡◌, ℕ, Bool, true, true≢false, Option, Some, None, refl, sym, ap, ◌∙◌}
use Rattle.beet_field.specs.declared.point.Point.{Point}
use Rattle.beet_bids.specs.Books.{Book}
use Rattle.beet_errand.specs.declared.answer.Stop.{Stop}
use Rattle.beet_two_books.specs.Agreement.{is_known}
use Rattle.beet_two_books.specs.Disagreement.{RefusesFor}
use Rattle.beet_two_books.specs.declared.agreeing.MapFault.{MapFault}
use Rattle.beet_two_books.specs.declared.agreeing.MapFault.TheVariants.{ShapeDiffers, OwnBidsDiffer, OutcomesDiffer, OutOfMemory}
use Rattle.beet_differences.specs.Comparing.{TellsApart}
use Rattle.beet_differences.proofs.Comparing.{apart-memory, apart-told}
use Rattle.beet_five_map.specs.FiveDisagreement.{Refuses}
use Rattle.beet_five_map.specs.FiveWorlds.{Agree, watching}
use Rattle.beet_book_differences.specs.Differences.{difference_for, refused_text}
use Rattle.beet_book_differences.specs.Refusals.{TellsRefusal}
use Rattle.beet_book_differences.proofs.DifferenceFacts.{none-told, outcomes-told, own-told, shape-told}
use Rattle.beet_job_five_worlds.specs.Ending.{difference_for_two}

-- a mark that is known names a server that passes the test
known-by : (knows : Point → Bool) (mark : Option Point) → is_known knows mark ≡ true → (s : Point) × (mark ≡ Some s) × (knows s ≡ true)
known-by knows None e = absurd (true≢false (sym e))
known-by knows (Some s) e = (s, refl, e)

module _ (knows : Point → Bool) (first second : Book) where
  -- a refusal for the servers that pass a test tells the difference for the marks that name them
  refused-tells : (fault : MapFault) → RefusesFor knows first second fault →
      difference_for (is_known knows) first second ≡ Some fault
  refused-tells (ShapeDiffers bidder) (n, e, d) =
      shape-told (is_known knows) first second n d ∙ ap (λ b. Some (ShapeDiffers b)) (sym e)
  refused-tells (OwnBidsDiffer bidder) (marks, (n, e, d)) =
      own-told (is_known knows) first second marks n d.here.one d.here.other d.here.is_one d.here.is_other
      (ap (is_known knows) d.here.known ∙ d.is_known) d.here.here
      (λ k v w lt g i known. let m = known-by knows v.known known in d.before m.0 m.2 k v w lt g i m.1)
      ∙ ap (λ b. Some (OwnBidsDiffer b)) (sym e)
  refused-tells (OutcomesDiffer one other) (marks, own, (e, f, ne)) =
      outcomes-told (is_known knows) first second marks
      (λ n x y g h known. let m = known-by knows x.known known in own m.0 m.2 n x y g h m.1) (λ is. ne (f ∙ is ∙ sym e))
      ∙ (λ i. Some (OutcomesDiffer (sym e i) (sym f i)))
  refused-tells OutOfMemory r = absurd r

-- there is none between books that agree
pub no-difference : (a b : ℕ) (first second : Book) → Agree a b first second → difference_for_two a b first second ≡ None
no-difference a b first second agree =
    none-told (is_known (watching a b)) first second agree.marks
    (λ n x y g h known. let m = known-by (watching a b) x.known known in agree.own m.0 m.2 n x y g h m.1) agree.outcomes

pub the-difference : (a b : ℕ) (first second : Book) (fault : MapFault) → RefusesFor (watching a b) first second fault →
    difference_for_two a b first second ≡ Some fault
the-difference a b first second fault r = refused-tells (watching a b) first second fault r

-- so the line of the fault tells them apart
pub refusal-tells : (a b : ℕ) (first second : Book) (fault : MapFault) → Refuses a b first second fault → (stop : Stop) →
    TellsRefusal fault stop → TellsApart refused_text (difference_for_two a b first second) stop
refusal-tells a b first second (ShapeDiffers bidder) r stop t =
    apart-told refused_text (difference_for_two a b first second) (ShapeDiffers bidder) stop
    (the-difference a b first second (ShapeDiffers bidder) r) t
refusal-tells a b first second (OwnBidsDiffer bidder) r stop t =
    apart-told refused_text (difference_for_two a b first second) (OwnBidsDiffer bidder) stop
    (the-difference a b first second (OwnBidsDiffer bidder) r) t
refusal-tells a b first second (OutcomesDiffer one other) r stop t =
    apart-told refused_text (difference_for_two a b first second) (OutcomesDiffer one other) stop
    (the-difference a b first second (OutcomesDiffer one other) r) t
refusal-tells a b first second OutOfMemory r stop t =
    rw t (apart-memory refused_text (difference_for_two a b first second))
