-- What servers can tell two books apart by, if one server alone watches.
use Rattle.std.proofs.Common.{◌≡◌, Bool, true, subst}
use Rattle.beet_field.specs.declared.point.Point.{Point}
use Rattle.beet_bids.specs.Books.{Book}
use Rattle.beet_two_books.specs.Agreement.{Agree, AgreeFor}
use Rattle.beet_two_books.specs.Disagreement.{KnownDiffersAt, RefusesFor}
use Rattle.beet_auction_map.specs.Disagreement.{Refuses}
use Rattle.beet_two_books.specs.declared.agreeing.MapFault.{MapFault}
use Rattle.beet_two_books.specs.declared.agreeing.MapFault.TheVariants.{ShapeDiffers, OwnBidsDiffer, OutcomesDiffer, OutOfMemory}

module _ (knows : Point → Bool) (me : Point) (alone : (s : Point) → knows s ≡ true → s ≡ me) (here : knows me ≡ true)
    (first second : Book) where
  pub agree-one : AgreeFor knows first second → Agree me first second
  agree-one a = record { grids = a.grids; marks = a.marks; own = a.own me here; outcomes = a.outcomes }

  pub agree-alone : Agree me first second → AgreeFor knows first second
  agree-alone a = record {
    grids = a.grids;
    marks = a.marks;
    own = λ s k. rw (alone s k) a.own;
    outcomes = a.outcomes;
  }

  pub refuses-one : (fault : MapFault) → RefusesFor knows first second fault → Refuses me first second fault
  refuses-one (ShapeDiffers bidder) r = r
  refuses-one (OwnBidsDiffer bidder) (marks, (n, e, d)) =
      (marks, (n, e, subst (λ s. KnownDiffersAt s first.bidders second.bidders n) (alone d.server d.is_known) d.here))
  refuses-one (OutcomesDiffer one other) (marks, own, r) = (marks, own me here, r)
  refuses-one OutOfMemory r = absurd r
