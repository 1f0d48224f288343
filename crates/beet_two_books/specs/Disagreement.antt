-- Where two books do not agree for servers that pass a test.
use Rattle.std.specs.Prelude.{◌≡◌, ◌≢◌, ◌+◌, ℕ, List, Bool, true}
use Rattle.beet_field.specs.declared.point.Point.{Point}
use Rattle.beet_map.specs.Agreement.{KnownDiffersAt as DiffersAt, SameKnownBefore}
use Rattle.beet_map.specs.Refused.{DifferFirst}
use Rattle.beet_bids.specs.Books.{Book}
use Rattle.beet_bids.specs.Outcomes.{outcome_of}
use Rattle.beet_bids.specs.declared.book.Bidder.{Bidder}
use Rattle.beet_two_books.specs.Agreement.{AllSame, marks_of}
use Rattle.beet_two_books.specs.declared.agreeing.MapFault.{MapFault}
use Rattle.beet_two_books.specs.declared.agreeing.MapFault.TheVariants.{ShapeDiffers, OwnBidsDiffer, OutcomesDiffer}
use Rattle.beet_two_books.specs.declared.agreeing.MapFault.TheVariants.{OutOfMemory}

-- the bidder at this place is known to the server and has another curve in the second book, and none before it
abbrev pub KnownDiffersAt : Point → List Bidder → List Bidder → ℕ → Type 0
KnownDiffersAt s bidders others n = DiffersAt (λ bidder. bidder.known) (λ bidder. bidder.curve) s bidders others n

-- the bidder at this place is known to such a server and has another curve in the second book, and none before it
pub record DiffersFor (knows : Point → Bool) (bidders others : List Bidder) (n : ℕ) : Type 0 where
  pub before : (s : Point) → knows s ≡ true →
      SameKnownBefore (λ bidder. bidder.known) (λ bidder. bidder.curve) s bidders others n
  pub server : Point
  pub is_known : knows server ≡ true
  pub here : KnownDiffersAt server bidders others n

-- what the refusal of two books over one grid says of them, from what it means that own bidders have the same curves,
-- and that one at a place has another: bidders are counted from 1
abbrev pub RefusesWhere : Type 0 → (ℕ → Type 0) → Book → Book → MapFault → Type 0
RefusesWhere same_own own_differs first second (ShapeDiffers bidder) =
    (n : ℕ) × (bidder ≡ n + 1) × DifferFirst (marks_of first) (marks_of second) n
RefusesWhere same_own own_differs first second (OwnBidsDiffer bidder) =
    (marks_of second ≡ marks_of first) × ((n : ℕ) × (bidder ≡ n + 1) × own_differs n)
RefusesWhere same_own own_differs first second (OutcomesDiffer one other) =
    (marks_of second ≡ marks_of first) × same_own
    × ((one ≡ outcome_of first) × (other ≡ outcome_of second) × (other ≢ one))
RefusesWhere same_own own_differs first second OutOfMemory = ⊥

-- the same, of own bidders that are those known to a server that passes a test
abbrev pub RefusesFor : (Point → Bool) → Book → Book → MapFault → Type 0
RefusesFor knows first second fault =
    RefusesWhere (AllSame knows first second) (DiffersFor knows first.bidders second.bidders) first second fault

-- why words are not mapped from one book to another: memory runs out only if the books agree
abbrev pub RefusesUnlessAgreed : Type 0 → (MapFault → Type 0) → MapFault → Type 0
RefusesUnlessAgreed agree refuses OutOfMemory = agree
RefusesUnlessAgreed agree refuses fault = refuses fault
