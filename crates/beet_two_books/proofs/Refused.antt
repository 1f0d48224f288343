-- What refuses two books refuses to map words.
use Rattle.beet_two_books.specs.Disagreement.{RefusesUnlessAgreed}
use Rattle.beet_two_books.specs.declared.agreeing.MapFault.{MapFault}
use Rattle.beet_two_books.specs.declared.agreeing.MapFault.TheVariants.{ShapeDiffers, OwnBidsDiffer, OutcomesDiffer, OutOfMemory}

pub refused-map : (agree : Type 0) (refuses : MapFault → Type 0) → (refuses OutOfMemory → ⊥) → (fault : MapFault) → refuses fault →
    RefusesUnlessAgreed agree refuses fault
refused-map agree refuses never (ShapeDiffers bidder) r = r
refused-map agree refuses never (OwnBidsDiffer bidder) r = r
refused-map agree refuses never (OutcomesDiffer one other) r = r
refused-map agree refuses never OutOfMemory r = absurd (never r)
