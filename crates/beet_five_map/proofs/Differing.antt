-- A refusal of books for two servers, by the servers that watch.
use Rattle.std.proofs.Common.{◌≡◌, ℕ, Bool, subst}
use Rattle.beet_field.specs.declared.point.Point.{Point}
use Rattle.beet_bids.specs.Books.{Book}
use Rattle.beet_two_books.specs.Disagreement.{RefusesFor}
use Rattle.beet_two_books.specs.declared.agreeing.MapFault.{MapFault}
use Rattle.beet_two_books.proofs.Refused.{refused-map}
use Rattle.beet_five_map.specs.FiveDisagreement.{Refuses}
use Rattle.beet_five_map.specs.FiveWorlds.{Agree, watching}

pub refused-for : (a b : ℕ) (knows : Point → Bool) → ((s : Point) → knows s ≡ watching a b s) → (first second : Book) (fault : MapFault) →
    RefusesFor knows first second fault → Refuses a b first second fault
refused-for a b knows same first second fault r =
    let is : knows ≡ watching a b = λ i s. same s i in
    refused-map (Agree a b first second) (RefusesFor (watching a b) first second) (λ never. never) fault
    (subst (λ test. RefusesFor test first second fault) is r)
