-- Where two books do not agree for one server.
use Rattle.beet_field.specs.declared.point.Point.{Point}
use Rattle.beet_bids.specs.Books.{Book}
use Rattle.beet_two_books.specs.Agreement.{Agree, SameKnown}
use Rattle.beet_two_books.specs.Disagreement.{KnownDiffersAt, RefusesUnlessAgreed, RefusesWhere}
use Rattle.beet_two_books.specs.declared.agreeing.MapFault.{MapFault}

-- what the refusal of two books over one grid says of them: own bidders are those known to the server
abbrev pub Refuses : Point → Book → Book → MapFault → Type 0
Refuses s first second fault =
    RefusesWhere (SameKnown s first second) (KnownDiffersAt s first.bidders second.bidders) first second fault

-- why words are not mapped from one book to another: memory runs out only if the books agree
abbrev pub RefusesMap : Point → Book → Book → MapFault → Type 0
RefusesMap s first second fault = RefusesUnlessAgreed (Agree s first second) (Refuses s first second) fault
