-- Where two books do not agree for two servers of five.
use Rattle.std.specs.Prelude.{ℕ}
use Rattle.beet_bids.specs.Books.{Book}
use Rattle.beet_two_books.specs.Disagreement.{RefusesFor, RefusesUnlessAgreed}
use Rattle.beet_two_books.specs.declared.agreeing.MapFault.{MapFault}
use Rattle.beet_five_map.specs.FiveWorlds.{Agree, watching}

-- what the refusal of two books over one grid says of them, for servers a and b: bidders are counted from 1, and memory
-- runs out only if the books agree
abbrev pub Refuses : ℕ → ℕ → Book → Book → MapFault → Type 0
Refuses a b first second fault =
    RefusesUnlessAgreed (Agree a b first second) (RefusesFor (watching a b) first second) fault
