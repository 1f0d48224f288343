-- The bidders of two books as parties that deal, and their words, with which one server holds the same points.
use Rattle.std.specs.Prelude.{ℕ, List, map}
use Rattle.beet_field.specs.declared.point.Point.{Point}
use Rattle.beet_bids.specs.declared.book.Bidder.{Bidder}
use Rattle.beet_book.specs.Dealing.{quantities}
use Rattle.beet_mapped.specs.Dealers.{Party, DealersMapped, dealers_of}

-- a bidder deals the quantities of its curve: buy at each place, and then sell
abbrev pub party_of : Bidder → Party
party_of bidder = record { known = bidder.known; quantities = quantities bidder.curve }

-- the words of bidders and those of others, mapped for server s
abbrev pub BiddersMapped : Point → List Bidder → List (List ℕ) → List Bidder → List (List ℕ) → Type 0
BiddersMapped s bidders words others words' =
    DealersMapped s (dealers_of (map party_of bidders) words) (dealers_of (map party_of others) words')
