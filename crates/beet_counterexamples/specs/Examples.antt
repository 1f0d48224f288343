-- Books of one buyer and one seller over two prices.
use Rattle.std.specs.Prelude.{ℕ, [], ◌∷◌, Some, None}
use Rattle.beet_field.specs.declared.point.Point.TheVariants.{One}
use Rattle.beet_gates.specs.declared.Gates.TheVariants.{Chain}
use Rattle.beet_bids.specs.Books.{Book}
use Rattle.beet_bids.specs.Grids.{Grid}
use Rattle.beet_bids.specs.declared.book.Bidder.{Bidder}
use Rattle.beet_bids.specs.declared.outcomes.Policy.TheVariants.{Volume}

-- the prices 100 and 110, of which the volume is opened too
abbrev pub two_prices : Grid
two_prices = record { base = 100; tick = 10; prices = 2; gates = Chain; policy = Volume }

-- a bidder that is known to server 1 and buys 5 at both prices
abbrev pub buyer : Bidder
buyer = record { known = Some One; curve = record { buy = 5 ∷ 5 ∷ []; sell = 0 ∷ 0 ∷ [] } }

-- a bidder that is known to no server and sells so much at the second price
abbrev pub seller_of : ℕ → Bidder
seller_of amount = record { known = None; curve = record { buy = 0 ∷ 0 ∷ []; sell = 0 ∷ amount ∷ [] } }

-- the book of both
abbrev pub book_selling : ℕ → Book
book_selling amount = record { grid = two_prices; bidders = buyer ∷ seller_of amount ∷ [] }
