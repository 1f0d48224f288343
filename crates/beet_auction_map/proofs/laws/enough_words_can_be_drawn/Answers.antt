use Rattle.std.proofs.Common.{◌≤◌, ◌*◌, length}
use Rattle.beet_field.specs.Trio.{member}
use Rattle.beet_field.specs.declared.point.Point.{Point}
use Rattle.beet_field.specs.declared.point.Point.TheVariants.{One, Two, Three}
use Rattle.beet_words.specs.Bundles.{Words}
use Rattle.beet_words.specs.Words.{accepted}
use Rattle.beet_bids.specs.Books.{Book}
use Rattle.beet_plan.specs.Auction.{most_coefficients, auction_over}
use Rattle.beet_trades.proofs.Drawn.{all-drawn, drawn-of}
use Rattle.beet_auction_map.specs.Enough.{AreEnough}
use Rattle.beet_auction_map.proofs.laws.enough_words_can_be_drawn.Goals as goal

of-server : (book : Book) (words : Words) (j : Point) → AreEnough book words →
    most_coefficients (auction_over book.grid) ≤ length (accepted (member words.coefficients j))
of-server book words One e = drawn-of (most_coefficients (auction_over book.grid)) words.coefficients.one e.one
of-server book words Two e = drawn-of (most_coefficients (auction_over book.grid)) words.coefficients.two e.two
of-server book words Three e = drawn-of (most_coefficients (auction_over book.grid)) words.coefficients.three e.three

pub returns-clause-coefficients : goal.returns-clause-coefficients
returns-clause-coefficients c = of-server

pub returns-clause-bidders : goal.returns-clause-bidders
returns-clause-bidders c = λ book words e. all-drawn (2 * book.grid.prices) words.bidders e.bidders
