-- The relation of mapped words, but for one condition.
use Rattle.std.specs.Prelude.{◌≡◌, length}
use Rattle.beet_field.specs.Trio.{member}
use Rattle.beet_field.specs.declared.point.Point.{Point}
use Rattle.beet_words.specs.Bundles.{Words, AreWords}
use Rattle.beet_bids.specs.Books.{Book}
use Rattle.beet_auction.specs.Setups.{rounds_for, setup_for}
use Rattle.beet_map.specs.Mapped.{GateMapped}
use Rattle.beet_auction_map.specs.MappedBidders.{BiddersMapped}
use Rattle.beet_turned.specs.MappedMasks.{MasksMapped}
use Rattle.beet_two_books.specs.Losses.{losses_of}

-- words that are mapped, but that there may be any number of coefficient words that are all ones, anywhere
pub record MappedWithoutPlaces (s : Point) (first : Book) (words : Words) (second : Book)
    (words' : Words) : Type 0 where
  pub lists : length words'.bidders ≡ length words.bidders
  pub are_words : AreWords words
  pub are_words' : AreWords words'
  pub masks : MasksMapped s (losses_of first second) words.masks words'.masks
  pub bidders : BiddersMapped s first.bidders words.bidders second.bidders words'.bidders
  pub own : member words'.coefficients s ≡ member words.coefficients s
  pub numbers : GateMapped s (rounds_for first words) (setup_for first words) (setup_for second words')
