-- Two sales that one server cannot tell apart, and words of both that go with each other.
use Rattle.std.specs.Prelude.{◌≡◌, ◌≢◌, ◌+◌, ◌-◌, ℕ, List, Some, slice_get}
use Rattle.beet_field.specs.declared.point.Point.{Point}
use Rattle.beet_gates.specs.declared.Gates.{Gates}
use Rattle.beet_words.specs.Bundles.{AreWords, Words}
use Rattle.beet_sale_file.specs.declared.rows.SaleBid.{SaleBid}
use Rattle.beet_sale_plan.specs.Outcome.{IsSale}
use Rattle.beet_sale_map.specs.Bids.{AreSaleBids, HaveOneShape, bids_of}
use Rattle.beet_sale_map.specs.Enough.{AreEnough}
use Rattle.beet_sale_map.specs.Worlds.{IsOnlyFirst, IsOnlySecond, Mapped}
use Rattle.beet_highbid.specs.SaleViews.{sale_transcript, view_of_sale}

-- two lists of bids within their limits in which one bidder wins at one price, and no bid but the winner's is another,
-- which server s does not know
pub record DifferInTheWinningBid (s : Point) (first second : List SaleBid) : Type 0 where
  pub first_bids : AreSaleBids first
  pub second_bids : AreSaleBids second
  pub shape : HaveOneShape first second
  pub winner : ℕ
  pub price : ℕ
  pub sold : IsSale (bids_of first) winner price
  pub sold' : IsSale (bids_of second) winner price
  pub unknown : (bid : SaleBid) → slice_get first (winner - 1) ≡ Some bid → bid.known ≢ Some s
  pub others : (k : ℕ) (one other : SaleBid) → k + 1 ≢ winner → slice_get first k ≡ Some one →
      slice_get second k ≡ Some other → other.bid ≡ one.bid

-- words with which a sale can be run: each is below 2^61, and they are enough
pub record CanSell (bids : List SaleBid) (words : Words) : Type 0 where
  pub are_words : AreWords words
  pub enough : AreEnough bids words

-- words of two sales that go with each other, and with no others, and with which both can be run; server s sees the
-- same
pub record AreOneSalePair (s : Point) (gates : Gates) (first : List SaleBid) (words : Words) (second : List SaleBid)
    (words' : Words) : Type 0 where
  pub mapped : Mapped s gates first words second words'
  pub only_second : IsOnlySecond s gates first words second words'
  pub only_first : IsOnlyFirst s gates first words second words'
  pub first_sells : CanSell first words
  pub second_sells : CanSell second words'
  pub views : view_of_sale gates second words' s ≡ view_of_sale gates first words s
  pub transcripts : sale_transcript gates second words' s ≡ sale_transcript gates first words s
