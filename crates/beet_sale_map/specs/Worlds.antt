-- The words of two worlds of a sale that one server cannot tell apart.
use Rattle.std.specs.Prelude.{ℕ, ◌-◌, List, length, map, slice_index, [], ◌∷◌}
use Rattle.beet_field.specs.Trio.{trio_of}
use Rattle.beet_field.specs.declared.point.Point.{Point}
use Rattle.beet_gates.specs.declared.Gates.{Gates}
use Rattle.beet_words.specs.Bundles.{Words}
use Rattle.beet_shamir.specs.Line.{point_of}
use Rattle.beet_words.specs.Words.{accepted}
use Rattle.beet_mapped.specs.Dealers.{Party, Dealer, dealers_of}
use Rattle.beet_mapped.specs.Trades.{IsOnly, Trade, TradesMapped}
use Rattle.beet_sale_plan.specs.Sale.{sale_batch, most_rounds}
use Rattle.beet_sale_file.specs.declared.rows.SaleBid.{SaleBid}
use Rattle.beet_sale_map.specs.Bids.{bids_of, sale_over}
use Rattle.beet_sale_map.specs.Losses.{losses_of}

-- who makes a bid deals one quantity, the bid
abbrev pub party_of : SaleBid → Party
party_of bid = record { known = bid.known; quantities = bid.bid ∷ [] }

-- the bid of who deals it, the number that is drawn for it from the words, and its point at a server
abbrev pub bid_in : Dealer → ℕ
bid_in dealer = slice_index dealer.party.quantities 0

abbrev pub slope_in : Dealer → ℕ
slope_in dealer = slice_index (accepted dealer.words) 0

abbrev pub point_in : Dealer → Point → ℕ
point_in dealer i = point_of (bid_in dealer) (slope_in dealer) i

-- the point of each bid at a server: the inputs
abbrev pub points_of : List Dealer → Point → List ℕ
points_of dealers i = map (λ d. point_in d i) dealers

-- the sale of bids with this kind of gates
abbrev pub trade_of : Gates → List SaleBid → Trade
trade_of gates bids = record {
  next = sale_batch (sale_over gates bids);
  most = most_rounds (sale_over gates bids);
  parties = map party_of bids;
  inputs = λ words. trio_of (points_of (dealers_of (map party_of bids) words));
}

-- what the comparisons of a first sale lose in a second
abbrev pub losses_between : List SaleBid → List SaleBid → List ℕ
losses_between first second = losses_of (length first - 1) (bids_of first) (bids_of second)

-- the words of two sales, mapped for server s
abbrev pub Mapped : Point → Gates → List SaleBid → Words → List SaleBid → Words → Type 0
Mapped s gates first words second words' =
    TradesMapped s (losses_between first second) (trade_of gates first) words (trade_of gates second) words'

-- no other words of the second sale go with those of the first
abbrev pub IsOnlySecond : Point → Gates → List SaleBid → Words → List SaleBid → Words → Type 0
IsOnlySecond s gates first words second words' = IsOnly (Mapped s gates first words second) words'

-- and no other words of the first sale go with those of the second
abbrev pub IsOnlyFirst : Point → Gates → List SaleBid → Words → List SaleBid → Words → Type 0
IsOnlyFirst s gates first words second words' = IsOnly (λ other. Mapped s gates first other second words') words
