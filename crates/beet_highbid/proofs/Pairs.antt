-- Words of two sales that go with each other.
use Rattle.std.proofs.Common.{List, ap, subst, sym}
use Rattle.beet_field.specs.declared.point.Point.{Point}
use Rattle.beet_gates.specs.declared.Gates.{Gates}
use Rattle.beet_words.specs.Bundles.{AreWords, Words}
use Rattle.beet_sale_file.specs.declared.rows.SaleBid.{SaleBid}
use Rattle.beet_sale_map.specs.MappedSales.{SalesMapped}
use Rattle.beet_sale_map.specs.Worlds.{Mapped}
use Rattle.beet_sale_map.proofs.Pairing.{first-there, second-there}
use Rattle.beet_sale_map.specs.Bids.{AreTwoSales}
use Rattle.beet_highbid.specs.SalePairs.{AreOneSalePair, CanSell}
use Rattle.beet_highbid.specs.SaleViews.{sale_bytes}
use Rattle.beet_highbid.proofs.SeenBids.{views-same}

pub one-pair : (s : Point) (gates : Gates) (first second : List SaleBid) (words words' : Words) → AreTwoSales s first second →
    CanSell first words → AreWords words' → SalesMapped s gates first words second words' →
    AreOneSalePair s gates first words second words'
one-pair s gates first second words words' two sells are m =
    let views = views-same s gates first second words words' two.first_bids two.second_bids two.agree sells.enough m in
    record {
      mapped = m.mapped;
      only_second = m.only;
      only_first = m.back;
      first_sells = sells;
      second_sells = record { are_words = are; enough = m.enough };
      views = views;
      transcripts = ap sale_bytes views;
    }

-- words of the second sale, from those of the first
pub pair-there : (s : Point) (gates : Gates) (first second : List SaleBid) (words : Words) → AreTwoSales s first second →
    CanSell first words → (words' : Words) × AreOneSalePair s gates first words second words'
pair-there s gates first second words two sells =
    let found = second-there s gates first second words two.first_bids two.second_bids two.agree sells.are_words sells.enough in
    (found.0, one-pair s gates first second words found.0 two sells found.1 found.2)

-- and those of the first, from those of the second
pub pair-here : (s : Point) (gates : Gates) (first second : List SaleBid) (words' : Words) → AreTwoSales s first second →
    CanSell second words' → (words : Words) × AreOneSalePair s gates first words second words'
pair-here s gates first second words' two sells =
    let found = first-there s gates first second words' two.first_bids two.second_bids two.agree sells.are_words sells.enough in
    let sells' : CanSell first found.0 = record { are_words = found.1; enough = found.2 } in
    (found.0, one-pair s gates first second found.0 words' two sells' sells.are_words found.3)

-- words that are mapped are these
pub mapped-pair : (s : Point) (gates : Gates) (first second : List SaleBid) (words words' : Words) → AreTwoSales s first second →
    CanSell first words → Mapped s gates first words second words' → AreOneSalePair s gates first words second words'
mapped-pair s gates first second words words' two sells m =
    let found = pair-there s gates first second words two sells in
    subst (AreOneSalePair s gates first words second) (sym (found.1.only_second words' m)) found.1
