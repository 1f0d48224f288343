-- Mapped words are as long.
use Rattle.std.proofs.Common.{◌≡◌, map, length, sym, ◌∙◌}
use Rattle.std.proofs.lemmas.List.{length-map}
use Rattle.beet_field.specs.Trio.{member}
use Rattle.beet_field.specs.declared.point.Point.{Point}
use Rattle.beet_words.specs.Bundles.{Words}
use Rattle.beet_words.proofs.WordLists.{ones-long}
use Rattle.beet_bids.specs.Books.{Book}
use Rattle.beet_mapped.proofs.DealerFacts.{lists-alike, lists-long}
use Rattle.beet_auction_map.specs.MappedBidders.{party_of}
use Rattle.beet_auction_map.specs.MappedWords.{Mapped}
use Rattle.beet_headline.specs.Statements.{AreAsLong}

pub as-long : (s : Point) (first : Book) (words : Words) (second : Book) (words' : Words) → length words.bidders ≡ length first.bidders →
    length words'.bidders ≡ length second.bidders → Mapped s first words second words' → AreAsLong words words'
as-long s first words second words' a b m = record {
  masks = m.masks.lengths;
  coefficients = λ j. ones-long (member words.coefficients j) (member words'.coefficients j) (m.places j);
  bidders = lists-long words.bidders words'.bidders
      (lists-alike s (map party_of first.bidders) (map party_of second.bidders) words.bidders words'.bidders
      (a ∙ sym (length-map first.bidders party_of))
      (b ∙ sym (length-map second.bidders party_of)) m.dealers);
}
