-- Mapped words are enough where the first are.
use Rattle.std.proofs.Common.{◌≡◌, map, length, sym, subst, ◌∙◌}
use Rattle.std.proofs.lemmas.List.{length-map}
use Rattle.beet_field.specs.Trio.{member}
use Rattle.beet_field.specs.declared.point.Point.{Point}
use Rattle.beet_words.specs.Bundles.{Words}
use Rattle.beet_words.specs.Words.{ones_in}
use Rattle.beet_bids.specs.Books.{Book}
use Rattle.beet_bids.specs.declared.book.Bidder.{Bidder}
use Rattle.beet_turned.specs.MappedMasks.{MasksMapped}
use Rattle.beet_trades.specs.Enough.{HasEnough}
use Rattle.beet_map.proofs.Disagreeing.{as-many}
use Rattle.beet_trades.proofs.EnoughFacts.{parts-enough}
use Rattle.beet_two_books.specs.Agreement.{Agree}
use Rattle.beet_auction_map.specs.Enough.{AreEnough, wants_over}
use Rattle.beet_two_books.specs.Losses.{losses_of}
use Rattle.beet_auction_map.specs.MappedBidders.{BiddersMapped, party_of}

pub mapped-enough : (s : Point) (first second : Book) (words words' : Words) → Agree s first second →
    MasksMapped s (losses_of first second) words.masks words'.masks →
    ((j : Point) → ones_in (member words'.coefficients j) ≡ ones_in (member words.coefficients j)) →
    length words'.bidders ≡ length second.bidders →
    BiddersMapped s first.bidders words.bidders second.bidders words'.bidders →
    AreEnough first words → AreEnough second words'
mapped-enough s first second words words' agree masks places count bidders e =
    let many : length second.bidders ≡ length first.bidders = as-many (λ (b : Bidder). b.known) first.bidders second.bidders agree.marks in
    let over : HasEnough (wants_over first.grid) (length first.bidders) words' =
    parts-enough s (losses_of first second) (map party_of first.bidders) (map party_of second.bidders) words words'
    (wants_over first.grid) (length first.bidders) masks places (count ∙ many ∙ sym e.count) bidders (length-map first.bidders party_of)
    (length-map second.bidders party_of ∙ many) e in
    subst (λ n. HasEnough (wants_over second.grid) n words') (sym many)
    (subst (λ g. HasEnough (wants_over g) (length first.bidders) words') (sym agree.grids) over)
