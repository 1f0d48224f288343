-- The words of two worlds of an auction that go with each other.
use Rattle.std.proofs.Common.{◌≡◌, ◌*◌, ℕ, List, map, length, sym, refl, ap, subst, ◌∙◌}
use Rattle.std.proofs.lemmas.List.{length-map}
use Rattle.std.proofs.lemmas.List.Elements.{All-map}
use Rattle.std.proofs.lemmas.Simd.{map-map}
use Rattle.beet_field.specs.declared.point.Point.{Point}
use Rattle.beet_field.specs.declared.trio.Trio.{Trio}
use Rattle.beet_words.specs.Bundles.{AreWords, Words}
use Rattle.beet_bids.specs.Books.{Book}
use Rattle.beet_bids.specs.Grids.{Grid}
use Rattle.beet_bids.specs.declared.book.Bidder.{Bidder}
use Rattle.beet_plan.specs.Auction.{auction_batch, auction_over, most_coefficients, most_masks, most_rounds, most_wires}
use Rattle.beet_masking.specs.Masks.{AreMasks}
use Rattle.beet_plan.proofs.AuctionLaw.{auction-law}
use Rattle.beet_book.proofs.Quantities.{quantities-many}
use Rattle.beet_view.specs.Transcripts.{view_bytes}
use Rattle.beet_map.specs.Secrets.{Secrets}
use Rattle.beet_map_laws.specs.Pairs.{AreTwoWorlds, CanDraw, GoTogether}
use Rattle.beet_map_laws.proofs.Images.{image, source, two-back}
use Rattle.beet_auction_map.specs.Enough.{AreEnough, wants_over}
use Rattle.beet_mapped.specs.Dealers.{Party}
use Rattle.beet_mapped.proofs.WorldFacts.{all-words, are-masks}
use Rattle.beet_auction_map.specs.MappedBidders.{BiddersMapped, party_of}
use Rattle.beet_turned.specs.MappedMasks.{MasksMapped}
use Rattle.beet_turned.proofs.MasksThere.{masks-there}
use Rattle.beet_two_books.specs.Losses.{losses_of}
use Rattle.beet_auction_map.specs.MappedWords.{Mapped}
use Rattle.beet_auction_map.specs.Worlds.{WorldsMapped}
use Rattle.beet_auction_map.proofs.BidderFacts.{bidders-back}
use Rattle.beet_auction_map.proofs.EnoughFacts.{mapped-enough}
use Rattle.beet_two_books.proofs.MasksBack.{agree-back, books-back}
use Rattle.beet_turned.proofs.Small.{mapped-masks}
use Rattle.beet_auction_map.proofs.WorldFacts.{Stands, can-map, worlds-mapped}
use Rattle.beet_headline.specs.Statements.{AreOnePair, AreTwoBooks, CanRun}
use Rattle.beet_trades.proofs.AllWords.{all-are}
use Rattle.beet_trades.proofs.DealersThere.{MovedDealers, dealers-there}
use Rattle.beet_map.proofs.Disagreeing.{as-many}
use Rattle.beet_trades.proofs.Drawn.{all-drawn, numbers-enough}
use Rattle.beet_trades.proofs.EnoughFacts.{masks-enough}
use Rattle.beet_headline.proofs.Inputs.{lines-there, lines_of, values-small}
use Rattle.beet_headline.proofs.Lengths.{as-long}

-- mask words and bidders' words of the second world, and the lines of both
module _ (s : Point) (first second : Book) (two : AreTwoBooks s first second) (words : Words) (runs : CanRun first words) where
  abbrev prices : ℕ
  prices = first.grid.prices

  masks : (words' : Trio (List ℕ)) × MasksMapped s (losses_of first second) words.masks words'
  masks = masks-there (losses_of first second) words.masks s

  abbrev deals : Party → Type 0
  deals party = length party.quantities ≡ 2 * prices

  lists : MovedDealers s (map party_of first.bidders) (map party_of second.bidders) words.bidders
  lists =
      let known = λ (party : Party). party.known in
      dealers-there s (2 * prices) (map party_of first.bidders) (map party_of second.bidders) words.bidders
      (runs.enough.count ∙ sym (length-map first.bidders party_of))
      (map-map known party_of second.bidders ∙ two.agree.marks ∙ sym (map-map known party_of first.bidders))
      (All-map deals party_of first.bidders (λ k d lt. quantities-many first.grid _ (two.first_book.of_grid k d lt)))
      (All-map deals party_of second.bidders
      (λ k d lt. quantities-many second.grid _ (two.second_book.of_grid k d lt) ∙ ap (λ (g : Grid). 2 * g.prices) two.agree.grids))
      runs.are_words.bidders (all-drawn (2 * prices) words.bidders runs.enough.bidders)

  many : length lists.lists ≡ length second.bidders
  many = lists.count ∙ runs.enough.count ∙ sym (as-many (λ (b : Bidder). b.known) first.bidders second.bidders two.agree.marks)

  abbrev here : Secrets
  here = record { inputs = lines_of first words.bidders; masks = words.masks }

  abbrev there : Secrets
  there = record { inputs = lines_of second lists.lists; masks = masks.0 }

  are-masks-there : AreMasks masks.0
  are-masks-there = mapped-masks (losses_of first second) s words.masks masks.0 (are-masks words runs.are_words) masks.1

  stands : Stands s first second words lists.lists here.inputs there.inputs
  stands = record {
    agree = two.agree;
    enough = runs.enough;
    is_book = two.first_book;
    is_book' = two.second_book;
    are_words = runs.are_words;
    lists = lists.count;
    bidders_mapped = lists.mapped;
    here = lines-there first words.bidders two.first_book runs.enough.count;
    there = lines-there second lists.lists two.second_book many;
  }

  worlds : AreTwoWorlds (auction_batch (auction_over first.grid)) (most_rounds (auction_over first.grid)) (2 * prices)
      (most_masks (auction_over first.grid)) s here there
  worlds =
      let asked = can-map s first second words lists.lists here.inputs there.inputs stands (auction_over first.grid) refl in
      record {
        first = asked.secrets;
        second = record {
          inputs = asked.long;
          masks = masks-enough s (losses_of first second) words.masks masks.0 (most_masks (auction_over first.grid)) masks.1
              runs.enough.masks;
        };
        elements = values-small first words.bidders here.inputs two.first_book stands.here;
        elements' = values-small second lists.lists there.inputs two.second_book stands.there;
        same = asked.same masks.0 masks.1;
      }

can-draw : (book : Book) (words : Words) → CanRun book words → CanDraw (most_coefficients (auction_over book.grid)) words.coefficients
can-draw book words runs = record {
  are_words = all-words words runs.are_words;
  numbers = numbers-enough (wants_over book.grid) (length book.bidders) words runs.enough;
}

one-pair : (s : Point) (first : Book) (words : Words) (second : Book) (words' : Words) → AreTwoBooks s first second → CanRun first words →
    AreWords words' → WorldsMapped s first words second words' → AreOnePair s first words second words'
one-pair s first words second words' two runs are w = record {
  mapped = w.mapped;
  only_second = w.only;
  only_first = w.back;
  first_runs = runs;
  second_runs = record { are_words = are; enough = w.enough };
  as_long = as-long s first words second words' runs.enough.count w.enough.count w.mapped;
  views = w.looks;
  transcripts = ap view_bytes w.looks;
  always = w.moments;
}

-- the words of the second world
pub second-there : (s : Point) (first second : Book) (words : Words) → AreTwoBooks s first second → CanRun first words →
    (words' : Words) × AreOnePair s first words second words'
second-there s first second words two runs =
    let a = auction_over first.grid in
    let w : Secrets = here s first second two words runs in
    let w' : Secrets = there s first second two words runs in
    let masks' = masks s first second two words runs in
    let bidders' = lists s first second two words runs in
    let found = image (auction_batch a) (most_rounds a) (2 * first.grid.prices) (most_wires a) (most_masks a)
    (most_coefficients a) (auction-law a) s w w'
    (worlds s first second two words runs) words.coefficients (can-draw first words runs) in
    let words' : Words = record { masks = masks'.0; coefficients = found.0; bidders = bidders'.lists } in
    let are' : AreWords words' = all-are masks'.0 found.0 bidders'.lists
    (are-masks-there s first second two words runs) found.1.are_words bidders'.are_words in (
      words',
      one-pair s first words second words' two runs are'
          (worlds-mapped s first second words bidders'.lists w.inputs w'.inputs (stands s first second two words runs) a refl masks'.0
          found.0 masks'.1 found.2 are'),
    )

-- all words that are mapped are these
pub mapped-pair : (s : Point) (first second : Book) (words words' : Words) → AreTwoBooks s first second → CanRun first words →
    Mapped s first words second words' → AreOnePair s first words second words'
mapped-pair s first second words words' two runs m =
    let found = second-there s first second words two runs in
    subst (λ x. AreOnePair s first words second x) (sym (found.1.only_second words' m)) found.1

-- and those of the first, from those of the second
module _ (s : Point) (first second : Book) (two : AreTwoBooks s first second) (words' : Words) (runs : CanRun second words') where
  back : AreTwoBooks s second first
  back = record { first_book = two.second_book; second_book = two.first_book; agree = agree-back s first second two.agree }

  abbrev w : Secrets
  w = there s second first back words' runs

  abbrev w' : Secrets
  w' = here s second first back words' runs

  abbrev masks' : (t : Trio (List ℕ)) × MasksMapped s (losses_of second first) words'.masks t
  masks' = masks s second first back words' runs

  abbrev bidders' : MovedDealers s (map party_of second.bidders) (map party_of first.bidders) words'.bidders
  bidders' = lists s second first back words' runs

  drawn : (c : Trio (List ℕ)) × CanDraw (most_coefficients (auction_over second.grid)) c
      × GoTogether (auction_batch (auction_over second.grid)) (most_rounds (auction_over second.grid)) s w w' c words'.coefficients
  drawn =
      let a = auction_over second.grid in
      source (auction_batch a) (most_rounds a) (2 * second.grid.prices) (most_wires a) (most_masks a)
      (most_coefficients a) (auction-law a) s w w'
      (two-back (auction_batch a) (most_rounds a) (2 * second.grid.prices) (most_masks a) s w' w (worlds s second first back words' runs))
      words'.coefficients (can-draw second words' runs)

  abbrev words : Words
  words = record { masks = masks'.0; coefficients = drawn.0; bidders = bidders'.lists }

  are : AreWords words
  are = all-are masks'.0 drawn.0 bidders'.lists (are-masks-there s second first back words' runs) drawn.1.are_words bidders'.are_words

  enough : AreEnough first words
  enough =
      mapped-enough s second first words' words back.agree masks'.1 (λ j. sym (drawn.2.mapped.places j))
      (many s second first back words' runs) bidders'.mapped
      runs.enough

  bidders-mapped : BiddersMapped s first.bidders bidders'.lists second.bidders words'.bidders
  bidders-mapped =
      bidders-back s second.bidders first.bidders words'.bidders bidders'.lists two.second_book.curves
      two.first_book.curves runs.are_words.bidders bidders'.mapped

  turned-back : MasksMapped s (losses_of first second) masks'.0 words'.masks
  turned-back = books-back s second first back.agree words'.masks masks'.0 (are-masks words' runs.are_words) masks'.1

  stands-back : Stands s first second words words'.bidders w.inputs w'.inputs
  stands-back = record {
    agree = two.agree;
    enough = enough;
    is_book = two.first_book;
    is_book' = two.second_book;
    are_words = are;
    lists = sym bidders'.count;
    bidders_mapped = bidders-mapped;
    here = (stands s second first back words' runs).there;
    there = (stands s second first back words' runs).here;
  }

  pub first-there : (words : Words) × AreOnePair s first words second words'
  first-there = (
    words,
    one-pair s first words second words' two (record { are_words = are; enough = enough }) runs.are_words
        (worlds-mapped s first second words words'.bidders w.inputs w'.inputs stands-back (auction_over second.grid)
        (λ i. auction_over (two.agree.grids i)) words'.masks words'.coefficients turned-back drawn.2 runs.are_words),
  )
