-- Two books that agree look the same to one server, if the mask words and the bidders' words are mapped.
use Rattle.std.proofs.Common.{◌≡◌, ◌≤◌, ◌*◌, ℕ, List, map, take, length, refl, sym, ap, subst, ◌∙◌, arith}
use Rattle.std.proofs.lemmas.List.{length-map}
use Rattle.beet_field.specs.declared.point.Point.{Point}
use Rattle.beet_field.specs.declared.trio.Trio.{Trio}
use Rattle.beet_shamir.specs.declared.Line.{Line}
use Rattle.beet_words.specs.Bundles.{Words, AreWords}
use Rattle.beet_gates.specs.Clear.{clear_values}
use Rattle.beet_gates.specs.Scripts.{HasWords}
use Rattle.beet_bids.specs.Books.{Book, IsBook}
use Rattle.beet_bids.specs.Curves.{IsCurve, IsOfGrid}
use Rattle.beet_bids.specs.Grids.{Grid}
use Rattle.beet_bids.specs.declared.book.Bidder.{Bidder}
use Rattle.beet_bids.proofs.BookSums.{length-sums}
use Rattle.beet_plan.specs.Auction.{Auction, auction_batch, auction_over, most_coefficients, most_masks, most_rounds}
use Rattle.beet_plan.specs.Kept.{words_kept}
use Rattle.beet_book.specs.Farmers.{farmers_of}
use Rattle.beet_sharing.specs.Runs.{HasRounds, Setup, numbers_of}
use Rattle.beet_sharing.proofs.SameRuns.{sends-same}
use Rattle.beet_delivery.specs.Events.{Triple, after, passed}
use Rattle.beet_delivery.proofs.NetworkFacts.{passed_most, sent_parts, was_sent_parts}
use Rattle.beet_delivery.proofs.ThreeServers.{three-is}
use Rattle.beet_auction.specs.Setups.{setup_for, rounds_for}
use Rattle.beet_view.specs.BookViews.{seen_at}
use Rattle.beet_view.specs.Views.{run_in, view_with_run}
use Rattle.beet_map.specs.Mapped.{LooksAlike}
use Rattle.beet_map.specs.Refused.{HasSecrets}
use Rattle.beet_map_laws.specs.Pairs.{GoTogether}
use Rattle.beet_turned.specs.MappedMasks.{MasksMapped}
use Rattle.beet_turned.proofs.MaskFacts.{own-same}
use Rattle.beet_mapped.proofs.WorldFacts.{Stands as Trades, are-masks, back, look as trades-look, only}
use Rattle.beet_mapped.proofs.WorldFacts.{rounds-same as trades-rounds, seen-same, trades-mapped}
use Rattle.beet_trades.specs.Enough.{HasAccepted}
use Rattle.beet_trades.specs.Servers.{CanMap, LookSameMapped, world_with}
use Rattle.beet_map.proofs.Disagreeing.{as-many}
use Rattle.beet_trades.proofs.Drawn.{numbers-enough}
use Rattle.beet_trades.proofs.ReadRuns.{seen-read-same}
use Rattle.beet_two_books.specs.Agreement.{Agree}
use Rattle.beet_auction_map.specs.Enough.{AreEnough, wants_over}
use Rattle.beet_auction_map.specs.InputLines.{AreInputLines}
use Rattle.beet_two_books.specs.Losses.{losses_of}
use Rattle.beet_auction_map.specs.MappedBidders.{BiddersMapped, party_of}
use Rattle.beet_auction_map.specs.MappedWords.{Mapped, trade_of}
use Rattle.beet_auction_map.specs.Moments.{SameAfter}
use Rattle.beet_auction_map.specs.ViewsWith.{view_with}
use Rattle.beet_auction_map.specs.Worlds.{WorldsMapped}
use Rattle.beet_two_books.proofs.BidderFacts.{bidders-have, same-own}
use Rattle.beet_auction_map.proofs.BidderFacts.{farmers-mapped, inputs-same, parties-elements}
use Rattle.beet_two_books.proofs.BookWorlds.{opens-alike}
use Rattle.beet_auction_map.proofs.CutRuns.{farmers-cut, farmers-have, reads}
use Rattle.beet_auction_map.proofs.EnoughFacts.{mapped-enough}
use Rattle.beet_two_books.proofs.MasksBack.{losses-small}
use Rattle.beet_auction_map.proofs.SeenBidders.{seen-all}

-- what holds once both books agree, and the bidders' words are mapped
pub record Stands (me : Point) (first second : Book) (words : Words) (bidders : List (List ℕ)) (lines lines' : List Line) : Type 0 where
  pub agree : Agree me first second
  pub enough : AreEnough first words
  pub is_book : IsBook first
  pub is_book' : IsBook second
  pub are_words : AreWords words
  pub lists : length bidders ≡ length words.bidders
  pub bidders_mapped : BiddersMapped me first.bidders words.bidders second.bidders bidders
  pub here : AreInputLines first words.bidders lines
  pub there : AreInputLines second bidders lines'

-- a line for each of the book's sums
many-lines : (book : Book) (words : List (List ℕ)) (lines : List Line) → AreInputLines book words lines →
    length lines ≡ 2 * book.grid.prices
many-lines book words lines a = sym (length-map lines (λ (l : Line). l.value)) ∙ ap length a.values ∙ length-sums book

abbrev over : Grid → List Bidder → Book
over grid bidders = record { grid = grid; bidders = bidders }

-- two books over one grid
module _ (me : Point) (grid : Grid) (bidders others : List Bidder) (words : Words) (lists : List (List ℕ)) (lines lines' : List Line)
    (s : Stands me (over grid bidders) (over grid others) words lists lines lines') where
  abbrev first : Book
  first = over grid bidders

  abbrev second : Book
  second = over grid others

  abbrev auction : Auction
  auction = auction_over grid

  many : length others ≡ length bidders
  many = as-many (λ (b : Bidder). b.known) bidders others s.agree.marks

  secrets-here : HasSecrets (2 * grid.prices) (most_masks auction) (world_with lines words.masks)
  secrets-here = record { inputs = many-lines first words.bidders lines s.here; masks = s.enough.masks }

  lines-there : length lines' ≡ 2 * grid.prices
  lines-there = many-lines second lists lines' s.there

  numbers-here : HasWords (most_coefficients auction) (numbers_of words.coefficients)
  numbers-here = numbers-enough (wants_over grid) (length bidders) words s.enough

  -- the server cannot tell the worlds
  look-same : LookSameMapped (auction_batch auction) (most_rounds auction) (most_masks auction) me (losses_of first second)
      (world_with lines words.masks) lines'
  look-same masks masks_mapped =
      let opens = opens-alike me first second words.masks masks s.is_book s.is_book' s.agree
      (are-masks words s.are_words) s.enough.masks masks_mapped in
      let run : List ℕ → Trio (List ℕ) → List ℕ = λ values words. (clear_values (auction_batch auction) (most_rounds auction)
      values words).opened in
      record {
        shares = s.here.points me ∙ sym (inputs-same me first second words.bidders lists s.is_book' s.agree.own
            s.bidders_mapped) ∙ sym (s.there.points me);
        words = ap (take (most_masks auction)) (sym (own-same (losses_of first second) words.masks masks me masks_mapped));
        opened = ap (λ v. run v words.masks) s.here.values ∙ sym opens.in_the_end ∙ sym (ap (λ v. run v masks) s.there.values);
      }

  module _ (masks coefficients : Trio (List ℕ)) (masks_mapped : MasksMapped me (losses_of first second) words.masks masks)
      (c : GoTogether (auction_batch auction) (most_rounds auction) me (world_with lines words.masks) (world_with lines' masks)
      words.coefficients coefficients)
      (are_words' : AreWords (record { masks = masks; coefficients = coefficients; bidders = lists })) where
    abbrev words' : Words
    words' = record { masks = masks; coefficients = coefficients; bidders = lists }

    abbrev here : Setup
    here = setup_for first words

    abbrev there : Setup
    there = setup_for second words'

    trades : Trades me (losses_of first second) (trade_of first) (trade_of second) words masks lists lines lines'
    trades = record {
      script = refl;
      most = refl;
      lost = losses-small first second;
      elements = parties-elements bidders s.is_book.curves;
      elements' = parties-elements others s.is_book'.curves;
      count = s.enough.count ∙ sym (length-map bidders party_of);
      count' = length-map others party_of ∙ many ∙ sym (length-map bidders party_of);
      are_words = s.are_words;
      lists_same = s.lists;
      masks_mapped = masks_mapped;
      dealers_mapped = s.bidders_mapped;
      here = s.here.points;
      there = s.there.points;
    }

    look : LooksAlike me (rounds_for first words) here there
    look = trades-look me (losses_of first second) (trade_of first)
        (trade_of second) words masks coefficients lists lines lines' trades c are_words'

    mapped : Mapped me first words second words'
    mapped = trades-mapped me (losses_of first second) (trade_of first)
        (trade_of second) words masks coefficients lists lines lines' trades c are_words'

    enough : AreEnough second words'
    enough = mapped-enough me first second words words' s.agree masks_mapped c.mapped.places (s.lists ∙ s.enough.count ∙ sym many)
        s.bidders_mapped s.enough

    -- what the server sees
    seen-bidders : map (seen_at grid me) (farmers_of others (map (take (words_kept grid.prices)) lists))
        ≡ map (seen_at grid me) (farmers_of bidders (map (take (words_kept grid.prices)) words.bidders))
    seen-bidders =
        let wanted = 2 * grid.prices in
        ap (map (seen_at grid me)) (farmers-cut wanted others lists)
        ∙ seen-all me grid (farmers_of bidders words.bidders) (farmers_of others lists)
        (farmers-mapped me bidders others words.bidders lists s.bidders_mapped)
        (bidders-have (λ (b : Bidder). IsOfGrid grid b.curve) bidders words.bidders s.is_book.of_grid)
        (bidders-have (λ (b : Bidder). IsCurve b.curve) others lists s.is_book'.curves)
        (same-own me first second words.bidders lists s.agree.own)
        (farmers-have (HasAccepted wanted) bidders words.bidders s.enough.bidders)
        (farmers-have (HasAccepted wanted) others lists enough.bidders)
        ∙ sym (ap (map (seen_at grid me)) (farmers-cut wanted bidders words.bidders))

    rounds-same : rounds_for second words' ≡ rounds_for first words
    rounds-same =
        trades-rounds me (losses_of first second) (trade_of first) (trade_of second) words masks coefficients lists
        lines lines' trades c are_words'

    ends' : HasRounds there (rounds_for second words')
    ends' = subst (λ n. HasRounds there n) (sym rounds-same) look.second_ends

    seen-run : run_in (view_with second words' me) ≡ run_in (view_with first words me)
    seen-run =
        seen-read-same (trade_of first) (trade_of second) (wants_over grid) words words' me (reads first words s.enough)
        (reads second words' enough) look.first_ends ends'
        (seen-same me (losses_of first second) (trade_of first) (trade_of second) words masks coefficients lists
        lines lines' trades c are_words')

    looks : view_with second words' me ≡ view_with first words me
    looks = λ x. view_with_run me grid (seen-bidders x) (seen-run x)

    -- at every moment
    moments : (es : List Triple) → SameAfter me here (rounds_for first words) there (rounds_for second words') es
    moments es =
        let rounds = rounds_for first words in
        let t = passed rounds (after rounds es) me in
        let le : t ≤ rounds = passed_most three-is rounds (after rounds es) me in
        record {
          delivered = ap (λ n. after n es) rounds-same;
          passed_rounds = ap (λ n. passed n (after n es) me) rounds-same;
          received = λ from r is. look.messages r (was_sent_parts three-is rounds es from me r is).1.0 from;
          points = look.points t le;
          standing = look.standing t le;
          opened = look.opened t le;
          sent = λ to r is.
              sends-same here.next here.inputs here.masks here.numbers there.inputs there.masks there.numbers me rounds
              look.opened look.standing (own-same (losses_of first second) words.masks masks me masks_mapped)
              mapped.numbers.own r (let lt = (sent_parts three-is rounds (after rounds es)
              (record { from = me; to = to; round = r }) is).1.0 in omega (arith, lt)) to;
        }

    all-mapped : WorldsMapped me first words second words'
    all-mapped = record {
      mapped = mapped;
      enough = enough;
      ends = look.first_ends;
      ends' = ends';
      looks = looks;
      moments = moments;
      only = only me (losses_of first second) (trade_of first)
          (trade_of second) words masks coefficients lists lines lines' trades c are_words';
      back = back me (losses_of first second) (trade_of first)
          (trade_of second) words masks coefficients lists lines lines' trades c are_words';
    }

-- two books with equal grids, and the script of their auction
module _ (me : Point) (first second : Book) (words : Words) (lists : List (List ℕ)) (lines lines' : List Line)
    (s : Stands me first second words lists lines lines') (script : Auction) (is_script : script ≡ auction_over first.grid) where
  moved : Stands me first (over first.grid second.bidders) words lists lines lines'
  moved = subst (λ g. Stands me first (over g second.bidders) words lists lines lines') s.agree.grids s

  pub can-map : CanMap (auction_batch script) (most_rounds script) (2 * script.prices) (most_masks script) (most_coefficients script) me
      (losses_of first second) (world_with lines words.masks) lines' words.coefficients
  can-map =
      let a = auction_over first.grid in
      let asked : CanMap (auction_batch a) (most_rounds a) (2 * a.prices) (most_masks a) (most_coefficients a) me (losses_of first second)
      (world_with lines words.masks) lines' words.coefficients =
      record {
        secrets = secrets-here me first.grid first.bidders second.bidders words lists lines lines' moved;
        long = lines-there me first.grid first.bidders second.bidders words lists lines lines' moved;
        drawn = numbers-here me first.grid first.bidders second.bidders words lists lines lines' moved;
        same = look-same me first.grid first.bidders second.bidders words lists lines lines' moved;
      } in
      rw is_script asked

  pub worlds-mapped : (masks coefficients : Trio (List ℕ)) → MasksMapped me (losses_of first second) words.masks masks →
      GoTogether (auction_batch script) (most_rounds script) me (world_with lines words.masks) (world_with lines' masks)
      words.coefficients coefficients →
      AreWords (record { masks = masks; coefficients = coefficients; bidders = lists }) →
      WorldsMapped me first words second (record { masks = masks; coefficients = coefficients; bidders = lists })
  worlds-mapped masks coefficients turned together are_words' =
      let c : GoTogether (auction_batch (auction_over first.grid)) (most_rounds (auction_over first.grid)) me
      (world_with lines words.masks) (world_with lines' masks) words.coefficients coefficients = rw is_script at together in
      subst (λ g. WorldsMapped me first words (over g second.bidders)
      (record { masks = masks; coefficients = coefficients; bidders = lists })) (sym s.agree.grids)
      (all-mapped me first.grid first.bidders second.bidders words lists lines lines' moved masks coefficients turned c are_words')
