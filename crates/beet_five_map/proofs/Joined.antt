-- All words of two worlds of the auction among five servers: the only ones that are mapped, the way back, and that they are there.
use Rattle.std.proofs.Common.{◌≡◌, ◌≤◌, ◌<◌, ◌-◌, ◌*◌, ℕ, List, length, map, refl, sym, ap, subst, ◌∙◌, arith}
use Rattle.std.specs.Prelude.{All, nat_le, option_map}
use Rattle.std.proofs.lemmas.List.{length-map}
use Rattle.std.proofs.lemmas.Simd.{map-map}
use Rattle.beet_field.specs.Field.{neg_of}
use Rattle.beet_words.specs.Words.{accepted, ones_in}
use Rattle.beet_gates.specs.declared.Batch.{Batch}
use Rattle.beet_bids.specs.Books.{Book}
use Rattle.beet_bids.specs.Curves.{IsCurve}
use Rattle.beet_bids.specs.Grids.{Grid, comparisons_of}
use Rattle.beet_bids.specs.Outcomes.{clearing_place}
use Rattle.beet_bids.specs.declared.book.Bidder.{Bidder}
use Rattle.beet_book.specs.Farmers.{BidderWithWords, farmers_of}
use Rattle.beet_masking.specs.Masks.{mask_among}
use Rattle.beet_masking.proofs.Places.{compared-early}
use Rattle.beet_plan.specs.Search.{path}
use Rattle.beet_turned.specs.MappedMasks.{mask_mapped}
use Rattle.beet_turned.proofs.MasksBack.{compared-map}
use Rattle.beet_two_books.specs.Losses.{losses_of, lost_at}
use Rattle.beet_two_books.proofs.Agreed.{clearing-alike, prices-alike}
use Rattle.beet_two_books.proofs.BidderFacts.{bidders-have, same-own}
use Rattle.beet_two_books.proofs.BookWorlds.{tested-length}
use Rattle.beet_two_books.proofs.MasksBack.{agree-back, losses-small, lost-back}
use Rattle.beet_weights.specs.Quadratics.{of_five}
use Rattle.beet_linear_sharing.specs.Schemes.{five_servers}
use Rattle.beet_linear_sharing.proofs.Arithmetic.{among-bounds, five-laws}
use Rattle.beet_plan.specs.FivePlan.{five_batch, five_over}
use Rattle.beet_coalition.specs.Lists.{at_server}
use Rattle.beet_coalition.specs.Watchers.{two_watch}
use Rattle.beet_coalition.specs.Words.{WordsMapped, WordsTogether, run_with}
use Rattle.beet_coalition.proofs.Arithmetic.{two-of-five}
use Rattle.beet_coalition.proofs.ListMoves.{accepted-long}
use Rattle.beet_coalition.proofs.SumFacts.{five-lists}
use Rattle.beet_coalition.proofs.WordPairs.{gate-same}
use Rattle.beet_five_dealing.specs.FiveInputs.{rounds_of, world_of}
use Rattle.beet_five_map.specs.FiveMasks.{MasksMappedFor, lowest_other}
use Rattle.beet_five_dealing.specs.FiveWords.{AreFive, CanRun, FiveWords}
use Rattle.beet_five_map.specs.FiveWorlds.{AreOnePair, AreTwoBooks, MappedForTwo}
use Rattle.beet_five_map.proofs.BidderFacts.{Mapped, bidders-back, bidders-enough, bidders-image, bidders-only}
use Rattle.beet_five_map.proofs.BooksMap.{AreWorlds, alike, five-back, five-image, five-together}
use Rattle.beet_five_map.proofs.Inputs.{SameCurves, each-same-share, inputs-same, own-mark}
use Rattle.beet_five_map.proofs.MaskFacts.{all-ones, as-long, mask-turned, other-some, own-same}
use Rattle.beet_five_map.proofs.MasksBack.{masks-back, masks-image, masks-only}
use Rattle.beet_five_dealing.proofs.Lists.{at-five, at-words, words-five}
use Rattle.beet_five_dealing.proofs.Shares.{book-shared}

abbrev pub over : Grid → List Bidder → Book
over grid bidders = record { grid = grid; bidders = bidders }

module _ (a b : ℕ) (some : 1 ≤ a) (less : a < b) (few : b ≤ 5) where
  pub books-back : (first second : Book) → AreTwoBooks a b first second → AreTwoBooks a b second first
  books-back first second two = record {
    first_book = two.second_book;
    second_book = two.first_book;
    agree = record {
      grids = sym two.agree.grids;
      marks = sym two.agree.marks;
      own = λ s watch. (agree-back s first second (record {
        grids = two.agree.grids;
        marks = two.agree.marks;
        own = two.agree.own s watch;
        outcomes = two.agree.outcomes;
      })).own;
      outcomes = sym two.agree.outcomes;
    };
  }

  abbrev pub lowest : ℕ
  lowest = lowest_other a b - 1

  -- two books over one grid
  module _ (grid : Grid) (bidders others : List Bidder) (two : AreTwoBooks a b (over grid bidders) (over grid others)) where
    abbrev first : Book
    first = over grid bidders

    abbrev second : Book
    second = over grid others

    abbrev next : ℕ → List ℕ → Batch
    next = five_batch (five_over grid)

    pub many : length others ≡ length bidders
    many =
        sym (length-map others (λ (x : Bidder). x.known)) ∙ ap length two.agree.marks ∙ length-map bidders (λ (x : Bidder). x.known)

    losses-back : losses_of second first ≡ map neg_of (losses_of first second)
    losses-back =
        (λ j. map (λ k. lost-back first second k j)
        (path (prices-alike first second two.agree.grids two.agree.outcomes j)
        (clearing-alike first second two.agree.grids two.agree.outcomes j)))
        ∙ sym (map-map neg_of (lost_at first second) (path grid.prices (clearing_place first)))

    pub within : (words : FiveWords) → CanRun first words → lowest < length words.masks
    within words can = let low = other-some a b in omega (arith, low, can.are_words.masks.five)

    -- the curves of bidders are curves, and those that a or b knows are the same
    dealt-curves : (lists : List (List ℕ)) → All (λ (f : BidderWithWords). IsCurve f.bidder.curve) (farmers_of others lists)
    dealt-curves lists = bidders-have (λ (x : Bidder). IsCurve x.curve) others lists two.second_book.curves

    same-curves : (lists lists' : List (List ℕ)) →
        SameCurves a b some less few grid.prices (farmers_of bidders lists) (farmers_of others lists')
    same-curves lists lists' k one other e d mine =
        let known = own-mark a b some less one.bidder.known mine in
        same-own known.0 first second lists lists' (two.agree.own known.0 known.2) k one other e d known.1

    -- the mask words and the words of bidders are mapped
    pub record Half (words words' : FiveWords) : Type 0 where
      pub can : CanRun first words
      pub masks_are : AreFive words'.masks
      pub masks : MasksMappedFor a b (losses_of first second) words.masks words'.masks
      pub long : length words'.bidders ≡ length others
      pub dealt : Mapped a b grid.prices bidders words.bidders others words'.bidders

    pub worlds : (words words' : FiveWords) → Half words words' → AreWorlds a b first words second words'
    worlds words words' h =
        let losses = losses_of first second in
        let inside = within words h.can in
        record {
          is_book = two.first_book;
          is_book' = two.second_book;
          grids = refl;
          outcomes = two.agree.outcomes;
          are = h.can.are_words.masks;
          are' = h.masks_are;
          own = own-same a b some less losses words.masks words'.masks h.masks;
          all_ones = all-ones lowest losses words.masks words'.masks h.masks inside;
          turns = λ i place e.
              let z = clearing_place first in
              let low = other-some a b in
              let enough = h.can.masks (lowest_other a b) (among-bounds (lowest_other a b) (low.0, omega (arith, low))) in
              let early = compared-early (mask_among words.masks) (path grid.prices z) i place e in
              let short = tested-length (nat_le z) (comparisons_of grid.prices) 0 grid.prices in
              mask-turned lowest losses words.masks words'.masks h.masks inside i (omega (arith, enough, early, short))
              ∙ ap (mask_mapped (mask_among words.masks i))
              (compared-map (lost_at first second) (path grid.prices z) (mask_among words.masks) i
              ∙ ap (option_map (lost_at first second)) e);
          shared = book-shared first words two.first_book h.can.count;
          shared' = book-shared second words' two.second_book h.long;
          inputs_same =
              inputs-same a b some less few grid.prices (farmers_of bidders words.bidders) (farmers_of others words'.bidders) h.dealt
              (dealt-curves words'.bidders) (same-curves words.bidders words'.bidders);
        }

    half : (words words' : FiveWords) → CanRun first words → MappedForTwo a b first words second words' → Half words words'
    half words words' can m = record {
      can = can;
      masks_are = m.are_words'.masks;
      masks = m.masks;
      long = m.lists ∙ can.count ∙ sym many;
      dealt = m.bidders;
    }

    together : (words words' : FiveWords) → CanRun first words → MappedForTwo a b first words second words' →
        WordsTogether five_servers (two_watch a b) next (rounds_of first words.masks) (world_of first words) (world_of second words')
        (at_server words.coefficients) (at_server words'.coefficients)
    together words words' can m =
        five-together a b some less few first second words words' (worlds words words' (half words words' can m))
        (at_server words.coefficients) (at_server words'.coefficients)
        (at-words words.coefficients can.are_words.coefficients.small) m.coefficients

    rounds-same : (words words' : FiveWords) → CanRun first words → MappedForTwo a b first words second words' →
        rounds_of second words'.masks ≡ rounds_of first words.masks
    rounds-same words words' can m =
        (alike a b some less few first second words words' (worlds words words' (half words words' can m))).rounds

    pub back : (words words' : FiveWords) → CanRun first words → MappedForTwo a b first words second words' →
        MappedForTwo a b second words' first words
    back words words' can m = record {
      are_words = m.are_words';
      are_words' = m.are_words;
      masks = subst (λ losses. MasksMappedFor a b losses words'.masks words.masks) (sym losses-back)
          (masks-back lowest (losses_of first second) words.masks words'.masks (losses-small first second) (within words can)
          m.are_words.masks m.masks);
      lists = sym m.lists;
      bidders = bidders-back a b grid.prices bidders others words.bidders words'.bidders can.count two.first_book.curves
          two.second_book.curves m.are_words.bidders m.bidders;
      coefficients = subst (λ rounds. WordsMapped five_servers (two_watch a b) next rounds (world_of second words') (world_of first words)
          (at_server words'.coefficients) (at_server words.coefficients)) (sym (rounds-same words words' can m))
          (five-back a b some less few first second words words' (worlds words words' (half words words' can m))
          (at_server words.coefficients) (at_server words'.coefficients)
          (at-words words.coefficients can.are_words.coefficients.small) m.coefficients);
    }

    pub only : (words u v : FiveWords) → CanRun first words → MappedForTwo a b first words second u →
        MappedForTwo a b first words second v → u ≡ v
    only words u v can m n =
        let masks : u.masks ≡ v.masks = masks-only lowest (losses_of first second) words.masks u.masks v.masks m.masks n.masks in
        let lists : u.bidders ≡ v.bidders =
        bidders-only a b grid.prices bidders others words.bidders u.bidders v.bidders (m.lists ∙ can.count ∙ sym many)
        (n.lists ∙ can.count ∙ sym many) m.bidders n.bidders in
        let other : FiveWords = record { masks = v.masks; coefficients = u.coefficients; bidders = v.bidders } in
        let same : other ≡ u = λ j. record { masks = sym masks j; coefficients = u.coefficients; bidders = sym lists j } in
        let moved : WordsMapped five_servers (two_watch a b) next (rounds_of first words.masks) (world_of first words) (world_of second u)
        (at_server words.coefficients) (at_server v.coefficients) =
        subst (λ (x : FiveWords). WordsMapped five_servers (two_watch a b) next (rounds_of first words.masks) (world_of first words)
        (world_of second x) (at_server words.coefficients) (at_server v.coefficients)) same n.coefficients in
        let numbers : v.coefficients ≡ u.coefficients =
        five-lists u.coefficients v.coefficients m.are_words'.coefficients.five n.are_words'.coefficients.five
        ((together words u can m).only (at_server v.coefficients) moved) in
        λ j. record { masks = masks j; coefficients = sym numbers j; bidders = lists j }

    -- the words of the second world are enough where those of the first are, and the other way round
    pub runs-there : (words words' : FiveWords) → CanRun first words → MappedForTwo a b first words second words' → CanRun second words'
    runs-there words words' can m = record {
      are_words = m.are_words';
      masks = λ j at.
          let long = as-long a b some less (losses_of first second) words.masks words'.masks m.masks j in
          let enough = can.masks j at in omega (arith, long, enough);
      coefficients = λ j at.
          let long = accepted-long (at_server words.coefficients j) (at_server words'.coefficients j) (m.coefficients.places j at) in
          let enough = can.coefficients j at in omega (arith, long, enough);
      count = m.lists ∙ can.count ∙ sym many;
      bidders = bidders-enough a b grid.prices bidders others words.bidders words'.bidders can.count (m.lists ∙ can.count ∙ sym many)
          m.bidders (2 * (2 * grid.prices)) can.bidders;
    }

    pub runs-here : (words words' : FiveWords) → CanRun second words' → MappedForTwo a b first words second words' → CanRun first words
    runs-here words words' can m =
        let count : length words.bidders ≡ length bidders = sym m.lists ∙ can.count ∙ many in
        record {
          are_words = m.are_words;
          masks = λ j at.
              let long = as-long a b some less (losses_of first second) words.masks words'.masks m.masks j in
              let enough = can.masks j at in omega (arith, long, enough);
          coefficients = λ j at.
              let long = accepted-long (at_server words.coefficients j) (at_server words'.coefficients j) (m.coefficients.places j at) in
              let enough = can.coefficients j at in omega (arith, long, enough);
          count = count;
          bidders = bidders-enough a b grid.prices others bidders words'.bidders words.bidders can.count count
              (bidders-back a b grid.prices bidders others words.bidders words'.bidders count two.first_book.curves
              two.second_book.curves m.are_words.bidders m.bidders)
              (2 * (2 * grid.prices)) can.bidders;
        }

    mapped-there : (words : FiveWords) → CanRun first words → (words' : FiveWords) × MappedForTwo a b first words second words'
    mapped-there words can =
        let turned = masks-image lowest (losses_of first second) words.masks (within words can) can.are_words.masks in
        let dealt = bidders-image a b grid.prices bidders others words.bidders can.count two.agree.marks can.are_words.bidders
        can.bidders in
        let start : FiveWords = record { masks = turned.0; coefficients = words.coefficients; bidders = dealt.0 } in
        let stands : AreWorlds a b first words second start = worlds words start (record {
          can = can;
          masks_are = turned.1;
          masks = turned.2;
          long = dealt.1;
          dealt = dealt.3;
        }) in
        let found = five-image a b some less few first second words start stands words.coefficients
        (at-words words.coefficients can.are_words.coefficients.small) can.coefficients in
        let lists = of_five found.0 in (
          record { masks = turned.0; coefficients = lists; bidders = dealt.0 },
          record {
            are_words = can.are_words;
            are_words' = record {
              masks = turned.1;
              coefficients = record { five = refl; small = words-five found.0 found.1 };
              bidders = dealt.2;
            };
            masks = turned.2;
            lists = dealt.1 ∙ many ∙ sym can.count;
            bidders = dealt.3;
            coefficients = record {
              places = λ j at. ap ones_in (at-five found.0 j at) ∙ found.2.mapped.places j at;
              numbers = gate-same five_servers (two_watch a b) five-laws (two-of-five a b some less few) next
                  (rounds_of first words.masks) (run_with next (world_of first words) (at_server words.coefficients))
                  (world_of second start) (λ j. accepted (found.0 j)) (λ j. accepted (at_server lists j))
                  (λ j at. ap accepted (at-five found.0 j at)) found.2.mapped.numbers;
            };
          },
        )

  -- two books over one grid, both ways round
  module _ (grid : Grid) (bidders others : List Bidder) (two : AreTwoBooks a b (over grid bidders) (over grid others)) where
    pub one-pair : (words words' : FiveWords) → CanRun (over grid bidders) words →
        MappedForTwo a b (over grid bidders) words (over grid others) words' →
        AreOnePair a b (over grid bidders) words (over grid others) words'
    one-pair words words' can m =
        let there = runs-there grid bidders others two words words' can m in
        let other = books-back (over grid bidders) (over grid others) two in
        record {
          mapped = m;
          only_second = λ e n. only grid bidders others two words e words' can n m;
          only_first = λ e n.
              only grid others bidders other words' e words there
              (back grid bidders others two e words' (runs-here grid bidders others two e words' there n) n)
              (back grid bidders others two words words' can m);
          first_runs = can;
          second_runs = there;
          own_masks = own-same a b some less (losses_of (over grid bidders) (over grid others)) words.masks words'.masks m.masks;
          own_coefficients = (together grid bidders others two words words' can m).own;
          shares = each-same-share a b some less few grid.prices (farmers_of bidders words.bidders) (farmers_of others words'.bidders)
              m.bidders (dealt-curves grid bidders others two words'.bidders)
              (same-curves grid bidders others two words.bidders words'.bidders);
          rounds = rounds-same grid bidders others two words words' can m;
          looks = (together grid bidders others two words words' can m).looks;
        }

    pub pair-there : (words : FiveWords) → CanRun (over grid bidders) words →
        (words' : FiveWords) × AreOnePair a b (over grid bidders) words (over grid others) words'
    pair-there words can =
        let found = mapped-there grid bidders others two words can in (found.0, one-pair words found.0 can found.1)

  module _ (first second : Book) (two : AreTwoBooks a b first second) where
    one-grid : AreTwoBooks a b first (over first.grid second.bidders)
    one-grid = subst (λ g. AreTwoBooks a b first (over g second.bidders)) two.agree.grids two

    runs-over : (words' : FiveWords) → CanRun second words' → CanRun (over first.grid second.bidders) words'
    runs-over words' can = subst (λ g. CanRun (over g second.bidders) words') two.agree.grids can

    pub mapped-pair : (words words' : FiveWords) → CanRun first words → MappedForTwo a b first words second words' →
        AreOnePair a b first words second words'
    mapped-pair words words' can m =
        let moved = subst (λ g. MappedForTwo a b first words (over g second.bidders) words') two.agree.grids m in
        subst (λ g. AreOnePair a b first words (over g second.bidders) words') (sym two.agree.grids)
        (one-pair first.grid first.bidders second.bidders one-grid words words' can moved)

    pub second-pair : (words : FiveWords) → CanRun first words → (words' : FiveWords) × AreOnePair a b first words second words'
    second-pair words can =
        subst (λ g. (words' : FiveWords) × AreOnePair a b first words (over g second.bidders) words') (sym two.agree.grids)
        (pair-there first.grid first.bidders second.bidders one-grid words can)

    pub first-pair : (words' : FiveWords) → CanRun second words' → (words : FiveWords) × AreOnePair a b first words second words'
    first-pair words' can =
        let other = books-back first (over first.grid second.bidders) one-grid in
        let found = mapped-there first.grid second.bidders first.bidders other words' (runs-over words' can) in
        let m = back first.grid second.bidders first.bidders other words' found.0 (runs-over words' can) found.1 in
        let here = runs-there first.grid second.bidders first.bidders other words' found.0 (runs-over words' can) found.1 in (
          found.0,
          subst (λ g. AreOnePair a b first found.0 (over g second.bidders) words') (sym two.agree.grids)
              (one-pair first.grid first.bidders second.bidders one-grid found.0 words' here m),
        )
