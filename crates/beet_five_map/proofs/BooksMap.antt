-- The coefficient words of two worlds of the auction among five servers.
use Rattle.std.proofs.Common.{◌≡◌, ◌≤◌, ◌<◌, ◌*◌, ℕ, true, List, [], length, slice_index, Some, sym, ap, subst, ◌∙◌, arith}
use Rattle.std.specs.Prelude.{◌==◌}
use Rattle.std.proofs.lemmas.List.{length-map}
use Rattle.beet_words.specs.Words.{accepted, ones}
use Rattle.beet_gates.specs.Clear.{EndsAfter, clear_at}
use Rattle.beet_gates.specs.Opened.{OpenAlike}
use Rattle.beet_gates.specs.Scripts.{LawFrom, Standing, bounds_of, start_among}
use Rattle.beet_gates.specs.declared.Batch.{Batch}
use Rattle.beet_gates.proofs.ClearAt.{dealt-ends}
use Rattle.beet_bids.specs.Books.{Book, IsBook}
use Rattle.beet_bids.specs.Outcomes.{clearing_place, outcome_of}
use Rattle.beet_bids.specs.Sums.{sums_of}
use Rattle.beet_bids.proofs.BookSums.{length-sums}
use Rattle.beet_mask.proofs.MaskRun.{length-bits_of}
use Rattle.beet_masking.specs.Blocks.{five_blocks}
use Rattle.beet_masking.specs.Compared.{item_compared}
use Rattle.beet_masking.specs.Masks.{dealt_at, mask_among, words_at}
use Rattle.beet_masking.proofs.BlockLaws.{are-five_blocks}
use Rattle.beet_masking.proofs.Words.{among-five}
use Rattle.beet_plan.specs.Search.{path}
use Rattle.beet_turned.specs.Turn.{turned}
use Rattle.beet_two_books.specs.Losses.{lost_at}
use Rattle.beet_two_books.proofs.BookWorlds.{open-alike}
use Rattle.beet_linear_sharing.specs.Polynomials.{AreShared}
use Rattle.beet_linear_sharing.specs.Runs.{deals_among}
use Rattle.beet_linear_sharing.specs.Schemes.{five_servers}
use Rattle.beet_linear_sharing.specs.Sharings.{IsAmong}
use Rattle.beet_linear_sharing.proofs.Arithmetic.{five-laws}
use Rattle.beet_plan.specs.FivePlan.{five_batch, five_over, most_masks, most_rounds, most_secrets, most_wires}
use Rattle.beet_plan.proofs.FiveFacts.{five-law}
use Rattle.beet_coalition.specs.Lists.{at_server}
use Rattle.beet_coalition.specs.Pairs.{HasNumbers}
use Rattle.beet_coalition.specs.Premise.{MayMap, Secrets, clear_of}
use Rattle.beet_coalition.specs.Watchers.{two_watch}
use Rattle.beet_coalition.specs.Words.{AreWords, WordsMapped, WordsTogether, run_with}
use Rattle.beet_coalition.proofs.Arithmetic.{two-of-five}
use Rattle.beet_coalition.proofs.Enough.{has-numbers}
use Rattle.beet_coalition.proofs.Laws.{CoalitionLaws}
use Rattle.beet_coalition.proofs.SumFacts.{five-deals}
use Rattle.beet_coalition.proofs.Symmetry.{map_back}
use Rattle.beet_coalition.proofs.Whole.{has_rounds}
use Rattle.beet_coalition.proofs.WordPairs.{few_numbers, words-image, words-together}
use Rattle.beet_five_dealing.specs.FiveInputs.{rounds_of, world_of}
use Rattle.beet_five_dealing.specs.FiveWords.{AreFive, CanDraw, FiveWords}

-- two books over one grid that clear alike, with mask words that are turned, and inputs that two servers cannot tell apart
pub record AreWorlds (a b : ℕ) (first : Book) (words : FiveWords) (second : Book) (words' : FiveWords) : Type 0 where
  pub is_book : IsBook first
  pub is_book' : IsBook second
  pub grids : second.grid ≡ first.grid
  pub outcomes : outcome_of second ≡ outcome_of first
  pub are : AreFive words.masks
  pub are' : AreFive words'.masks
  pub own : (i : ℕ) → IsAmong five_servers.servers i → (two_watch a b).watches i ≡ true →
      at_server words'.masks i ≡ at_server words.masks i
  pub all_ones : (i : ℕ) → (mask_among words'.masks i == ones) ≡ (mask_among words.masks i == ones)
  pub turns : (i place : ℕ) →
      item_compared (path first.grid.prices (clearing_place first)) (mask_among words.masks) i ≡ Some place →
      mask_among words'.masks i ≡ turned (mask_among words.masks i) (lost_at first second place)
  pub shared : AreShared five_servers (sums_of first) (world_of first words).inputs
  pub shared' : AreShared five_servers (sums_of second) (world_of second words').inputs
  pub inputs_same : (i : ℕ) → IsAmong five_servers.servers i → (two_watch a b).watches i ≡ true →
      (world_of second words').inputs i ≡ (world_of first words).inputs i

-- what five servers deal
deals-are : (words : List (List ℕ)) → length words ≡ 5 → deals_among five_servers (at_server words) ≡ dealt_at words
deals-are words five = λ i n. five-deals words five n i

module _ (a b : ℕ) (some : 1 ≤ a) (less : a < b) (few : b ≤ 5) (first second : Book) (words words' : FiveWords)
    (two : AreWorlds a b first words second words') where
  abbrev next : ℕ → List ℕ → Batch
  next = five_batch (five_over first.grid)

  abbrev rounds : ℕ
  rounds = rounds_of first words.masks

  abbrev w : Secrets
  w = world_of first words

  abbrev w' : Secrets
  w' = world_of second words'

  watch : CoalitionLaws five_servers (two_watch a b)
  watch = two-of-five a b some less few

  pub alike : OpenAlike next (most_rounds (five_over first.grid)) (sums_of first) (dealt_at words.masks) (sums_of second)
      (dealt_at words'.masks)
  alike =
      open-alike five_blocks are-five_blocks first second two.is_book two.is_book' two.grids two.outcomes
      (dealt_at words.masks) (dealt_at words'.masks) (mask_among words.masks) (mask_among words'.masks)
      (among-five words.masks two.are.five two.are.small) (among-five words'.masks two.are'.five two.are'.small)
      (record { same = two.all_ones }) two.turns

  pub may : MayMap five_servers (two_watch a b) next rounds w w'
  may = record {
    shared = two.shared;
    shared' = two.shared';
    inputs = two.inputs_same;
    opens = λ t le.
        (λ i. (clear_at next (deals-are words'.masks two.are'.five i) (sums_of second) t).opened) ∙ alike.all_along t le
        ∙ (λ i. (clear_at next (sym (deals-are words.masks two.are.five) i) (sums_of first) t).opened);
    words = λ t i lt at is dealt. ap (λ l. slice_index l (clear_of five_servers next w t).dealt) (two.own i at is);
  }

  abbrev bounds : Standing
  bounds =
      bounds_of (most_wires (five_over first.grid)) (most_masks (five_over first.grid)) (most_secrets (five_over first.grid))

  pub ends : EndsAfter next (deals_among five_servers w.masks) w.values rounds
  ends =
      let law : LawFrom next bounds (most_rounds (five_over first.grid)) (start_among 5 (length (sums_of first))) [] =
      rw (length-sums first) (five-law (five_over first.grid)) in
      let many : (n : ℕ) → length (dealt_at words.masks n) ≡ 61 * 5 = λ n.
      omega (arith, length-bits_of (words_at words.masks n), length-map words.masks (λ (list : List ℕ). slice_index list n), two.are.five)
      in
      subst (λ deals. EndsAfter next deals (sums_of first) rounds) (sym (deals-are words.masks two.are.five))
      (dealt-ends next (dealt_at words.masks) bounds 5 (most_rounds (five_over first.grid)) (sums_of first) many law).0

  fits : (coefficients : List (List ℕ)) → CanDraw first.grid coefficients →
      HasNumbers five_servers rounds (run_with next w (at_server coefficients))
  fits coefficients can =
      has-numbers five_servers (run_with next w (at_server coefficients)) bounds 5 (2 * first.grid.prices)
      (most_rounds (five_over first.grid)) rounds (five-law (five_over first.grid))
      (has_rounds five_servers (two_watch a b) five-laws watch next rounds w w' may ends (λ j. accepted (at_server coefficients j)))
      can

  pub five-together : (c c' : ℕ → List ℕ) → AreWords five_servers c →
      WordsMapped five_servers (two_watch a b) next rounds w w' c c' →
      WordsTogether five_servers (two_watch a b) next rounds w w' c c'
  five-together c c' are m = words-together five_servers (two_watch a b) five-laws watch next rounds w w' may ends c c' are m

  pub five-back : (c c' : ℕ → List ℕ) → AreWords five_servers c →
      WordsMapped five_servers (two_watch a b) next rounds w w' c c' →
      WordsMapped five_servers (two_watch a b) next rounds w' w c' c
  five-back c c' are m = record {
    places = λ j at. sym (m.places j at);
    numbers = map_back five_servers (two_watch a b) five-laws watch next rounds w w' may (λ j. accepted (c j)) (λ j. accepted (c' j))
        (few_numbers five_servers c are) m.numbers;
  }

  pub five-image : (coefficients : List (List ℕ)) → AreWords five_servers (at_server coefficients) →
      CanDraw first.grid coefficients →
      (c' : ℕ → List ℕ) × AreWords five_servers c'
      × WordsTogether five_servers (two_watch a b) next rounds w w' (at_server coefficients) c'
  five-image coefficients are can =
      words-image five_servers (two_watch a b) five-laws watch next rounds w w' may ends (at_server coefficients) are
      (fits coefficients can)
