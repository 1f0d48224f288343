-- The words that are computed from those of the first world are mapped.
use Rattle.std.proofs.Common.{◌≡◌, ◌≤◌, ◌<◌, ℕ, zero, suc, inl, inr, List, [], ◌∷◌, length, refl, sym, ap, subst, ◌∙◌, arith}
use Rattle.std.specs.Prelude.{All}
use Rattle.std.proofs.lemmas.List.{get_or_past}
use Rattle.std.proofs.lemmas.List.Elements.{All-head, All-tail}
use Rattle.beet_words.specs.Words.{IsWord}
use Rattle.beet_gates.specs.declared.Batch.{Batch}
use Rattle.beet_bids.specs.Books.{Book}
use Rattle.beet_bids.specs.Grids.{Grid}
use Rattle.beet_bids.specs.declared.book.Bidder.{Bidder}
use Rattle.beet_book.specs.Farmers.{farmers_of}
use Rattle.beet_masking.proofs.Words.{word-small}
use Rattle.beet_two_books.specs.Losses.{losses_of}
use Rattle.beet_linear_sharing.specs.Schemes.{five_servers}
use Rattle.beet_plan.specs.FivePlan.{five_batch, five_over}
use Rattle.beet_coalition.specs.Lists.{at_server}
use Rattle.beet_coalition.specs.Words.{AreWords}
use Rattle.beet_coalition_map.specs.Begins.{AreHeld, AreMapped, Begins}
use Rattle.beet_five_dealing.specs.FiveInputs.{inputs_at, rounds_of, world_of}
use Rattle.beet_five_dealing.specs.FiveTotals.{five_inputs_of}
use Rattle.beet_five_dealing.specs.FiveWords.{AreFive, AreWordLists, CanRun, FiveWords}
use Rattle.beet_five_dealing.proofs.Lists.{at-five, lists-cons}
use Rattle.beet_five_map.specs.FiveMasks.{MasksMappedFor}
use Rattle.beet_five_map.specs.FiveWorlds.{AreOnePair, AreTwoBooks, BiddersMapped, MappedForTwo}
use Rattle.beet_five_map.proofs.BooksMap.{AreWorlds, ends, may}
use Rattle.beet_five_map.proofs.Joined.{lowest, mapped-pair, many, over, worlds}
use Rattle.beet_five_map.proofs.MasksBack.{masks-small}

pub all-words : (lists : List (List ℕ)) → All (λ list. All IsWord list) lists → AreWordLists lists
all-words [] all = λ k i. omega arith
all-words (list ∷ lists) all =
    let kind = λ (l : List ℕ). All IsWord l in
    lists-cons list lists (word-small list (All-head kind list lists all)) (all-words lists (All-tail kind list lists all))

five-words : (lists : List (List ℕ)) → length lists ≡ 5 → AreWords five_servers (at_server lists) → AreFive lists
five-words lists five are = record { five = five; small = small } where
  small : AreWordLists lists
  small zero i = are 1 i (inl refl)
  small (suc zero) i = are 2 i (inr (inl refl))
  small (suc (suc zero)) i = are 3 i (inr (inr (inl refl)))
  small (suc (suc (suc zero))) i = are 4 i (inr (inr (inr (inl refl))))
  small (suc (suc (suc (suc zero)))) i = are 5 i (inr (inr (inr (inr (inl refl)))))
  small (suc (suc (suc (suc (suc k))))) i =
      rw (get_or_past lists (suc (suc (suc (suc (suc k))))) [] (omega (arith, five))) (omega arith)

-- what the servers begin with
abbrev pub begins : Book → FiveWords → Begins
begins book words = record { inputs = five_inputs_of book.grid (farmers_of book.bidders words.bidders); masks = words.masks }

pub held : (book : Book) (words : FiveWords) → AreHeld (world_of book words) (begins book words)
held book words = record {
  inputs = λ j at. sym (at-five (inputs_at book.grid.prices (farmers_of book.bidders words.bidders)) j at);
  masks = λ j at. refl;
}

-- words that are computed
pub record AreComputed (a b : ℕ) (first second : Book) (words words' : FiveWords) : Type 0 where
  pub masks : MasksMappedFor a b (losses_of first second) words.masks words'.masks
  pub count : length words'.bidders ≡ length words.bidders
  pub bidders : BiddersMapped a b first.grid.prices (farmers_of first.bidders words.bidders)
      (farmers_of second.bidders words'.bidders)
  pub bidders_are : All (λ list. All IsWord list) words'.bidders
  pub five : length words'.coefficients ≡ 5
  pub are : AreWords five_servers (at_server words'.coefficients)
  pub coefficients : AreMapped a b (five_batch (five_over first.grid)) (begins first words) (begins second words') words.coefficients
      words'.coefficients

module _ (a b : ℕ) (some : 1 ≤ a) (less : a < b) (few : b ≤ 5) where
  mapped-over : (grid : Grid) (bidders others : List Bidder) → AreTwoBooks a b (over grid bidders) (over grid others) →
      (words words' : FiveWords) → CanRun (over grid bidders) words → AreComputed a b (over grid bidders) (over grid others) words words' →
      MappedForTwo a b (over grid bidders) words (over grid others) words'
  mapped-over grid bidders others two words words' can is =
      let first : Book = over grid bidders in
      let second : Book = over grid others in
      let masks_are : AreFive words'.masks =
      masks-small (lowest a b some less few) (losses_of first second) words.masks words'.masks can.are_words.masks is.masks in
      let stands : AreWorlds a b first words second words' =
      worlds a b some less few grid bidders others two words words' (record {
        can = can;
        masks_are = masks_are;
        masks = is.masks;
        long = is.count ∙ can.count ∙ sym (many a b some less few grid bidders others two);
        dealt = is.bidders;
      }) in
      record {
        are_words = can.are_words;
        are_words' = record {
          masks = masks_are;
          coefficients = five-words words'.coefficients is.five is.are;
          bidders = all-words words'.bidders is.bidders_are;
        };
        masks = is.masks;
        lists = is.count;
        bidders = is.bidders;
        coefficients = is.coefficients (rounds_of first words.masks) (world_of first words) (world_of second words') (record {
          held = held first words;
          held' = held second words';
          may = may a b some less few first second words words' stands;
          ends = ends a b some less few first second words words' stands;
        });
      }

  pub computed-pair : (first second : Book) → AreTwoBooks a b first second → (words words' : FiveWords) → CanRun first words →
      AreComputed a b first second words words' → AreOnePair a b first words second words'
  computed-pair first second two words words' can is =
      let one_grid : AreTwoBooks a b first (over first.grid second.bidders) =
      subst (λ g. AreTwoBooks a b first (over g second.bidders)) two.agree.grids two in
      let computed : AreComputed a b first (over first.grid second.bidders) words words' =
      subst (λ g. AreComputed a b first (over g second.bidders) words words') two.agree.grids is in
      let mapped : MappedForTwo a b first words (over first.grid second.bidders) words' =
      mapped-over first.grid first.bidders second.bidders one_grid words words' can computed in
      mapped-pair a b some less few first second two words words' can
      (subst (λ g. MappedForTwo a b first words (over g second.bidders) words') (sym two.agree.grids) mapped)

  -- the same, as it is computed part by part
  pub assembled : (first second : Book) → AreTwoBooks a b first second → (words : FiveWords) → CanRun first words →
      (next : ℕ → List ℕ → Batch) (here there : Begins) (masks bidders coefficients masks' bidders' coefficients' : List (List ℕ)) →
      next ≡ five_batch (five_over first.grid) → masks ≡ words.masks → bidders ≡ words.bidders → coefficients ≡ words.coefficients →
      here ≡ begins first words →
      there ≡ record { inputs = five_inputs_of second.grid (farmers_of second.bidders bidders'); masks = masks' } →
      MasksMappedFor a b (losses_of first second) masks masks' → length bidders' ≡ length bidders →
      BiddersMapped a b first.grid.prices (farmers_of first.bidders bidders) (farmers_of second.bidders bidders') →
      All (λ list. All IsWord list) bidders' → length coefficients' ≡ 5 → AreWords five_servers (at_server coefficients') →
      AreMapped a b next here there coefficients coefficients' →
      AreOnePair a b first words second (record { masks = masks'; coefficients = coefficients'; bidders = bidders' })
  assembled first second two words can next here there masks bidders coefficients masks' bidders' coefficients' n m d c h t
      turned count dealt below five are mapped =
      computed-pair first second two words (record { masks = masks'; coefficients = coefficients'; bidders = bidders' }) can (record {
        masks = subst (λ l. MasksMappedFor a b (losses_of first second) l masks') m turned;
        count = count ∙ ap length d;
        bidders = subst (λ l. BiddersMapped a b first.grid.prices (farmers_of first.bidders l) (farmers_of second.bidders bidders'))
            d dealt;
        bidders_are = below;
        five = five;
        are = are;
        coefficients = subst (λ x. AreMapped a b x (begins first words)
            (begins second (record { masks = masks'; coefficients = coefficients'; bidders = bidders' })) words.coefficients coefficients')
            n (subst (λ x. AreMapped a b next x
            (begins second (record { masks = masks'; coefficients = coefficients'; bidders = bidders' })) words.coefficients coefficients')
            h (subst (λ x. AreMapped a b next here x words.coefficients coefficients') t
            (subst (λ l. AreMapped a b next here there l coefficients') c mapped)));
      })
