-- The words of two sales that go with each other.
use Rattle.std.proofs.Common.{◌≡◌, ◌-◌, ℕ, List, [], ◌∷◌, map, length, slice_index, refl, sym, ap, subst, ◌∙◌, arith}
use Rattle.std.specs.Prelude.{All}
use Rattle.std.specs.List.{zip}
use Rattle.std.proofs.lemmas.List.{length-map}
use Rattle.std.proofs.lemmas.List.Elements.{All-map}
use Rattle.std.proofs.lemmas.Simd.{map-map}
use Rattle.beet_field.specs.Field.{IsElement, neg_of, sub_of}
use Rattle.beet_field.specs.declared.point.Point.{Point}
use Rattle.beet_field.specs.declared.trio.Trio.{Trio}
use Rattle.beet_gates.specs.declared.Gates.{Gates}
use Rattle.beet_words.specs.Bundles.{Words, AreWords}
use Rattle.beet_map.specs.Secrets.{Secrets, values_of}
use Rattle.beet_map_laws.specs.Pairs.{AreTwoWorlds, CanDraw, GoTogether}
use Rattle.beet_map_laws.proofs.Images.{image, source, two-back}
use Rattle.beet_turned.specs.MappedMasks.{MasksMapped}
use Rattle.beet_turned.proofs.MasksBack.{masks-back}
use Rattle.beet_turned.proofs.MasksThere.{masks-there}
use Rattle.beet_turned.proofs.Small.{mapped-masks}
use Rattle.beet_mapped.specs.Dealers.{Party, DealersMapped, dealers_of}
use Rattle.beet_map.proofs.Places.{element-at}
use Rattle.beet_mapped.proofs.DealerFacts.{dealers-back, dealers-elements, dealers-words}
use Rattle.beet_mapped.proofs.WorldFacts.{all-words, are-masks}
use Rattle.beet_trades.proofs.AllWords.{all-are}
use Rattle.beet_trades.proofs.DealersThere.{MovedDealers, dealers-there}
use Rattle.beet_trades.specs.Enough.{HasEnough}
use Rattle.beet_trades.specs.Servers.{world_with}
use Rattle.beet_map.proofs.Disagreeing.{as-many, mark-at}
use Rattle.beet_trades.proofs.Drawn.{all-drawn}
use Rattle.beet_trades.proofs.EnoughFacts.{masks-enough, parts-enough}
use Rattle.beet_compare.specs.Compare.{doubled}
use Rattle.beet_sale_plan.specs.Kept.{compared_of}
use Rattle.beet_sale_plan.specs.Outcome.{IsBid}
use Rattle.beet_sale_plan.specs.Sale.{Sale, bidders_of, sale_batch, most_coefficients, most_masks, most_rounds, most_wires}
use Rattle.beet_sale_plan.proofs.SaleStands.{sale-law}
use Rattle.beet_sale_file.specs.declared.rows.SaleBid.{SaleBid}
use Rattle.beet_sale_map.specs.Bids.{Agree, AreSaleBids, bids_of, sale_over}
use Rattle.beet_sale_map.specs.Enough.{AreEnough, wants_of}
use Rattle.beet_sale_map.specs.Losses.{lost}
use Rattle.beet_sale_map.specs.InputLines.{dealer_lines}
use Rattle.beet_sale_map.specs.MappedSales.{SalesMapped}
use Rattle.beet_sale_map.specs.Worlds.{losses_between, party_of}
use Rattle.beet_sale_map.proofs.SaleWorlds.{bid-values, elements-of, lines-there, look-same, losses-small, numbers-here}
use Rattle.beet_sale_map.proofs.SaleWorlds.{sales-mapped, secrets-here}

values-small : (bids : List SaleBid) (words : List (List ℕ)) → All (λ (b : SaleBid). IsBid b.bid) bids → length words ≡ length bids →
    (k : ℕ) →
    IsElement (slice_index (values_of (dealer_lines bids words)) k)
values-small bids words all e k =
    let each : All IsElement (bids_of bids) = All-map IsElement (λ (b : SaleBid). b.bid) bids
    (λ n d lt. let small = all n d lt in omega (arith, small)) in
    subst (λ l. IsElement (slice_index l k)) (sym (bid-values bids words e)) (element-at (bids_of bids) each k)

module _ (me : Point) (gates : Gates) (first second : List SaleBid) (words : Words) (are : AreSaleBids first) (are' : AreSaleBids second)
    (agree : Agree me first second) (are_words : AreWords words) (enough : AreEnough first words) where
  abbrev sale : Sale
  sale = sale_over gates first

  masks : (t : Trio (List ℕ)) × MasksMapped me (losses_between first second) words.masks t
  masks = masks-there (losses_between first second) words.masks me

  abbrev deals : Party → Type 0
  deals party = length party.quantities ≡ 1

  lists : MovedDealers me (map party_of first) (map party_of second) words.bidders
  lists =
      let known = λ (party : Party). party.known in
      dealers-there me 1 (map party_of first) (map party_of second) words.bidders
      (enough.count ∙ sym (length-map first party_of))
      (map-map known party_of second ∙ agree.shape ∙ sym (map-map known party_of first))
      (All-map deals party_of first (λ k d lt. refl)) (All-map deals party_of second (λ k d lt. refl))
      are_words.bidders (all-drawn 1 words.bidders enough.bidders)

  abbrev here : Secrets
  here = world_with (dealer_lines first words.bidders) words.masks

  abbrev there : Secrets
  there = world_with (dealer_lines second lists.lists) masks.0

  many : length lists.lists ≡ length second
  many = lists.count ∙ enough.count ∙ sym (as-many (λ (b : SaleBid). b.known) first second agree.shape)

  lengths : length lists.lists ≡ length words.bidders
  lengths = lists.count

  worlds : AreTwoWorlds (sale_batch sale) (most_rounds sale) (bidders_of sale) (most_masks sale) me here there
  worlds =
      let one = secrets-here me gates first second words lists.lists are are' agree are_words enough lengths lists.mapped in
      let count : length first ≡ bidders_of sale = omega (arith, are.size.some) in
      record {
        first = one;
        second = record {
          inputs = lines-there me gates first second words lists.lists are are' agree are_words enough lengths lists.mapped;
          masks = masks-enough me (losses_between first second) words.masks masks.0
              (most_masks sale) masks.1 one.masks;
        };
        elements = values-small first words.bidders are.limits enough.count;
        elements' = values-small second lists.lists are'.limits many;
        same = look-same me gates first second words lists.lists are are' agree are_words enough lengths lists.mapped masks.0 masks.1;
      }

  -- the words of the second sale
  pub second-there : (words' : Words) × AreWords words' × SalesMapped me gates first words second words'
  second-there =
      let found = image (sale_batch sale) (most_rounds sale) (bidders_of sale) (most_wires sale) (most_masks sale)
      (most_coefficients sale) (sale-law sale) me here there worlds words.coefficients
      (record {
        are_words = all-words words are_words;
        numbers = numbers-here me gates first second words lists.lists are are' agree are_words enough lengths lists.mapped;
      }) in
      let words' : Words = record { masks = masks.0; coefficients = found.0; bidders = lists.lists } in
      let are_words' : AreWords words' = all-are masks.0 found.0 lists.lists
      (mapped-masks (losses_between first second) me words.masks masks.0 (are-masks words are_words) masks.1) found.1.are_words
      lists.are_words in (
        words',
        are_words',
        sales-mapped me gates first second words lists.lists are are' agree are_words enough lengths lists.mapped masks.0 found.0
            masks.1 found.2 are_words',
      )

-- what is lost on the way back is what takes the losses off again
lost-back : (pairs pairs' : List (ℕ × ℕ)) → map lost (zip pairs pairs') ≡ map neg_of (map lost (zip pairs' pairs))
lost-back [] [] = refl
lost-back [] (y ∷ ys) = refl
lost-back (x ∷ xs) [] = refl
lost-back (x ∷ xs) (y ∷ ys) =
    let one = by (doubled x.0 x.1) (doubled y.0 y.1) (omega arith) (omega arith) in
    let rest = lost-back xs ys in
    λ j. one j ∷ rest j
  where
    by : (y z : ℕ) → IsElement y → IsElement z → sub_of y z ≡ neg_of (sub_of z y)
    by y z h l = omega arith

losses-back : (first second : List SaleBid) → length second ≡ length first →
    losses_between first second ≡ map neg_of (losses_between second first)
losses-back first second e =
    let pairs : ℕ → List (ℕ × ℕ) = λ n. compared_of (slice_index (bids_of first)) n in
    let pairs' : ℕ → List (ℕ × ℕ) = λ n. compared_of (slice_index (bids_of second)) n in
    lost-back (pairs (length first - 1)) (pairs' (length first - 1))
    ∙ ap (λ n. map neg_of (map lost (zip (pairs' (n - 1)) (pairs (n - 1))))) (sym e)

agree-back : (s : Point) (first second : List SaleBid) → Agree s first second → Agree s second first
agree-back s first second a = record {
  shape = sym a.shape;
  own = λ k one other e f known. sym (a.own k other one f e
      (mark-at (λ (b : SaleBid). b.known) second first k one other (sym a.shape) e f ∙ known));
  results = record { winner = a.results.winner; price = a.results.price; sold = a.results.sold'; sold' = a.results.sold };
}

-- and the words of the first, from those of the second
module _ (me : Point) (gates : Gates) (first second : List SaleBid) (words' : Words) (are : AreSaleBids first) (are' : AreSaleBids second)
    (agree : Agree me first second) (are_words' : AreWords words') (enough' : AreEnough second words') where
  agree' : Agree me second first
  agree' = agree-back me first second agree

  abbrev bids' : Sale
  bids' = sale_over gates second

  abbrev back-masks : (t : Trio (List ℕ)) × MasksMapped me (losses_between second first) words'.masks t
  back-masks = masks me gates second first words' are' are agree' are_words' enough'

  abbrev back-lists : MovedDealers me (map party_of second) (map party_of first) words'.bidders
  back-lists = lists me gates second first words' are' are agree' are_words' enough'

  many' : length second ≡ length first
  many' = as-many (λ (b : SaleBid). b.known) first second agree.shape

  abbrev w : Secrets
  w = there me gates second first words' are' are agree' are_words' enough'

  abbrev w' : Secrets
  w' = world_with (dealer_lines second words'.bidders) words'.masks

  drawn : (c : Trio (List ℕ)) × CanDraw (most_coefficients bids') c × GoTogether (sale_batch bids') (most_rounds bids') me w w' c
      words'.coefficients
  drawn =
      source (sale_batch bids') (most_rounds bids') (bidders_of bids') (most_wires bids') (most_masks bids') (most_coefficients bids')
      (sale-law bids') me w w'
      (two-back (sale_batch bids') (most_rounds bids') (bidders_of bids') (most_masks bids') me w' w
      (worlds me gates second first words' are' are agree' are_words' enough'))
      words'.coefficients
      (record {
        are_words = all-words words' are_words';
        numbers = numbers-here me gates second first words' back-lists.lists are' are agree' are_words' enough' back-lists.count
            back-lists.mapped;
      })

  abbrev back-words : Words
  back-words = record { masks = back-masks.0; coefficients = drawn.0; bidders = back-lists.lists }

  back-are : AreWords back-words
  back-are = all-are back-masks.0 drawn.0 back-lists.lists
      (mapped-masks (losses_between second first) me words'.masks back-masks.0 (are-masks words' are_words') back-masks.1)
      drawn.1.are_words back-lists.are_words

  back-enough : AreEnough first back-words
  back-enough =
      subst (λ n. HasEnough (wants_of n) n back-words) many'
      (parts-enough me (losses_between second first) (map party_of second) (map party_of first) words' back-words
      (wants_of (length second)) (length second)
      back-masks.1 (λ j. sym (drawn.2.mapped.places j)) back-lists.count back-lists.mapped
      (length-map second party_of) (length-map first party_of ∙ sym many') enough')

  back-mapped : DealersMapped me (dealers_of (map party_of first) back-lists.lists) (dealers_of (map party_of second) words'.bidders)
  back-mapped =
      dealers-back me (dealers_of (map party_of second) words'.bidders) (dealers_of (map party_of first) back-lists.lists)
      (dealers-elements (map party_of second) words'.bidders (elements-of second are'.limits))
      (dealers-elements (map party_of first) back-lists.lists (elements-of first are.limits))
      (dealers-words (map party_of second) words'.bidders are_words'.bidders) back-lists.mapped

  turned-back : MasksMapped me (losses_between first second) back-masks.0 words'.masks
  turned-back =
      subst (λ l. MasksMapped me l back-masks.0 words'.masks) (sym (losses-back first second many'))
      (masks-back me (losses_between second first) (losses-small second first) words'.masks back-masks.0 (are-masks words' are_words')
      back-masks.1)

  same-bids : bids' ≡ sale_over gates first
  same-bids = λ x. record { further = many' x - 1; gates = gates }

  pub first-there : (words : Words) × AreWords words × AreEnough first words × SalesMapped me gates first words second words'
  first-there =
      let together : GoTogether (sale_batch (sale_over gates first)) (most_rounds (sale_over gates first)) me w w' drawn.0
      words'.coefficients =
      subst (λ s. GoTogether (sale_batch s) (most_rounds s) me w w' drawn.0 words'.coefficients) same-bids drawn.2 in (
        back-words,
        back-are,
        back-enough,
        sales-mapped me gates first second back-words words'.bidders are are' agree back-are back-enough (sym back-lists.count)
            back-mapped words'.masks words'.coefficients turned-back together are_words',
      )
