-- The words of the second world are as many as those of the first.
use Rattle.std.proofs.Common.{◌≡◌, ◌<◌, ◌≤◌, ◌+◌, ◌*◌, ℕ, List, [], map, length, get_or, sym, ap, subst, ◌∙◌, arith}
use Rattle.std.specs.Prelude.{All}
use Rattle.std.proofs.lemmas.List.{get_or-map, length-map, take_all}
use Rattle.std.proofs.lemmas.List.Elements.{All-from_get_or, All-get_or}
use Rattle.beet_field.specs.declared.point.Point.{Point}
use Rattle.beet_field.specs.declared.point.Point.TheVariants.{One, Two, Three}
use Rattle.beet_words.specs.declared.bundle.TheConstants.{MOST_BIDDERS}
use Rattle.beet_words.specs.Bundles.{Words, FitsBundle}
use Rattle.beet_words.specs.Words.{accepted}
use Rattle.beet_words.proofs.WordLists.{ones-long}
use Rattle.beet_bids.specs.Books.{Book}
use Rattle.beet_bids.specs.Grids.{Grid, IsGrid}
use Rattle.beet_bids.proofs.GridFacts.{few_comparisons}
use Rattle.beet_bids.specs.declared.book.Bidder.{Bidder}
use Rattle.beet_plan.specs.Kept.{coefficients_kept, words_kept}
use Rattle.beet_load.specs.Counts.{coefficients_wanted, counts_of, masks_wanted, words_wanted}
use Rattle.beet_load.specs.Wholes.{CanDeal, CanStart}
use Rattle.beet_trades.specs.Enough.{HasAccepted}
use Rattle.beet_auction_map.specs.Enough.{AreEnough}
use Rattle.beet_auction_map.specs.MappedBidders.{BiddersMapped, party_of}
use Rattle.beet_auction_map.specs.MappedWords.{Mapped}
use Rattle.beet_auction_map.specs.ViewsWith.{cut_words, transcript_with}
use Rattle.beet_view.specs.BookViews.{transcript_for}
use Rattle.beet_mapped.proofs.DealerFacts.{lists-alike, lists-long}
use Rattle.beet_words.proofs.WordLists.{lists-uncut}

bidders-kept : (grid : Grid) (lists : List (List ℕ)) → All (CanDeal (counts_of grid)) lists → All
    (λ (list : List ℕ). length list ≤ words_kept grid.prices) lists
bidders-kept grid lists all = λ k d lt. (all k d lt).kept

-- the words with which an auction can run are no more than those that are read for it
pub words-uncut : (book : Book) (words : Words) → CanStart book words → cut_words book.grid words ≡ words
words-uncut book words r =
    let grid = book.grid in
    let m1 = take_all (masks_wanted grid) words.masks.one r.cut.one.masks in
    let m2 = take_all (masks_wanted grid) words.masks.two r.cut.two.masks in
    let m3 = take_all (masks_wanted grid) words.masks.three r.cut.three.masks in
    let c1 = take_all (coefficients_kept grid) words.coefficients.one r.cut.one.coefficients in
    let c2 = take_all (coefficients_kept grid) words.coefficients.two r.cut.two.coefficients in
    let c3 = take_all (coefficients_kept grid) words.coefficients.three r.cut.three.coefficients in
    let lists = lists-uncut (words_kept grid.prices) words.bidders (bidders-kept grid words.bidders r.bidders) in
    λ i. record {
      masks = record { one = m1 i; two = m2 i; three = m3 i };
      coefficients = record { one = c1 i; two = c2 i; three = c3 i };
      bidders = lists i;
    }

-- so their transcripts are those of the words that are read
pub same-transcripts : (s : Point) (first second : Book) (words mapped : Words) → CanStart first words → CanStart second mapped →
    transcript_with second mapped s ≡ transcript_with first words s → transcript_for second mapped s ≡ transcript_for first words s
same-transcripts s first second words mapped r r' e =
    sym (ap (λ (w : Words). transcript_for second w s) (words-uncut second mapped r')) ∙ e
    ∙ ap (λ (w : Words). transcript_for first w s) (words-uncut first words r)

kept-has : (wanted : ℕ) (words : List ℕ) → length words ≤ wanted + 8 → HasAccepted wanted words → wanted ≤ length (accepted words)
kept-has wanted words short h = subst (λ (w : List ℕ). wanted ≤ length (accepted w)) (take_all (wanted + 8) words short) h

-- the words of each bidder are as many in both worlds
bidders-long : (s : Point) (bidders others : List Bidder) (words words' : List (List ℕ)) → length words ≡ length bidders →
    length words' ≡ length others → length words' ≡ length words → BiddersMapped s bidders words others words' →
    (k : ℕ) → k < length words' → length (get_or words' k []) ≡ length (get_or words k [])
bidders-long s bidders others words words' a b c m k lt =
    let all = lists-long words words'
    (lists-alike s (map party_of bidders) (map party_of others) words words' (a ∙ sym (length-map bidders party_of))
    (b ∙ sym (length-map others party_of)) m) in
    let long = λ (list : List ℕ). length list in
    sym (get_or-map long words' k [] 0 lt) ∙ ap (λ l. get_or l k 0) all ∙ get_or-map long words k [] 0 (omega (arith, lt, c))

-- three servers can run the second auction with the mapped words
pub can-run : (s : Point) (first second : Book) (words mapped : Words) → CanStart first words → second.grid ≡ first.grid →
    Mapped s first words second mapped → AreEnough second mapped → CanStart second mapped
can-run s first second words mapped r grids m e = by second.grid grids e where
  by : (grid : Grid) → grid ≡ first.grid → AreEnough (record { grid = grid; bidders = second.bidders }) mapped →
      CanStart (record { grid = grid; bidders = second.bidders }) mapped
  by grid g e = subst (λ (grid : Grid). AreEnough (record { grid = grid; bidders = second.bidders }) mapped →
      CanStart (record { grid = grid; bidders = second.bidders }) mapped)
      (sym g) there e where
        there : AreEnough (record { grid = first.grid; bidders = second.bidders }) mapped →
            CanStart (record { grid = first.grid; bidders = second.bidders }) mapped
        there e =
            let masks1 = m.masks.lengths One in
            let masks2 = m.masks.lengths Two in
            let masks3 = m.masks.lengths Three in
            let long1 = ones-long words.coefficients.one mapped.coefficients.one (m.places One) in
            let long2 = ones-long words.coefficients.two mapped.coefficients.two (m.places Two) in
            let long3 = ones-long words.coefficients.three mapped.coefficients.three (m.places Three) in
            let wanted : ℕ = coefficients_wanted first.grid in
            let short1 : length mapped.coefficients.one ≤ wanted + 8 = omega (arith, long1, r.cut.one.coefficients) in
            let short2 : length mapped.coefficients.two ≤ wanted + 8 = omega (arith, long2, r.cut.two.coefficients) in
            let short3 : length mapped.coefficients.three ≤ wanted + 8 = omega (arith, long3, r.cut.three.coefficients) in
            let lists = bidders-long s first.bidders second.bidders words.bidders mapped.bidders r.lists e.count m.lists m.dealers in
            let short : (k : ℕ) → k < length mapped.bidders → length (get_or mapped.bidders k []) ≤ words_kept first.grid.prices =
            λ k lt. (let a = lists k lt in let b = All-get_or (CanDeal (counts_of first.grid)) words.bidders k []
            (omega (arith, m.lists)) r.bidders in omega (arith, a, b.kept)) in
            record {
              servers = record {
                one = record { coefficients = kept-has wanted mapped.coefficients.one short1 e.one; masks = e.masks.0 };
                two = record { coefficients = kept-has wanted mapped.coefficients.two short2 e.two; masks = e.masks.1 };
                three = record { coefficients = kept-has wanted mapped.coefficients.three short3 e.three; masks = e.masks.2 };
              };
              cut = record {
                one = record { masks = omega (arith, masks1, r.cut.one.masks); coefficients = short1 };
                two = record { masks = omega (arith, masks2, r.cut.two.masks); coefficients = short2 };
                three = record { masks = omega (arith, masks3, r.cut.three.masks); coefficients = short3 };
              };
              lists = e.count;
              bidders = All-from_get_or (CanDeal (counts_of first.grid)) mapped.bidders []
                  (λ k lt. record {
                    enough = kept-has (words_wanted first.grid) (get_or mapped.bidders k []) (short k lt)
                        (All-get_or (HasAccepted (2 * first.grid.prices)) mapped.bidders k [] lt e.bidders);
                    kept = short k lt;
                  });
            }

-- and they can stand in a bundle
pub bundle-fits : (book : Book) (words : Words) → CanStart book words → IsGrid book.grid →
    length book.bidders ≤ MOST_BIDDERS → FitsBundle words
bundle-fits book words r grid few =
    let prices = grid.prices_limit in
    let comparisons = few_comparisons book.grid.prices prices in
    record {
      count = omega (arith, r.lists);
      masks = (omega (arith, r.cut.one.masks), omega (arith, r.cut.two.masks), omega (arith, r.cut.three.masks));
      coefficients = (
        omega (arith, r.cut.one.coefficients),
        omega (arith, r.cut.two.coefficients),
        omega (arith, r.cut.three.coefficients),
      );
      bidders = λ k d lt. (let kept = (r.bidders k d lt).kept in omega (arith, kept, prices));
    }
