-- Instances of the premises of the statements.
use Rattle.std.proofs.Common.{◌≡◌, ◌≢◌, ℕ, List, [], ◌∷◌, length, map, take, slice_get, slice_index}
use Rattle.std.proofs.Common.{refl, ap, arith}
use Rattle.std.specs.Prelude.{All}
use Rattle.std.proofs.lemmas.List.Elements.{All-cons, All-nil}
use Rattle.std.proofs.lemmas.List.Kept.{AllPairs-cons}
use Rattle.beet_field.specs.declared.point.Point.TheVariants.{One}
use Rattle.beet_words.specs.Bundles.{Words}
use Rattle.beet_words.specs.Words.{IsWord, accepted}
use Rattle.beet_bids.specs.Curves.{Curve}
use Rattle.beet_bids.specs.Grids.{IsGrid}
use Rattle.beet_book.specs.Farmers.{farmers_of}
use Rattle.beet_plan.specs.Kept.{words_kept}
use Rattle.beet_view.specs.BookViews.{seen_at}
use Rattle.beet_view.specs.declared.view.Seen.{Seen}
use Rattle.beet_auction_map.specs.ViewsWith.{transcript_with}
use Rattle.beet_headline.specs.Envelopes.{AreTwoBids, CanSeal}
use Rattle.beet_headline.specs.Statements.{AllShow, AreChoices, CanRun, IsSeen}
use Rattle.beet_counterexamples.specs.Examples.{book_selling, buyer, seller_of, two_prices}
use Rattle.beet_counterexamples.proofs.MustAgree.{farmer}
use Rattle.beet_counterexamples.proofs.TwoBooks.{sells}

pub one-choice : (words : Words) → CanRun (book_selling 5) words → AreChoices (book_selling 5) (words ∷ [])
    × AllShow One (book_selling 5) (transcript_with (book_selling 5) words One) (words ∷ [])
one-choice words runs =
    let differ : Words → Words → Type 0 = λ a b. a ≢ b in
    let shows : Words → Type 0 = λ w. transcript_with (book_selling 5) w One ≡ transcript_with (book_selling 5) words One
    in (
      record {
        can_run = All-cons (CanRun (book_selling 5)) words [] runs (All-nil (CanRun (book_selling 5)));
        once = AllPairs-cons differ words [] (All-nil (differ words)) (λ i j d lt within. absurd (omega arith));
      },
      All-cons shows words [] refl (All-nil shows),
    )

is-grid : IsGrid two_prices
is-grid = record {
  base_limit = omega arith;
  tick_some = omega arith;
  tick_limit = omega arith;
  prices_some = omega arith;
  prices_limit = omega arith;
}

pub two-bids : AreTwoBids two_prices (seller_of 5).curve (seller_of 7).curve
two-bids = record {
  is_grid = is-grid;
  one_curve = sells 5 (omega arith);
  other_curve = sells 7 (omega arith);
  one_of_grid = record { buy_length = refl; sell_length = refl };
  other_of_grid = record { buy_length = refl; sell_length = refl };
}

pub bids-differ : (seller_of 7).curve ≢ (seller_of 5).curve
bids-differ e =
    let amounts : 7 ≡ 5 = ap (λ (c : Curve). slice_index c.sell 1) e in absurd (omega (arith, amounts))

drawn : length (accepted (0 ∷ 0 ∷ 0 ∷ 0 ∷ [])) ≡ 4
drawn = refl

pub seals : CanSeal two_prices (0 ∷ 0 ∷ 0 ∷ 0 ∷ [])
seals = record {
  are_words = zero-words (All-cons IsWord 0 (0 ∷ 0 ∷ []) (omega arith) (All-cons IsWord 0 (0 ∷ []) (omega arith)
      (All-cons IsWord 0 [] (omega arith) (All-nil IsWord))));
  enough = omega (arith, drawn);
}
  where
    zero-words : All IsWord (0 ∷ 0 ∷ 0 ∷ []) → All IsWord (0 ∷ 0 ∷ 0 ∷ 0 ∷ [])
    zero-words three = All-cons IsWord 0 (0 ∷ 0 ∷ 0 ∷ []) (omega arith) three

pub is-seen : (words : Words) → CanRun (book_selling 5) words →
    (list : List ℕ) × (seen : Seen) × IsSeen One (book_selling 5) words 0 buyer list seen
is-seen words runs = first words.bidders refl where
  count : length words.bidders ≡ 2
  count = runs.enough.count

  first : (lists : List (List ℕ)) → words.bidders ≡ lists →
      (list : List ℕ) × (seen : Seen) × IsSeen One (book_selling 5) words 0 buyer list seen
  first [] e = absurd (omega (arith, count, ap length e))
  first (list ∷ lists) e = (
    list,
    seen_at two_prices One (farmer buyer (take (words_kept 2) list)),
    record {
      bids = refl;
      deals = ap (λ l. slice_get l 0) e;
      shows = ap (λ l. slice_get (map (seen_at two_prices One)
          (farmers_of (book_selling 5).bidders (map (take (words_kept 2)) l))) 0) e;
    },
  )
