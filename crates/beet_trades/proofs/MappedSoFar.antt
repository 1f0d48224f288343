-- The loop that maps the words of those who deal, one after another.
use Rattle.std.proofs.Common.{◌≡◌, ◌<◌, ◌≤◌, ◌+◌, ℕ, List, [], ◌∷◌, ◌++◌, take, length, get_or, slice_get, Some, refl, subst}
use Rattle.std.proofs.Common.{arith, length-append}
use Rattle.std.specs.Prelude.{All}
use Rattle.std.proofs.lemmas.List.{take_all}
use Rattle.std.proofs.lemmas.List.Elements.{All-more, All-nil, All-push}
use Rattle.std.proofs.lemmas.Option.{slice_get_read}
use Rattle.beet_field.specs.declared.point.Point.{Point}
use Rattle.beet_words.specs.Words.{IsWord}
use Rattle.beet_mapped.specs.Dealers.{Party, DealerMapped}
use Rattle.beet_trades.specs.ListsMapped.{ListsMapped}
use Rattle.beet_mapped.proofs.EachMapped.{EachMapped, dealer, each-mapped-more, parties-mapped}

-- so many of the lists are mapped: all of them and of what they are mapped to are words
pub record MappedSoFar (s : Point) (parties others : List Party) (words mapped : List (List ℕ)) (i : ℕ) : Type 0 where
  pub count : length mapped ≡ i
  pub below : All (λ list. All IsWord list) (take i words)
  pub are_words : All (λ list. All IsWord list) mapped
  pub each : EachMapped s parties others words mapped

module _ (s : Point) (parties others : List Party) (words : List (List ℕ)) where
  pub none-mapped : MappedSoFar s parties others words [] 0
  none-mapped = record {
    count = refl;
    below = All-nil (λ list. All IsWord list);
    are_words = All-nil (λ list. All IsWord list);
    each = λ k one other list moved a b c d. cc d;
  }

  pub mapped-more : (mapped : List (List ℕ)) (i : ℕ) (one other : Party) (list moved : List ℕ) →
      MappedSoFar s parties others words mapped i → i < length words → slice_get parties i ≡ Some one → slice_get others i ≡ Some other →
      list ≡ get_or words i list → DealerMapped s (dealer one list) (dealer other moved) → All IsWord list → All IsWord moved →
      MappedSoFar s parties others words (mapped ++ moved ∷ []) (i + 1)
  mapped-more mapped i one other list moved so lt a b is m below are = record {
    count = omega (arith, so.count, length-append mapped (moved ∷ []));
    below = All-more (λ list. All IsWord list) words i list lt so.below (subst (All IsWord) is below);
    are_words = All-push (λ list. All IsWord list) mapped moved so.are_words are;
    each = each-mapped-more s parties others words mapped i one other list moved so.each so.count a b
        (slice_get_read words (length words) i list refl lt is) m;
  }

  pub lists-mapped : (mapped : List (List ℕ)) (i : ℕ) → MappedSoFar s parties others words mapped i → length mapped ≡ length words →
      length words ≡ length parties → length others ≡ length parties → ListsMapped s parties others words mapped
  lists-mapped mapped i so all long long' = record {
    count = all;
    mapped = parties-mapped s parties others words mapped long long' all so.each;
    below = subst (All (λ list. All IsWord list)) (take_all i words (omega (arith, so.count, all))) so.below;
    below' = so.are_words;
  }
