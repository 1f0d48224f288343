-- The loop that maps the words of each bidder.
use Rattle.std.proofs.Common.{◌≡◌, ◌<◌, ◌≤◌, ◌+◌, ◌*◌, ℕ, List, [], ◌∷◌, ◌++◌, take, length, get_or, refl, sym, subst, ◌∙◌, arith}
use Rattle.std.proofs.Common.{slice_get, Some, length-append}
use Rattle.std.specs.Prelude.{All}
use Rattle.std.proofs.lemmas.List.{get_or_read, length-take-le, take_all, take_more}
use Rattle.std.proofs.lemmas.List.Elements.{All-nil, All-push}
use Rattle.std.proofs.lemmas.Option.{same_Some, slice_get-get_or}
use Rattle.beet_words.specs.Words.{IsWord, accepted}
use Rattle.beet_bids.specs.declared.book.Bidder.{Bidder}
use Rattle.beet_book.specs.Farmers.{BidderWithWords, farmers_of}
use Rattle.beet_book.proofs.FarmerLists.{farmers-push}
use Rattle.beet_five_dealing.specs.FiveWords.{AllAccepted}
use Rattle.beet_five_map.specs.FiveWorlds.{BidderMapped, BiddersMapped}
use Rattle.beet_five_map.proofs.BidderFacts.{Mapped}

-- so many words of the list at a place are not all ones
pub accepted-in : (words : List (List ℕ)) (i : ℕ) (list : List ℕ) (prices : ℕ) → i < length words → list ≡ get_or words i list →
    AllAccepted (2 * (2 * prices)) words → 2 * (2 * prices) ≤ length (accepted list)
accepted-in words i list prices lt is enough =
    subst (λ l. 2 * (2 * prices) ≤ length (accepted l)) (sym (get_or_read words i list lt is [])) (enough i lt)

module _ (a b prices : ℕ) where
  push : (fs gs : List BidderWithWords) (f g : BidderWithWords) → BiddersMapped a b prices fs gs → BidderMapped a b prices f g →
      BiddersMapped a b prices (fs ++ f ∷ []) (gs ++ g ∷ [])
  push [] [] f g all here = (here, all)
  push [] (y ∷ ys) f g all here = absurd all
  push (x ∷ xs) [] f g all here = absurd all
  push (x ∷ xs) (y ∷ ys) f g all here = (all.0, push xs ys f g all.1 here)

  module _ (bidders others : List Bidder) (words : List (List ℕ)) where
    -- the words of so many bidders are mapped
    pub record ListsTo (mapped : List (List ℕ)) (i : ℕ) : Type 0 where
      pub count : length mapped ≡ i
      pub are_words : All (λ list. All IsWord list) mapped
      pub mapped_to : Mapped a b prices (take i bidders) (take i words) (take i others) mapped

    pub lists-none : ListsTo [] 0
    lists-none = record { count = refl; are_words = All-nil (λ list. All IsWord list); mapped_to = tt }

    module _ (long : length bidders ≡ length words) (long' : length others ≡ length words) where
      pub lists-more : (mapped : List (List ℕ)) (i : ℕ) (one other : Bidder) (list moved : List ℕ) → ListsTo mapped i → i < length words →
          slice_get bidders i ≡ Some one → slice_get others i ≡ Some other → list ≡ get_or words i list →
          BidderMapped a b prices (record { bidder = one; words = list }) (record { bidder = other; words = moved }) →
          All IsWord moved → ListsTo (mapped ++ moved ∷ []) (i + 1)
      lists-more mapped i one other list moved to lt at at' is_list here are =
          let is_one : one ≡ get_or bidders i one =
          same_Some one (get_or bidders i one) (sym at ∙ slice_get-get_or bidders i one (omega arith)) in
          let is_other : other ≡ get_or others i other =
          same_Some other (get_or others i other) (sym at' ∙ slice_get-get_or others i other (omega arith)) in
          let front : take (i + 1) bidders ≡ take i bidders ++ one ∷ [] =
          take_more bidders i one (omega arith) ∙ (λ j. take i bidders ++ sym is_one j ∷ []) in
          let front' : take (i + 1) others ≡ take i others ++ other ∷ [] =
          take_more others i other (omega arith) ∙ (λ j. take i others ++ sym is_other j ∷ []) in
          let front'' : take (i + 1) words ≡ take i words ++ list ∷ [] =
          take_more words i list lt ∙ (λ j. take i words ++ sym is_list j ∷ []) in
          let n = length-take-le i bidders (omega arith) in
          let n' = length-take-le i others (omega arith) in
          let n'' = length-take-le i words (omega arith) in
          let count = to.count in
          record {
            count = omega (arith, count, length-append mapped (moved ∷ []));
            are_words = All-push (λ l. All IsWord l) mapped moved to.are_words are;
            mapped_to = rw (
              front,
              front',
              front'',
              farmers-push (take i bidders) (take i words) one list (omega (arith, n, n'')),
              farmers-push (take i others) mapped other moved (omega (arith, n', count)),
            ) (push (farmers_of (take i bidders) (take i words)) (farmers_of (take i others) mapped)
                (record { bidder = one; words = list }) (record { bidder = other; words = moved }) to.mapped_to here);
          }

      pub lists-all : (mapped : List (List ℕ)) (i : ℕ) → length words ≤ i → ListsTo mapped i → Mapped a b prices bidders words others mapped
      lists-all mapped i past to =
          rw (← take_all i bidders (omega arith), ← take_all i words past, ← take_all i others (omega arith)) to.mapped_to
