-- Bidders with their words.
use Rattle.std.proofs.Common.{◌≡◌, ℕ, List, [], ◌∷◌, map, length, sym, ap, ◌∙◌, arith}
use Rattle.std.specs.Prelude.{All}
use Rattle.std.proofs.lemmas.List.Elements.{All-cons, All-head, All-tail}
use Rattle.beet_words.specs.Words.{IsWord}
use Rattle.beet_bids.specs.declared.book.Bidder.{Bidder}
use Rattle.beet_book.specs.Farmers.{BidderWithWords, farmers_of}
use Rattle.beet_book.proofs.FarmerLists.{farmers-words as told-words}

pub farmers-words : (bidders : List Bidder) (words : List (List ℕ)) → All (All IsWord) words →
    All (λ (f : BidderWithWords). All IsWord f.words) (farmers_of bidders words)
farmers-words [] words all = λ k d lt. absurd (omega arith)
farmers-words (b ∷ bs) [] all = λ k d lt. absurd (omega arith)
farmers-words (b ∷ bs) (w ∷ ws) all =
    All-cons (λ (f : BidderWithWords). All IsWord f.words) (record { bidder = b; words = w }) (farmers_of bs ws)
    (All-head (All IsWord) w ws all)
    (farmers-words bs ws (All-tail (All IsWord) w ws all))

-- bidders with their words tell the words
pub words-told : (bidders : List Bidder) (u v : List (List ℕ)) → length u ≡ length bidders → length v ≡ length bidders →
    farmers_of bidders u ≡ farmers_of bidders v → u ≡ v
words-told bidders u v a b e = told-words bidders u a ∙ ap (map (λ (f : BidderWithWords). f.words)) e ∙ sym (told-words bidders v b)
