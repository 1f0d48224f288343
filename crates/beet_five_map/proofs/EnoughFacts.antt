-- Words with which an auction can be run.
use Rattle.std.proofs.Common.{◌≡◌, ◌≤◌, ◌<◌, ◌*◌, ℕ, zero, suc, inl, inr, List, [], length, slice_index_or, refl, arith}
use Rattle.std.specs.Prelude.{All}
use Rattle.std.proofs.lemmas.List.Elements.{All-from_get_or, All-get_or}
use Rattle.beet_words.specs.Words.{IsWord, accepted}
use Rattle.beet_bids.specs.Books.{Book}
use Rattle.beet_linear_sharing.specs.Schemes.{five_servers}
use Rattle.beet_linear_sharing.specs.Sharings.{IsAmong}
use Rattle.beet_plan.specs.FivePlan.{five_over, most_masks, most_secrets}
use Rattle.beet_coalition.specs.Lists.{at_server}
use Rattle.beet_five_dealing.specs.FiveWords.{CanRun, FiveWords}
use Rattle.beet_five_map.specs.FiveWanted.{AreWanted}
use Rattle.beet_five_map.proofs.Computed.{all-words}

module _ (P : List ℕ → Type 0) (lists : List (List ℕ)) (five : length lists ≡ 5) where
  each-server : All P lists → (j : ℕ) → IsAmong five_servers.servers j → P (at_server lists j)
  each-server all j (inl e) = rw e (All-get_or P lists 0 [] (omega (arith, five)) all)
  each-server all j (inr (inl e)) = rw e (All-get_or P lists 1 [] (omega (arith, five)) all)
  each-server all j (inr (inr (inl e))) = rw e (All-get_or P lists 2 [] (omega (arith, five)) all)
  each-server all j (inr (inr (inr (inl e)))) = rw e (All-get_or P lists 3 [] (omega (arith, five)) all)
  each-server all j (inr (inr (inr (inr (inl e))))) = rw e (All-get_or P lists 4 [] (omega (arith, five)) all)
  each-server all j (inr (inr (inr (inr (inr e))))) = absurd e

  all-servers : ((j : ℕ) → IsAmong five_servers.servers j → P (at_server lists j)) → All P lists
  all-servers each = All-from_get_or P lists [] (λ k lt. at k (omega (arith, lt, five))) where
    at : (k : ℕ) → k < 5 → P (slice_index_or lists k [])
    at zero lt = each 1 (inl refl)
    at (suc zero) lt = each 2 (inr (inl refl))
    at (suc (suc zero)) lt = each 3 (inr (inr (inl refl)))
    at (suc (suc (suc zero))) lt = each 4 (inr (inr (inr (inl refl))))
    at (suc (suc (suc (suc zero)))) lt = each 5 (inr (inr (inr (inr (inl refl)))))
    at (suc (suc (suc (suc (suc k))))) lt = absurd (omega arith)

module _ (book : Book) (words : FiveWords) where
  pub wanted-run : All (λ list. All IsWord list) words.masks → All (λ list. All IsWord list) words.coefficients →
      All (λ list. All IsWord list) words.bidders → AreWanted book words → CanRun book words
  wanted-run masks coefficients bidders w = record {
    are_words = record {
      masks = record { five = w.masks_five; small = all-words words.masks masks };
      coefficients = record { five = w.coefficients_five; small = all-words words.coefficients coefficients };
      bidders = all-words words.bidders bidders;
    };
    masks = each-server (λ list. most_masks (five_over book.grid) ≤ length list) words.masks w.masks_five w.masks;
    coefficients = each-server (λ list. 2 * most_secrets (five_over book.grid) ≤ length (accepted list)) words.coefficients
        w.coefficients_five w.coefficients;
    count = w.count;
    bidders = λ k lt.
        let many = All-get_or (λ list. 4 * book.grid.prices ≤ length (accepted list)) words.bidders k [] lt w.bidders in
        omega (arith, many);
  }

  pub run-wanted : CanRun book words → AreWanted book words
  run-wanted can = record {
    masks_five = can.are_words.masks.five;
    coefficients_five = can.are_words.coefficients.five;
    count = can.count;
    masks = all-servers (λ list. most_masks (five_over book.grid) ≤ length list) words.masks can.are_words.masks.five can.masks;
    coefficients = all-servers (λ list. 2 * most_secrets (five_over book.grid) ≤ length (accepted list)) words.coefficients
        can.are_words.coefficients.five can.coefficients;
    bidders = All-from_get_or (λ list. 4 * book.grid.prices ≤ length (accepted list)) words.bidders []
        (λ k lt. let many = can.bidders k lt in omega (arith, many));
  }
