-- Words of zeros are enough for any book.
use Rattle.std.proofs.Common.{◌≡◌, ◌*◌, ℕ, zero, suc, inl, inr, List, length, slice_index, replicate, refl, arith}
use Rattle.std.proofs.lemmas.List.{length-replicate}
use Rattle.beet_words.specs.Words.{IsWord, accepted}
use Rattle.beet_bids.specs.Books.{Book}
use Rattle.beet_linear_sharing.specs.Schemes.{five_servers}
use Rattle.beet_linear_sharing.specs.Sharings.{IsAmong}
use Rattle.beet_plan.specs.FivePlan.{five_over, most_masks, most_secrets}
use Rattle.beet_coalition.specs.Lists.{at_server}
use Rattle.beet_five_dealing.specs.FiveWords.{AllAccepted, AreFive, AreWordLists, CanRun, FiveWords}
use Rattle.beet_five_dealing.proofs.Lists.{lists-cons}

-- so many words of 0
abbrev zeros : ℕ → List ℕ
zeros n = replicate n 0

zero-word : (n i : ℕ) → IsWord (slice_index (zeros n) i)
zero-word zero i = omega arith
zero-word (suc n) zero = omega arith
zero-word (suc n) (suc i) = zero-word n i

zeros-accepted : (n : ℕ) → length (accepted (zeros n)) ≡ n
zeros-accepted zero = refl
zeros-accepted (suc n) = let rest = zeros-accepted n in omega (arith, rest)

zero-lists : (count n : ℕ) → AreWordLists (replicate count (zeros n))
zero-lists zero n k i = omega arith
zero-lists (suc count) n k i = lists-cons (zeros n) (replicate count (zeros n)) (zero-word n) (zero-lists count n) k i

lists-accepted : (count n : ℕ) → AllAccepted n (replicate count (zeros n))
lists-accepted zero n k lt = absurd (omega arith)
lists-accepted (suc count) n zero lt = let long = zeros-accepted n in omega (arith, long)
lists-accepted (suc count) n (suc k) lt = lists-accepted count n k (omega arith)

five-zeros : (n : ℕ) → AreFive (replicate 5 (zeros n))
five-zeros n = record { five = refl; small = zero-lists 5 n }

server-zeros : (n j : ℕ) → IsAmong five_servers.servers j → at_server (replicate 5 (zeros n)) j ≡ zeros n
server-zeros n j (inl e) = rw e refl
server-zeros n j (inr (inl e)) = rw e refl
server-zeros n j (inr (inr (inl e))) = rw e refl
server-zeros n j (inr (inr (inr (inl e)))) = rw e refl
server-zeros n j (inr (inr (inr (inr (inl e))))) = rw e refl
server-zeros n j (inr (inr (inr (inr (inr e))))) = absurd e

pub zeros-run : (book : Book) → (words : FiveWords) × CanRun book words
zeros-run book =
    let masks : ℕ = most_masks (five_over book.grid) in
    let numbers : ℕ = 2 * most_secrets (five_over book.grid) in
    let quantities : ℕ = 2 * (2 * book.grid.prices) in (
      record {
        masks = replicate 5 (zeros masks);
        coefficients = replicate 5 (zeros numbers);
        bidders = replicate (length book.bidders) (zeros quantities);
      },
      record {
        are_words = record {
          masks = five-zeros masks;
          coefficients = five-zeros numbers;
          bidders = zero-lists (length book.bidders) quantities;
        };
        masks = λ j at.
            let long : length (zeros masks) ≡ masks = length-replicate masks 0 in
            rw (server-zeros masks j at) (omega (arith, long));
        coefficients = λ j at. rw (server-zeros numbers j at) (let long = zeros-accepted numbers in omega (arith, long));
        count = length-replicate (length book.bidders) (zeros quantities);
        bidders = lists-accepted (length book.bidders) quantities;
      },
    )
