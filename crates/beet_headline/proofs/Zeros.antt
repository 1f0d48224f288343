-- Words of zeros are enough for any book.
use Rattle.std.proofs.Common.{◌≡◌, ◌≤◌, ◌+◌, ◌*◌, ℕ, zero, suc, List, ◌∷◌, take, length, replicate, refl, ap, ◌∙◌, arith}
use Rattle.std.specs.Prelude.{All}
use Rattle.std.proofs.lemmas.List.{length-replicate, take-replicate}
use Rattle.std.proofs.lemmas.List.Elements.{All-replicate}
use Rattle.beet_words.specs.Bundles.{Words}
use Rattle.beet_words.specs.Words.{IsWord, accepted}
use Rattle.beet_bids.specs.Books.{Book}
use Rattle.beet_plan.specs.Auction.{auction_over, most_coefficients, most_masks}
use Rattle.beet_masking.specs.declared.TheConstants.{SPARE_WORDS}
use Rattle.beet_trades.specs.Enough.{HasAccepted}
use Rattle.beet_headline.specs.Statements.{CanRun}

-- so many words of 0
abbrev zeros : ℕ → List ℕ
zeros n = replicate n 0

accepted-zeros : (n : ℕ) → accepted (zeros n) ≡ zeros n
accepted-zeros zero = refl
accepted-zeros (suc n) = λ i. 0 ∷ accepted-zeros n i

zeros-long : (n : ℕ) → n ≤ length (zeros n)
zeros-long n = let long : length (zeros n) ≡ n = length-replicate n 0 in omega (arith, long)

zeros-small : (n : ℕ) → All IsWord (zeros n)
zeros-small n = All-replicate IsWord n 0 (omega arith)

zeros-enough : (wanted : ℕ) → HasAccepted wanted (zeros (wanted + SPARE_WORDS))
zeros-enough wanted =
    let n : ℕ = wanted + SPARE_WORDS in
    let long : length (accepted (take n (zeros n))) ≡ n =
    ap (λ l. length (accepted l)) (take-replicate n n 0 (omega arith)) ∙ ap length (accepted-zeros n) ∙ length-replicate n 0 in
    omega (arith, long)

pub zeros-run : (book : Book) → (words : Words) × CanRun book words
zeros-run book =
    let masks : ℕ = most_masks (auction_over book.grid) in
    let wanted : ℕ = most_coefficients (auction_over book.grid) in
    let n : ℕ = wanted + SPARE_WORDS in
    let list : List ℕ = zeros (2 * book.grid.prices + SPARE_WORDS) in (
      record {
        masks = record { one = zeros masks; two = zeros masks; three = zeros masks };
        coefficients = record { one = zeros n; two = zeros n; three = zeros n };
        bidders = replicate (length book.bidders) list;
      },
      record {
        are_words = record {
          masks = (zeros-small masks, zeros-small masks, zeros-small masks);
          coefficients = (zeros-small n, zeros-small n, zeros-small n);
          bidders = All-replicate (λ l. All IsWord l) (length book.bidders) list (zeros-small (2 * book.grid.prices + SPARE_WORDS));
        };
        enough = record {
          masks = (zeros-long masks, zeros-long masks, zeros-long masks);
          one = zeros-enough wanted;
          two = zeros-enough wanted;
          three = zeros-enough wanted;
          count = length-replicate (length book.bidders) list;
          bidders = All-replicate (HasAccepted (2 * book.grid.prices)) (length book.bidders) list (zeros-enough (2 * book.grid.prices));
        };
      },
    )
