-- Five servers that run a script, and those that run the auction of a book.
use Rattle.std.specs.Prelude.{◌≡◌, ◌≤◌, ◌<◌, ◌*◌, ◌^◌, ◌-◌, ℕ, List, length, slice_get, Some}
use Rattle.beet_words.specs.Tapes.{Tape}
use Rattle.beet_words.specs.Words.{accepted}
use Rattle.beet_gates.specs.declared.Batch.{Batch}
use Rattle.beet_bids.specs.Books.{Book, IsBook}
use Rattle.beet_book.specs.Farmers.{farmers_of}
use Rattle.beet_plan.specs.declared.Finish.{Finish}
use Rattle.beet_weights.specs.Quadratics.{IsServer}
use Rattle.beet_linear_sharing.specs.Runs.{Setup}
use Rattle.beet_coalition.specs.Lists.{at_server}
use Rattle.beet_five_server.specs.Answers.{Core, fresh_core}
use Rattle.beet_five_server.specs.Fits.{OpensAt}
use Rattle.beet_plan.specs.FivePlan.{FiveAuction, five_over}
use Rattle.beet_five_dealing.specs.FiveTotals.{five_inputs_of}
use Rattle.beet_five_dealing.specs.FiveWords.{CanRun, FiveWords}
use Rattle.beet_five_auction.specs.FiveEndings.{book_finish, book_rounds}
use Rattle.beet_five_lockstep.specs.FiveLockstep.{HaveEnded}

-- a tape of these words, none of which is passed
abbrev pub unpassed : List ℕ → Tape
unpassed words = record { words = words; passed = 0 }

-- there are five lists, and each server's is so
pub record EachOfFive (P : List ℕ → Type 0) (lists : List (List ℕ)) : Type 0 where
  pub five : length lists ≡ 5
  pub are : (j : ℕ) → IsServer j → P (at_server lists j)

-- as many as are wanted count of a list, which has fewer than 2^32 words
pub record IsEnough (wanted counted : ℕ) (list : List ℕ) : Type 0 where
  pub enough : wanted ≤ counted
  pub few : length list < 2 ^ 32

-- five servers can begin a script with these shares of its inputs and these words: each has a share of each input, and
-- as many words as the script may ask for, of which two numbers for each secret can be drawn
pub record CanStart {S : Type 0} (inputs_of secrets_of masks_of : S → ℕ) (script : S)
    (inputs masks coefficients : List (List ℕ)) : Type 0 where
  pub has_inputs : EachOfFive (λ list. length list ≡ inputs_of script) inputs
  pub has_masks : EachOfFive (λ list. IsEnough (masks_of script) (length list) list) masks
  pub has_coefficients : EachOfFive (λ list. IsEnough (2 * secrets_of script) (length (accepted list)) list)
      coefficients

-- no server has 2^32 mask words or more, or as many words for numbers
pub record HasFewWords (words : FiveWords) : Type 0 where
  pub masks : (j : ℕ) → IsServer j → length (at_server words.masks j) < 2 ^ 32
  pub coefficients : (j : ℕ) → IsServer j → length (at_server words.coefficients j) < 2 ^ 32

module _ {S : Type 0} (next : S → ℕ → List ℕ → Batch) where
  -- the run of a script with these inputs and words of five servers
  abbrev pub setup_with : S → List (List ℕ) → List (List ℕ) → List (List ℕ) → Setup
  setup_with script inputs masks coefficients = record {
    next = next script;
    inputs = at_server inputs;
    masks = at_server masks;
    numbers = λ j. accepted (at_server coefficients j);
  }

  -- five fresh servers of a script of at most so many rounds, with these inputs and words
  pub record Starts (most : S → ℕ) (script : S) (inputs masks coefficients : List (List ℕ))
      (cores : List (Core S)) : Type 0 where
    pub count : length cores ≡ 5
    pub are : (j : ℕ) → IsServer j → slice_get cores (j - 1)
        ≡ Some (fresh_core next j script (at_server inputs j) (unpassed (at_server masks j))
        (unpassed (at_server coefficients j)) (most script))

  -- five servers begin a script with some inputs and words
  pub record HaveStarted (most : S → ℕ) (cores : List (Core S)) : Type 0 where
    pub script : S
    pub inputs : List (List ℕ)
    pub masks : List (List ℕ)
    pub coefficients : List (List ℕ)
    pub starts : Starts most script inputs masks coefficients cores

  -- a run opens with this script, and at each of five servers with these inputs and words
  abbrev pub OpensWith : Setup → S → List (List ℕ) → List (List ℕ) → List (List ℕ) → Type 0
  OpensWith o script inputs masks coefficients =
      (j : ℕ) → IsServer j →
      OpensAt next o j script (at_server inputs j) (at_server masks j) (at_server coefficients j)

  -- five servers have gone from the start to the end of every run that opens so
  abbrev pub HaveRun : S → List (List ℕ) → List (List ℕ) → List (List ℕ) → List (Core S) → Type 0
  HaveRun script inputs masks coefficients cores =
      (o : Setup) → OpensWith o script inputs masks coefficients → HaveEnded next o script cores

-- if these are the inputs and words of the auction of a book, it ends so, after so many rounds
abbrev pub EndsBook : FiveAuction → List (List ℕ) → List (List ℕ) → List (List ℕ) → Finish → ℕ → Type 0
EndsBook script inputs masks coefficients finish rounds =
    (book : Book) (words : FiveWords) → IsBook book → CanRun book words → script ≡ five_over book.grid →
    inputs ≡ five_inputs_of book.grid (farmers_of book.bidders words.bidders) → masks ≡ words.masks →
    coefficients ≡ words.coefficients →
    (finish ≡ book_finish book (at_server words.masks)) × (rounds ≡ book_rounds book (at_server words.masks))
