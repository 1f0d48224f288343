-- Five servers that have run the auction of a book to its end.
use Rattle.std.proofs.Common.{◌≡◌, ◌<◌, ◌^◌, ◌-◌, ℕ, true, List, length, [], Option}
use Rattle.std.proofs.Common.{Some, slice_get, slice_index, sym, ap, subst, ◌∙◌, arith}
use Rattle.std.specs.Prelude.{slice_index_or}
use Rattle.std.proofs.lemmas.Option.{same_Some}
use Rattle.beet_bids.specs.Books.{Book, IsBook}
use Rattle.beet_bids.specs.Sums.{sums_of}
use Rattle.beet_book.specs.Farmers.{farmers_of}
use Rattle.beet_delivery.specs.Networks.{Delivered, all_delivered}
use Rattle.beet_weights.specs.Quadratics.{IsServer, of_five}
use Rattle.beet_linear_sharing.specs.Polynomials.{AreShared}
use Rattle.beet_linear_sharing.specs.Runs.{Setup}
use Rattle.beet_linear_sharing.specs.Schemes.{five_servers}
use Rattle.beet_linear_sharing.specs.Sharings.{IsAmong}
use Rattle.beet_coalition.specs.Lists.{at_server}
use Rattle.beet_plan.specs.FivePlan.{FiveAuction, five_batch, five_over}
use Rattle.beet_five_server.specs.Answers.{Core}
use Rattle.beet_five_server.specs.Cores.{has_ended}
use Rattle.beet_five_server.specs.Fits.{Fits}
use Rattle.beet_five_server.specs.Network.{five}
use Rattle.beet_five_lockstep.specs.FiveLockstep.{HaveEnded}
use Rattle.beet_five_dealing.specs.FiveInputs.{inputs_at}
use Rattle.beet_five_dealing.specs.FiveTotals.{five_inputs_of}
use Rattle.beet_five_dealing.specs.FiveWords.{CanRun, FiveWords}
use Rattle.beet_five_dealing.proofs.Lists.{at-five, at-words, words-five}
use Rattle.beet_five_dealing.proofs.Shares.{book-shared}
use Rattle.beet_five_auction.specs.FiveEndings.{book_finish, book_rounds}
use Rattle.beet_plan.specs.declared.Finish.{Finish}
use Rattle.beet_five_run.specs.FiveRuns.{EndsBook, setup_with}

one-is : IsServer 1
one-is = (omega arith, omega arith)

-- shares at the servers are shares wherever other lists stand
same-shared : (values : List ℕ) (a b : ℕ → List ℕ) → ((j : ℕ) → IsAmong five_servers.servers j → b j ≡ a j) →
    AreShared five_servers values a → AreShared five_servers values b
same-shared values a b same are = record {
  lengths = λ i at. ap (λ (l : List ℕ). length l) (same i at) ∙ are.lengths i at;
  shared = λ w. record {
    numbers = (are.shared w).numbers;
    points = λ i at. ap (λ l. slice_index l w) (same i at) ∙ (are.shared w).points i at;
  };
  elements = are.elements;
}

-- what is known of a server that has ended
pub record EndsAt (o : Setup) (script : FiveAuction) (s : ℕ) (c : Core FiveAuction) : Type 0 where
  pub x : Delivered ℕ
  pub name : c.work.me ≡ s
  pub has_script : c.work.script ≡ script
  pub fits : Fits five_batch o x c.work c.mail
  pub ended : has_ended five_batch c.work ≡ true

pub ends-at : (o : Setup) (script : FiveAuction) (cores : List (Core FiveAuction)) (s : ℕ) (c : Core FiveAuction) → IsServer s →
    HaveEnded five_batch o script cores → slice_get cores (s - 1) ≡ Some c → EndsAt o script s c
ends-at o script cores s c server h at =
    let a = h.stand.stand s server c at in
    record {
      x = all_delivered five h.rounds;
      name = a.name;
      has_script = a.has_script;
      fits = a.fits;
      ended = h.ended s server c at;
    }

-- the first of them
pub first-ends : (o : Setup) (script : FiveAuction) (cores : List (Core FiveAuction)) (c : Core FiveAuction) →
    HaveEnded five_batch o script cores → slice_get cores 0 ≡ Some c → EndsAt o script 1 c
first-ends o script cores c h at = ends-at o script cores 1 c one-is h at

-- the premises of the outcome, from a book and its words
module _ (book : Book) (words : FiveWords) (is : IsBook book) (can : CanRun book words) where
  pub masks-small : (k i : ℕ) → slice_index (slice_index_or (of_five (at_server words.masks)) k []) i < 2 ^ 61
  masks-small = words-five (at_server words.masks) (at-words words.masks can.are_words.masks.small)

  pub inputs-shared : (inputs : List (List ℕ)) → inputs ≡ five_inputs_of book.grid (farmers_of book.bidders words.bidders) →
      AreShared five_servers (sums_of book) (at_server inputs)
  inputs-shared inputs e =
      let all = inputs_at book.grid.prices (farmers_of book.bidders words.bidders) in
      same-shared (sums_of book) all (at_server inputs) (λ j at. ap (λ l. at_server l j) e ∙ at-five all j at)
      (book-shared book words is can.count)

-- what the call says that reads the finish of a server
abbrev pub Outcome : Core FiveAuction → Option Finish → Type 0
Outcome c answer =
    (book : Book) (o : Setup) (x : Delivered ℕ) → IsBook book →
    ((k i : ℕ) → slice_index (slice_index_or (of_five o.masks) k []) i < 2 ^ 61) → c.work.script ≡ five_over book.grid →
    AreShared five_servers (sums_of book) o.inputs → IsServer c.work.me → Fits five_batch o x c.work c.mail →
    has_ended five_batch c.work ≡ true →
    (answer ≡ Some (book_finish book o.masks)) × (c.work.round ≡ book_rounds book o.masks)

pub ends-book : (script : FiveAuction) (inputs masks coefficients : List (List ℕ)) (c : Core FiveAuction) (answer : Option Finish)
    (finish : Finish) (rounds : ℕ) → EndsAt (setup_with five_batch script inputs masks coefficients) script 1 c → Outcome c answer →
    answer ≡ Some finish → rounds ≡ c.work.round → EndsBook script inputs masks coefficients finish rounds
ends-book script inputs masks coefficients c answer finish rounds first outcome named counted book words is can of_book dealt
    mask_words numbers =
    let o = setup_with five_batch script inputs masks coefficients in
    let ends = outcome book o first.x is
    (subst (λ (l : List (List ℕ)). (k i : ℕ) → slice_index (slice_index_or (of_five (at_server l)) k []) i < 2 ^ 61) (sym mask_words)
    (masks-small book words is can))
    (first.has_script ∙ of_book) (inputs-shared book words is can inputs dealt) (subst IsServer (sym first.name) one-is)
    first.fits first.ended in (
      same_Some finish (book_finish book (at_server words.masks))
          (sym named ∙ ends.0 ∙ ap (λ (l : List (List ℕ)). Some (book_finish book (at_server l))) mask_words),
      counted ∙ ends.1 ∙ ap (λ (l : List (List ℕ)). book_rounds book (at_server l)) mask_words,
    )
