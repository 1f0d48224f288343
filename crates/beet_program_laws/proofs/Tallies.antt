-- What the job `tally` has read and said.
use Rattle.std.proofs.Common.{◌≡◌, ◌≤◌, ◌+◌, ◌==◌, ℕ, List, [], ◌∷◌, length, Some, None, refl, subst, arith}
use Rattle.std.specs.Prelude.{All, codes}
use Rattle.std.proofs.lemmas.Bool.{eqb-true}
use Rattle.std.proofs.lemmas.List.Elements.{All-nil}
use Rattle.beet_store.specs.Files.{File}
use Rattle.beet_forms.specs.FaultLines.{fault_line_of}
use Rattle.beet_words.specs.declared.bundle.TheConstants.{MOST_BIDDERS}
use Rattle.beet_bids.specs.AuctionFiles.{auction_of}
use Rattle.beet_bids.specs.declared.auction_file.TheConstants.{AUCTION_LIMIT}
use Rattle.beet_book.specs.BookFiles.{book_of}
use Rattle.beet_book.specs.declared.book_file.TheConstants.{BOOK_LIMIT}
use Rattle.beet_errand.specs.Errands.{Answer, gives, reads}
use Rattle.beet_errand.specs.Statuses.{IsDoneCode}
use Rattle.beet_errand.specs.declared.answer.Refusal.TheVariants.{BadFile}
use Rattle.beet_load.specs.Farmers.{farmers_errand}
use Rattle.beet_load.specs.Wanted.{wanted_of}
use Rattle.beet_job_tally.specs.Tally.{not_one_price, tallied, tally_errand, tally_job}
use Rattle.beet_command.specs.Words.{are_names}
use Rattle.beet_app.specs.Jobs.{Answering}
use Rattle.beet_app_laws.specs.Calls.{Call, IsOf, RunsJobOf}
use Rattle.beet_app_laws.specs.Readings.{TallyRead}
use Rattle.beet_program_laws.specs.Commands.{Tallies}
use Rattle.beet_program_laws.proofs.Ends.{WentOut, found, named}
use Rattle.beet_program_laws.proofs.Files.{book-few}
use Rattle.beet_program_laws.proofs.Read.{IsRead, farmers-book, farmers-yield}
use Rattle.beet_program_laws.proofs.Steps.{Yields, any-yield, gives-yield, holds-yield, reads-yield, then-told}

module _ (files : List File) where
  -- what the files of a tally are read as, and what it answers
  record IsTallied (auction list : List ℕ) (answer : Answer) : Type 0 where
    read : TallyRead files auction list
    one_price : read.grid.value.prices ≡ 1
    few : length read.entries.value ≤ MOST_BIDDERS
    each : All (IsRead read.grid.value) read.farmers.value
    count : length read.farmers.value ≡ 0 + length read.entries.value
    is : answer ≡ tallied read.farmers.value

  tally-yield : (auction list : List ℕ) → Yields files (tally_job auction list) (IsTallied auction list)
  unfolding tally_job
  tally-yield auction list =
      then-told files (reads auction AUCTION_LIMIT auction_of) _ (λ grid. Unit {0}) (IsTallied auction list)
      (any-yield files auction AUCTION_LIMIT auction_of) (λ grid grid_read any.
      holds-yield {A = Answer} files (grid.prices == 1) BadFile
      (fault_line_of auction not_one_price.place not_one_price.reason) _ (IsTallied auction list) (λ one.
      then-told files (reads list BOOK_LIMIT book_of) _ (λ entries. length entries ≤ MOST_BIDDERS)
      (IsTallied auction list)
      (reads-yield files list BOOK_LIMIT book_of (λ entries. length entries ≤ MOST_BIDDERS)
      (λ bytes entries e. book-few bytes entries e)) (λ entries entries_read few.
      then-told files (farmers_errand (wanted_of None grid) grid None [] entries) (λ farmers. gives (tallied farmers))
      (λ farmers. All (IsRead grid) farmers × (length farmers ≡ 0 + length entries)) (IsTallied auction list)
      (farmers-yield files (wanted_of None grid) grid None tt [] (All-nil (IsRead grid)) entries) (λ farmers farmers_read h.
      gives-yield files (IsTallied auction list) (tallied farmers) (record {
        read = record {
          grid = record { value = grid; is = grid_read };
          entries = record { value = entries; is = entries_read };
          farmers = record { value = farmers; is = farmers_read };
        };
        one_price = eqb-true grid.prices 1 one;
        few = few;
        each = h.0;
        count = h.1;
        is = refl;
      })))))

module _ (files : List File) (call : Call) (from : IsOf files call) (w : IsDoneCode call.status) where
  tallied-by : (auction list : List ℕ) (answer : Answer) → IsTallied files auction list answer →
      WentOut answer call → Tallies files auction list call
  tallied-by auction list answer t went =
      let out : WentOut (tallied t.read.farmers.value) call =
      subst (λ (x : Answer). WentOut x call) t.is went in
      record {
        read = t.read;
        one_price = t.one_price;
        is_book = farmers-book t.read.grid.value t.read.farmers.value (omega (arith, t.few, t.count)) t.each;
        have_words = λ k d lt. (t.each k d lt).is.words.enough;
        is_done = out.code;
        said = out.calls;
      }

  pub tallies : (auction list : List ℕ) →
      RunsJobOf (codes "tally" ∷ auction ∷ list ∷ []) call →
      Tallies files auction list call
  tallies auction list ran =
      let r = named files call from w (are_names (auction ∷ list ∷ []))
      (Some (Answering (tally_errand auction list))) ran in
      let f = found files call from w (tally_job auction list) (λ answer. answer)
      (IsTallied files auction list) (tally-yield files auction list) r in
      tallied-by auction list f.value f.holds f.out
