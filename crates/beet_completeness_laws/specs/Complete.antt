-- What is right for a job over these files: each file that it reads is held, in its grammar and within its limits, and
-- tapes hold the words that are wanted, so that the job reads a value; and its masks suffice.
use Rattle.std.specs.Prelude.{◌≡◌, ◌≤◌, ◌*◌, ℕ, List, length, Some, false}
use Rattle.beet_field.specs.Point.{server_of}
use Rattle.beet_field.specs.declared.point.Point.{Point}
use Rattle.beet_field.specs.declared.trio.Trio.{Trio}
use Rattle.beet_field.specs.Trio.{of_each}
use Rattle.beet_store.specs.Files.{File}
use Rattle.beet_bids.specs.Books.{Book}
use Rattle.beet_bids.specs.Outcomes.{clearing_place}
use Rattle.beet_book.specs.Farmers.{book_with}
use Rattle.beet_book.specs.PointSums.{inputs_at}
use Rattle.beet_book.specs.declared.book_file.TheConstants.{MOST_PRODUCT}
use Rattle.beet_plan.specs.Auction.{auction_over}
use Rattle.beet_masking.specs.Masks.{is_spent, mask_among, mask_at}
use Rattle.beet_plan.specs.Search.{path}
use Rattle.beet_auction.specs.AnyPoints.{points_place}
use Rattle.beet_two_books.specs.Agreement.{Agree}
use Rattle.beet_world.specs.Schedules.{schedule_of}
use Rattle.beet_world.specs.declared.schedule.Delivery.{Delivery}
use Rattle.beet_world.specs.declared.schedule.TheConstants.{SCHEDULE_LIMIT}
use Rattle.beet_errand.specs.Errands.{Step, reads}
use Rattle.beet_load.specs.Counts.{counts_of}
use Rattle.beet_load.specs.Loading.{AuctionWithBidders, loaded_errand}
use Rattle.beet_load.specs.Servers.{HaveEnough, masks_of}
use Rattle.beet_job_envelopes.specs.SealedBooks.{HaveWords}
use Rattle.beet_job_trial.specs.Rules.{trial_book, trial_farmers, trial_grid, trial_servers}
use Rattle.beet_job_trial.specs.Sizes.{sizes_of}
use Rattle.beet_weights.specs.Quadratics.{of_five}
use Rattle.beet_coalition.specs.Lists.{at_server}
use Rattle.beet_five_load.specs.FiveLoading.{FiveRead, five_loaded_errand}
use Rattle.beet_five_map.specs.FiveWorlds.{Agree as AgreeForTwo}
use Rattle.beet_job_five_worlds.specs.Reading.{BothOfFive, both_errand as both_of_five, second_book as second_of_five}
use Rattle.beet_app.specs.Jobs.{two_of_five}
use Rattle.beet_audit.specs.Audits.{recombined_book}
use Rattle.beet_audit.specs.OneRuns.{OneRun}
use Rattle.beet_job_audit.specs.Reading.{read_errand}
use Rattle.beet_job_audit.specs.declared.reading.ReadViews.{ReadViews}
use Rattle.beet_job_worlds.specs.Reading.{Both, both_errand, first_book, second_book, words_read}
use Rattle.beet_errand.specs.Overs.{ReadsTo}
use Rattle.beet_app_laws.specs.Readings.{OpenRead, SealRead, TallyRead}

-- masks suffice for a search among so many prices that ends at a place: of as many as it makes comparisons, and the
-- spare ones, no more are rejected than are spare
abbrev pub Suffice : ℕ → ℕ → (ℕ → ℕ) → Type 0
Suffice prices place mask = is_spent mask (length (path prices place)) ≡ false

-- so do the masks of three servers
abbrev pub MasksSuffice : ℕ → ℕ → Trio (List ℕ) → Type 0
MasksSuffice prices place masks = Suffice prices place (mask_at masks)

-- so it is for the auction of a book
abbrev pub MasksSufficeFor : Book → Trio (List ℕ) → Type 0
MasksSufficeFor book masks = MasksSuffice book.grid.prices (clearing_place book) masks

-- `tally`: the auction has one price, and its book is read with its bidders
pub record CanTally (files : List File) (auction book : List ℕ) : Type 0 where
  pub read : TallyRead files auction book
  pub one_price : read.grid.value.prices ≡ 1

-- `clear`, `watch` and `record`: by this step an auction is read with its servers and its book, and the masks suffice
pub record CanClear (files : List File) (step : Step AuctionWithBidders) : Type 0 where
  pub loaded : AuctionWithBidders
  pub loaded_read : ReadsTo files step loaded
  pub masks : MasksSufficeFor (book_with loaded.grid loaded.farmers) (masks_of loaded.servers)

-- so do the masks of five servers for the auction that is read
abbrev pub MasksSufficeAmongFive : FiveRead → Type 0
MasksSufficeAmongFive read =
    Suffice read.book.grid.prices (clearing_place read.book) (mask_among (of_five (at_server read.words.masks)))

-- `five`: an auction among five servers is read with their words and its book, and their masks suffice
pub record CanRunFive (files : List File) (auction servers book : List ℕ) : Type 0 where
  pub read : FiveRead
  pub is_read : ReadsTo files (five_loaded_errand auction servers book) read
  pub masks : MasksSufficeAmongFive read

-- `rehearse`: an auction is read as for `clear`, its masks suffice, and a schedule is read
pub record CanRehearse (files : List File) (auction servers book name : List ℕ) (loaded : AuctionWithBidders)
    (schedule : List Delivery) : Type 0 where
  pub loaded_read : ReadsTo files (loaded_errand auction servers book) loaded
  pub masks : MasksSufficeFor (book_with loaded.grid loaded.farmers) (masks_of loaded.servers)
  pub schedule_read : ReadsTo files (reads name SCHEDULE_LIMIT schedule_of) schedule

-- `seal`: the auction, the bid, and words of the farmer that are enough are read
abbrev pub CanSeal : List File → List ℕ → List ℕ → List ℕ → Type 0
CanSeal files auction bid source = SealRead files auction bid source

-- `open`: the auction, its servers with their words, and the envelopes of a list are read, and the masks suffice for
-- their points
pub record CanOpen (files : List File) (auction servers list : List ℕ) : Type 0 where
  pub read : OpenRead files auction servers list
  pub masks :
      let grid = read.grid.value in
      MasksSuffice grid.prices (points_place (auction_over grid) (inputs_at grid.prices read.bidders.value))
      (masks_of read.words.value.servers)

-- `witness`: so it is, and the bidders of the list, each counted once for each price, are within the limit
pub record CanWitness (files : List File) (auction servers list : List ℕ) : Type 0 where
  pub opens : CanOpen files auction servers list
  pub within : length opens.read.entries.value * opens.read.grid.value.prices ≤ MOST_PRODUCT

-- `trial`: the words are two sizes, the seeds of the rule give words that are enough, and the masks suffice
pub record CanRunTrial (first second : List ℕ) : Type 0 where
  pub bidders : ℕ
  pub prices : ℕ
  pub sizes : sizes_of first second ≡ Some (bidders, prices)
  pub servers : HaveEnough (counts_of (trial_grid prices)) (trial_servers (trial_grid prices))
  pub farmers : HaveWords (trial_grid prices) (trial_farmers (trial_grid prices) bidders)
  pub masks : MasksSufficeFor (trial_book (trial_grid prices) bidders) (masks_of (trial_servers (trial_grid prices)))

-- `worlds`: two books are read, they agree for the server, and the masks suffice
pub record CanCompare (files : List File) (auction servers book1 book2 server : List ℕ) : Type 0 where
  pub s : Point
  pub server_is : server_of server ≡ Some s
  pub both : Both
  pub both_read : ReadsTo files (both_errand auction servers book1 book2) both
  pub agree : Agree s (first_book both) (second_book both)
  pub masks : MasksSufficeFor (first_book both) (words_read both).masks

-- `five_worlds`: two books are read among five servers, they agree for the two that the words name, and the masks
-- suffice
pub record CanCompareForTwo (files : List File) (auction servers book1 book2 one other : List ℕ) : Type 0 where
  pub two : ℕ × ℕ
  pub two_are : two_of_five one other ≡ Some two
  pub both : BothOfFive
  pub both_read : ReadsTo files (both_of_five auction servers book1 book2) both
  pub agree : AgreeForTwo two.0 two.1 both.first.book (second_of_five both)
  pub masks : MasksSufficeAmongFive both.first

-- `audit`: three transcripts are read that are of one run, and its masks suffice
pub record CanAudit (files : List File) (auction one two three : List ℕ) : Type 0 where
  pub read : ReadViews
  pub views_read : ReadsTo files (read_errand auction one two three) read
  pub one_run : OneRun read.grid read.views
  pub masks : MasksSufficeFor (recombined_book read.grid read.views) (of_each (λ view. view.masks) read.views)
