-- What is left to read of a lot once its entries are read.
use Rattle.std.proofs.Common.{◌≡◌, ◌*◌, ℕ, List, length, Result, Ok, Err, Some, subst, sym}
use Rattle.beet_store.specs.Files.{Seen}
use Rattle.beet_bids.specs.Grids.{Grid}
use Rattle.beet_book.specs.declared.entries.Entry.{Entry}
use Rattle.beet_book.specs.declared.sources.Servers.{Servers}
use Rattle.beet_errand.specs.Errands.{Step, ◌>>=◌, gives}
use Rattle.beet_errand.specs.Fetches.{Reads, ReadsFor, Tests}
use Rattle.beet_errand.specs.declared.answer.Stop.{Stop}
use Rattle.beet_errand.proofs.Frame.{bind, passed, stopped, tested}
use Rattle.beet_load.specs.Limits.{within_product}
use Rattle.beet_load.specs.Loading.{AuctionWithBidders, rest_errand}
use Rattle.beet_load.specs.Settings.{Setting}
use Rattle.beet_load.specs.WholeViews.{loaded_of}
use Rattle.beet_load.specs.Wholes.{limited_rest}
use Rattle.beet_load.specs.declared.whole.Whole.{Whole}
use Rattle.beet_lot_files.specs.declared.session_file.LotRow.{LotRow}
use Rattle.beet_job_session_pair.specs.Reading.{LimitedLot, limited_lot, next_limited, taken_by}

module _ (sources : Servers) (lot before : ℕ) (book : List ℕ) (grid : Grid) (entries : List Entry) where
  abbrev setting : Setting
  setting = record { grid = grid; sources = sources; entries = entries }

  abbrev pub value : AuctionWithBidders → LimitedLot
  value loaded = record { lot = loaded; product = length entries * grid.prices }

  abbrev limited : Step AuctionWithBidders
  limited = limited_rest (Some lot) before book setting

  abbrev pub left : Step LimitedLot
  left = limited >>= (λ loaded. gives (value loaded))

  rest-read : {old now : Seen} → Tests (within_product before book grid (length entries)) (Ok tt) → (result : Result Whole Stop) →
      Reads loaded_of old now (rest_errand (Some lot) setting) result → Reads loaded_of old now limited result
  rest-read t result r =
      passed {last = λ (w : Whole) a. a ≡ loaded_of w} {test = within_product before book grid (length entries)}
      {step = rest_errand (Some lot) setting} {result = result} t r

  module _ {U : Type 0} {last : U → LimitedLot → Type 0} where
    -- the limit is passed
    pub left-over : {seen : Seen} (stop : Stop) → Tests (within_product before book grid (length entries)) (Err stop) →
        ReadsFor last seen seen left (Err stop)
    left-over {seen = seen} stop t =
        let r : Reads loaded_of seen seen limited (Err stop) =
        tested {last = λ (w : Whole) a. a ≡ loaded_of w} {test = within_product before book grid (length entries)}
        {step = rest_errand (Some lot) setting} t in
        stopped {rest = λ loaded. gives (value loaded)} r

    module _ {old now : Seen} (t : Tests (within_product before book grid (length entries)) (Ok tt)) where
      -- the words or the bidders stop it
      pub left-stops : (stop : Stop) → Reads loaded_of old now (rest_errand (Some lot) setting) (Err stop) →
          ReadsFor last old now left (Err stop)
      left-stops stop r = stopped {rest = λ loaded. gives (value loaded)} (rest-read t (Err stop) r)

      -- the lot is read
      pub left-read : (whole : Whole) (result : Result U Stop) → Reads loaded_of old now (rest_errand (Some lot) setting) (Ok whole) →
          ReadsFor last now now (gives (value (loaded_of whole))) result → ReadsFor last old now left result
      left-read whole result r s = bind {rest = λ loaded. gives (value loaded)} {result = result} (rest-read t (Ok whole) r) s

-- a lot is read behind those that are read
pub as-next : {T : Type 0} {shows : T → LimitedLot → Type 0} {old now : Seen} {result : Result T Stop} (sources : Servers)
    (read : List LimitedLot) (lot before : ℕ) (row : LotRow) → length read ≡ lot → before ≡ taken_by read →
    ReadsFor shows old now (limited_lot sources lot before row) result → ReadsFor shows old now (next_limited sources read row) result
as-next {shows = shows} {old = old} {now = now} {result = result} sources read lot before row e f r =
    subst (λ (k : ℕ). ReadsFor shows old now (limited_lot sources k (taken_by read) row) result) (sym e)
    (subst (λ (n : ℕ). ReadsFor shows old now (limited_lot sources lot n row) result) f r)
