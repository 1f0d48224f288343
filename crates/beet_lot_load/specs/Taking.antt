-- What is kept of the lots of a session, which are taken one after another.
use Rattle.std.specs.Prelude.{◌≡◌, ◌<◌, List, length, get_or}
use Rattle.beet_load.specs.Loading.{AuctionWithBidders}
use Rattle.beet_lot_files.specs.declared.session_file.LotRow.{LotRow}

-- a row is the next one behind those of these lots
pub record IsNext (rows : List LotRow) (lots : List AuctionWithBidders) (row : LotRow) : Type 0 where
  pub within : length lots < length rows
  pub is : row ≡ get_or rows (length lots) row

-- the lots of these rows are taken, one for each row
pub record HasTaken {T : Type 0} (has_taken : List LotRow → List AuctionWithBidders → T → Type 0)
    (rows : List LotRow) (taken : T) (lots : List AuctionWithBidders) : Type 0 where
  pub count : length lots ≡ length rows
  pub all : has_taken rows lots taken
