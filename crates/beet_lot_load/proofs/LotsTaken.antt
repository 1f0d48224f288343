-- The lots of a session are taken, one after another.
use Rattle.std.proofs.Common.{◌≡◌, ◌<◌, ℕ, List, length, get_or, sym, ap, ◌∙◌, arith}
use Rattle.beet_load.specs.Loading.{AuctionWithBidders}
use Rattle.beet_lot_files.specs.declared.session_file.LotRow.{LotRow}
use Rattle.beet_lot_load.specs.Taking.{IsNext}

-- what is kept of the lots of these rows that are taken
abbrev pub Kept : {T : Type 0} → (List LotRow → List AuctionWithBidders → T → Type 0) → List LotRow → T →
    List AuctionWithBidders → Type 0
Kept has_taken rows taken lots = has_taken rows lots taken

-- the row at a place is the next one behind as many lots
pub next-at : (rows : List LotRow) (lots : List AuctionWithBidders) (i : ℕ) (row : LotRow) → length lots ≡ i → i < length rows →
    row ≡ get_or rows i row → IsNext rows lots row
next-at rows lots i row many lt e = record {
  within = omega (arith, many, lt);
  is = e ∙ ap (λ n. get_or rows n row) (sym many);
}
