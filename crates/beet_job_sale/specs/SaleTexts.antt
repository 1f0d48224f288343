-- The lines that tell how a sale ended.
use Rattle.std.specs.Prelude.{◌<◌, ◌≤◌, ◌-◌, ℕ, List, [], ◌++◌, codes, decimal, length, option_map}
use Rattle.std.specs.Prelude.{slice_get, unwrap_or}
use Rattle.beet_errand.specs.Texts.{line_of}
use Rattle.beet_sale_file.specs.declared.rows.SaleRow.{SaleRow}
use Rattle.beet_sale_plan.specs.declared.SaleEnd.{SaleEnd}
use Rattle.beet_sale_plan.specs.declared.SaleEnd.TheVariants.{Sold, MasksSpent}

-- the name of the bidder with this number, counted from 1
abbrev pub name_of : List SaleRow → ℕ → List ℕ
name_of rows bidder = unwrap_or (option_map (λ (row : SaleRow). row.name) (slice_get rows (bidder - 1))) []

-- the winner and the price, a line for each, or the third rejected mask
abbrev pub end_text : List SaleRow → SaleEnd → List ℕ
end_text rows (Sold winner price) =
    line_of (codes "winner " ++ name_of rows winner) ++ line_of (codes "price " ++ decimal price)
end_text rows MasksSpent = line_of (codes "masks spent")

-- how the sale of these rows ended, and after how many rounds
abbrev pub sale_text : List SaleRow → SaleEnd → ℕ → List ℕ
sale_text rows end rounds = end_text rows end ++ line_of (codes "rounds " ++ decimal rounds)

-- a winner is one of the bidders
abbrev pub IsOfBidders : List SaleRow → SaleEnd → Type 0
IsOfBidders rows (Sold winner price) = (0 < winner) × (winner ≤ length rows)
IsOfBidders rows MasksSpent = Unit {0}
