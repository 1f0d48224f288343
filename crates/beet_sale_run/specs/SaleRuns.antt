-- The run of a sale among three servers: how it ends, and after how many rounds.
use Rattle.std.specs.Prelude.{ℕ, List, map}
use Rattle.beet_field.specs.Trio.{trio_of}
use Rattle.beet_field.specs.declared.trio.Trio.{Trio}
use Rattle.beet_gates.specs.declared.Gates.{Gates}
use Rattle.beet_masking.specs.Masks.{mask_at}
use Rattle.beet_mapped.specs.Dealers.{dealers_of}
use Rattle.beet_server.specs.Cores.{Core}
use Rattle.beet_sale_plan.specs.Sale.{Sale, bidders_of, most_rounds, sale_batch}
use Rattle.beet_sale_plan.specs.SaleRuns.{sale_finish, sale_rounds}
use Rattle.beet_sale_plan.specs.declared.SaleEnd.{SaleEnd}
use Rattle.beet_sale_file.specs.Sales.{IsSaleRecord, bids_of as bids_in}
use Rattle.beet_sale_file.specs.declared.rows.SaleBid.{SaleBid}
use Rattle.beet_sale_map.specs.Bids.{bids_of, sale_over}
use Rattle.beet_sale_map.specs.Worlds.{party_of, points_of}
use Rattle.beet_load.specs.Wholes.{by_server}
use Rattle.beet_run.specs.Runs.{HaveRunScript}
use Rattle.beet_sale_load.specs.SaleLoading.{CanStart, SaleRead}
use Rattle.beet_sale_run.specs.Results.{price_of, winner_of}

-- how the sale of these bids ends with these mask words: sold to its winner at its price, or spent if the third
-- rejected mask comes first
abbrev pub bids_finish : Gates → List SaleBid → Trio (List ℕ) → SaleEnd
bids_finish gates bids masks =
    sale_finish (sale_over gates bids) (mask_at masks) (winner_of (bids_of bids)) (price_of (bids_of bids))

-- and after how many rounds
abbrev pub bids_rounds : Gates → List SaleBid → Trio (List ℕ) → ℕ
bids_rounds gates bids masks = sale_rounds (sale_over gates bids) (mask_at masks)

-- so a sale that is read ends
abbrev pub finish_read : SaleRead → SaleEnd
finish_read read = bids_finish read.sale.gates (bids_in read.sale.rows) read.words.masks

abbrev pub rounds_read : SaleRead → ℕ
rounds_read read = bids_rounds read.sale.gates (bids_in read.sale.rows) read.words.masks

-- three servers have run a sale that is read, and that can be run, from its start to its end
pub record HaveHeld (read : SaleRead) (cores : Trio (Core Sale)) : Type 0 where
  pub limits : IsSaleRecord read.sale
  pub starts : CanStart read
  pub ran : HaveRunScript sale_batch bidders_of most_rounds (sale_over read.sale.gates (bids_in read.sale.rows))
      (trio_of (points_of (dealers_of (map party_of (bids_in read.sale.rows)) read.words.bidders)))
      (by_server read.words) cores
