-- What the map of the servers' words asks for in two sales, and what follows from its answer.
use Rattle.std.proofs.Common.{◌≡◌, ℕ, List}
use Rattle.beet_field.specs.declared.point.Point.{Point}
use Rattle.beet_field.specs.declared.trio.Trio.{Trio}
use Rattle.beet_gates.specs.declared.Gates.{Gates}
use Rattle.beet_shamir.specs.declared.Line.{Line}
use Rattle.beet_words.specs.Bundles.{Words, AreWords}
use Rattle.beet_trades.specs.Servers.{AreBelow, CanMap, ServersMapped, world_with}
use Rattle.beet_sale_plan.specs.Sale.{Sale, bidders_of, sale_batch, most_coefficients, most_masks, most_rounds}
use Rattle.beet_sale_file.specs.declared.rows.SaleBid.{SaleBid}
use Rattle.beet_sale_map.specs.Bids.{sale_over}
use Rattle.beet_sale_map.specs.InputLines.{dealer_lines}
use Rattle.beet_sale_map.specs.MappedSales.{HasBidders, SalesMapped}
use Rattle.beet_sale_map.specs.Worlds.{losses_between}
use Rattle.beet_sale_map.proofs.SaleWorlds.{lines-there, look-same, numbers-here, sales-mapped, secrets-here}

module _ (me : Point) (gates : Gates) (first second : List SaleBid) (words : Words) (bidders : List (List ℕ))
    (h : HasBidders me first words second bidders) (masks_below : AreBelow words.masks) (below : AreBelow words.coefficients)
    (script : Sale) (is_script : script ≡ sale_over gates first) (losses : List ℕ) (is_losses : losses ≡ losses_between first second)
    (here : List Line) (is_here : here ≡ dealer_lines first words.bidders) (there : List Line)
    (is_there : there ≡ dealer_lines second bidders) where
  are_words : AreWords words
  are_words = record { masks = masks_below; coefficients = below; bidders = h.bidders_mapped.below }

  pub can-map : CanMap (sale_batch script) (most_rounds script) (bidders_of script) (most_masks script) (most_coefficients script) me losses
      (world_with here words.masks) there words.coefficients
  can-map =
      let s = h.sales in
      let l = h.bidders_mapped in
      let sale = sale_over gates first in
      let asked : CanMap (sale_batch sale) (most_rounds sale) (bidders_of sale) (most_masks sale) (most_coefficients sale) me
      (losses_between first second) (world_with (dealer_lines first words.bidders) words.masks) (dealer_lines second bidders)
      words.coefficients =
      record {
        secrets = secrets-here me gates first second words bidders s.first_bids s.second_bids s.agree are_words h.enough l.count l.mapped;
        long = lines-there me gates first second words bidders s.first_bids s.second_bids s.agree are_words h.enough l.count l.mapped;
        drawn = numbers-here me gates first second words bidders s.first_bids s.second_bids s.agree are_words h.enough l.count l.mapped;
        same = look-same me gates first second words bidders s.first_bids s.second_bids s.agree are_words h.enough l.count l.mapped;
      } in
      rw (is_script, is_here, is_losses, is_there) asked

  pub mapped : (masks numbers : Trio (List ℕ)) →
      ServersMapped (sale_batch script) (most_rounds script) me losses (world_with here words.masks) there words.coefficients masks
      numbers →
      SalesMapped me gates first words second (record { masks = masks; coefficients = numbers; bidders = bidders })
  mapped masks numbers given =
      let s = h.sales in
      let l = h.bidders_mapped in
      let m : ServersMapped (sale_batch (sale_over gates first)) (most_rounds (sale_over gates first)) me
      (losses_between first second) (world_with (dealer_lines first words.bidders) words.masks) (dealer_lines second bidders)
      words.coefficients masks numbers = rw (is_script, is_here, is_losses, is_there) at given in
      sales-mapped me gates first second words bidders s.first_bids s.second_bids s.agree are_words h.enough l.count
      l.mapped masks numbers m.turned m.together (record { masks = m.masks_below; coefficients = m.below; bidders = l.below' })
