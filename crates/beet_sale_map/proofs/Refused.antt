-- Sales that are refused are not mapped.
use Rattle.std.proofs.Common.{List}
use Rattle.beet_field.specs.declared.point.Point.{Point}
use Rattle.beet_sale_file.specs.declared.rows.SaleBid.{SaleBid}
use Rattle.beet_sale_map.specs.declared.agreeing.SaleFault.{SaleFault}
use Rattle.beet_sale_map.specs.declared.agreeing.SaleFault.TheVariants.{ShapeDiffers, OwnBidsDiffer, SalesDiffer, OutOfMemory}
use Rattle.beet_sale_map.specs.Disagreement.{Refuses, RefusesMap}

pub refused-map : (s : Point) (first second : List SaleBid) (fault : SaleFault) → Refuses s first second fault →
    RefusesMap s first second fault
refused-map s first second (ShapeDiffers n) r = r
refused-map s first second (OwnBidsDiffer n) r = r
refused-map s first second (SalesDiffer one other) r = r
refused-map s first second OutOfMemory r = absurd r
