use Rattle.std.proofs.Common.{◌≡◌, List, ap, subst, sym}
use Rattle.std.proofs.lemmas.Result.{err_from_is_err_and}
use Rattle.beet_gates.specs.declared.Gates.{Gates}
use Rattle.beet_sale_file.specs.Sales.{bids_of}
use Rattle.beet_sale_file.specs.declared.rows.SaleBid.{SaleBid}
use Rattle.beet_sale_map.specs.Bids.{Agree}
use Rattle.beet_sale_map.specs.MappedSales.{Ends, SalesMapped}
use Rattle.beet_highbid.specs.SaleViews.{sale_bytes, view_of_sale}
use Rattle.beet_highbid.proofs.CutWords.{mapped-kept}
use Rattle.beet_highbid.proofs.SaleMaps.{of-sales}
use Rattle.beet_highbid.proofs.SaleRows.{are-sale-bids}
use Rattle.beet_highbid.proofs.SeenBids.{views-same}
use Rattle.beet_highbid.proofs.mapping.sale_map.Goals.{In_ok-mapped}
use Rattle.beet_highbid.proofs.mapping.sale_map.Goals as goal

pub map_sale-requires-clause-first : goal.map_sale-requires-clause-first
map_sale-requires-clause-first c = rw c.bids.ensures.value (are-sale-bids c.args.first.now c.bids.ensures.limits)

pub map_sale-requires-clause-second : goal.map_sale-requires-clause-second
map_sale-requires-clause-second c = rw c.bids-2.ensures.value (are-sale-bids c.args.second.now c.bids-2.ensures.limits)

pub map_sale-requires-clause-enough : goal.map_sale-requires-clause-enough
map_sale-requires-clause-enough c = rw c.bids.ensures.value c.requires.enough

pub returns-in_err-mapped-clause-refused : goal.returns-in_err-mapped-clause-refused
returns-in_err-mapped-clause-refused c =
    let p = err_from_is_err_and c.from_residual.result c.from_residual.ensures.1 in
    rw (p.1, p.2, ← c.bids.ensures.value, ← c.bids-2.ensures.value) c.in_err-mapped.ensures.refused

-- the words that are mapped, and what the server sees
module _ (c : In_ok-mapped) where
  abbrev rows : List SaleBid
  rows = bids_of c.args.first.now.rows

  abbrev others : List SaleBid
  others = bids_of c.args.second.now.rows

  moved : SalesMapped c.args.me c.args.first.now.gates rows c.args.words.now others c.in_ok-mapped.mapped
  moved = of-sales (λ (g : Gates) (f s : List SaleBid). SalesMapped c.args.me g f c.args.words.now s c.in_ok-mapped.mapped)
      c.gates.ensures c.bids.ensures.value c.bids-2.ensures.value c.in_ok-mapped.ensures.mapped

  agreed : Agree c.args.me rows others
  agreed = of-sales (λ (g : Gates) (f s : List SaleBid). Agree c.args.me f s)
      c.gates.ensures c.bids.ensures.value c.bids-2.ensures.value c.in_ok-mapped.ensures.agreed

  same : view_of_sale c.args.first.now.gates others c.in_ok-mapped.mapped c.args.me
      ≡ view_of_sale c.args.first.now.gates rows c.args.words.now c.args.me
  same = views-same c.args.me c.args.first.now.gates rows others c.args.words.now c.in_ok-mapped.mapped
      (are-sale-bids c.args.first.now c.bids.ensures.limits) (are-sale-bids c.args.second.now c.bids-2.ensures.limits) agreed
      c.requires.enough moved

pub returns-clause-agreed : goal.returns-clause-agreed
returns-clause-agreed c = agreed (goal.at.returns-clause-agreed c).In_ok-mapped

pub returns-clause-mapped : goal.returns-clause-mapped
returns-clause-mapped c = (moved (goal.at.returns-clause-mapped c).In_ok-mapped).mapped

pub returns-clause-enough : goal.returns-clause-enough
returns-clause-enough c = (moved (goal.at.returns-clause-enough c).In_ok-mapped).enough

pub returns-clause-only : goal.returns-clause-only
returns-clause-only c = (moved (goal.at.returns-clause-only c).In_ok-mapped).only

pub returns-clause-back : goal.returns-clause-back
returns-clause-back c = (moved (goal.at.returns-clause-back c).In_ok-mapped).back

pub returns-clause-ends : goal.returns-clause-ends
returns-clause-ends c =
    let m = moved (goal.at.returns-clause-ends c).In_ok-mapped in
    (m.ends, subst (λ (g : Gates). Ends g (bids_of c.args.second.now.rows) c.in_ok-mapped.mapped) (sym c.requires.gates) m.ends')

pub returns-clause-looks : goal.returns-clause-looks
returns-clause-looks c = rw c.requires.gates (same (goal.at.returns-clause-looks c).In_ok-mapped)

pub returns-clause-bytes : goal.returns-clause-bytes
returns-clause-bytes c = rw c.requires.gates (ap sale_bytes (same (goal.at.returns-clause-bytes c).In_ok-mapped))

pub returns-clause-cut : goal.returns-clause-cut
returns-clause-cut c cut =
    let at = (goal.at.returns-clause-cut c).In_ok-mapped in
    mapped-kept c.args.me c.args.first.now.gates (bids_of c.args.first.now.rows) (bids_of c.args.second.now.rows) c.args.words.now
    c.in_ok-mapped.mapped (agreed at).shape c.requires.enough (moved at) cut
