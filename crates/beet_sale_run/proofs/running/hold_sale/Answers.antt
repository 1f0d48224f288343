use Rattle.std.proofs.Common.{ap, subst, ◌∙◌}
use Rattle.beet_sale_file.specs.Sales.{IsSaleRecord, bids_of}
use Rattle.beet_sale_map.specs.Bids.{sale_over}
use Rattle.beet_sale_load.specs.SaleLoading.{CanStart, SaleRead}
use Rattle.beet_sale_run.proofs.Held.{can-hold, have-held}
use Rattle.beet_sale_run.proofs.running.hold_sale.Goals as goal

pub start_script-requires : goal.start_script-requires
start_script-requires c =
    can-hold c.args.whole.now
    (subst (λ (w : SaleRead). IsSaleRecord w.sale) c.whole.view_is c.script_of-script.ensures.limits)
    (subst CanStart c.whole.view_is c.whole.invariant) c.script_of-script.result c.in_ok-points.points c.in_ok-tapes.tapes
    (c.script_of-script.ensures.value ∙ ap (λ (w : SaleRead). sale_over w.sale.gates (bids_of w.sale.rows)) c.whole.view_is)
    c.in_ok-points.ensures c.in_ok-tapes.ensures

pub returns-clause-held : goal.returns-clause-held
returns-clause-held c =
    have-held c.args.whole.now
    (subst (λ (w : SaleRead). IsSaleRecord w.sale) c.whole.view_is c.script_of-script.ensures.limits)
    (subst CanStart c.whole.view_is c.whole.invariant) c.script_of-script.result c.in_ok-points.points c.in_ok-tapes.tapes
    (c.script_of-script.ensures.value ∙ ap (λ (w : SaleRead). sale_over w.sale.gates (bids_of w.sale.rows)) c.whole.view_is)
    c.in_ok-points.ensures c.in_ok-tapes.ensures c.lockstep.result (record {
      start = c.in_ok-cores.cores;
      starts = c.in_ok-cores.ensures.starts;
      ended = c.lockstep.ensures;
    })
