use Rattle.std.proofs.Common.{ap, length, ◌∙◌}
use Rattle.std.proofs.lemmas.Result.{IfOk-weaker}
use Rattle.beet_load.specs.Counts.{Counts}
use Rattle.beet_load.specs.Servers.{cut_servers}
use Rattle.beet_load.specs.Wholes.{by_server}
use Rattle.beet_sale_load.specs.SaleLoading.{SaleRead}
use Rattle.beet_sale_load.specs.SaleWants.{counts_of}
use Rattle.beet_sale_run.proofs.Held.{tapes-read}
use Rattle.beet_sale_run.proofs.running.all_tapes.Goals as goal

pub returns : goal.returns
returns c =
    IfOk-weaker c.cut_three.result _ _
    (λ tapes is.
    is ∙ ap (λ (k : Counts). cut_servers k c.whole.inside.words)
    (c.sale_counts-counts.ensures ∙ ap (λ rows. counts_of (length rows)) c.rows.ensures.value)
    ∙ tapes-read c.whole.inside.sale.rows c.whole.inside.words c.whole.invariant.cut
    ∙ ap (λ (w : SaleRead). by_server w.words) c.whole.view_is)
    c.cut_three.ensures
