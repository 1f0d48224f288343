use Rattle.std.proofs.Common.{◌∙◌, ap}
use Rattle.std.proofs.lemmas.Result.{IfOk-weaker}
use Rattle.beet_words.specs.Bundles.{bundle_bytes}
use Rattle.beet_highbid.proofs.SaleRows.{are-sale-bids}
use Rattle.beet_sale_file.specs.Sales.{bids_of}
use Rattle.beet_sale_load.specs.SaleLoading.{SaleRead}
use Rattle.beet_job_sale_pair.proofs.SaleAnswers.{bundle-fits}
use Rattle.beet_job_sale_pair.proofs.answering.words_file.Goals as goal

pub write_bundle-requires : goal.write_bundle-requires
write_bundle-requires c =
    bundle-fits (bids_of c.whole.inside.sale.rows) c.whole.inside.words
    (are-sale-bids c.whole.inside.sale c.rows-within_limits.ensures.limits) c.whole.invariant.enough c.whole.invariant.cut

pub returns : goal.returns
returns c =
    IfOk-weaker c.write_bundle.result _ _
    (λ file is. is ∙ ap (λ (w : SaleRead). bundle_bytes w.words) c.whole.view_is)
    c.write_bundle.ensures.bytes
