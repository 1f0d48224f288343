use Rattle.std.proofs.Common.{List, ℕ, ap, length, map, ◌∙◌}
use Rattle.std.proofs.lemmas.Result.{IfOk-weaker}
use Rattle.beet_mapped.specs.Dealers.{dealers_of}
use Rattle.beet_sale_file.specs.Sales.{bids_of}
use Rattle.beet_sale_map.specs.Worlds.{party_of}
use Rattle.beet_highbid.specs.SaleViews.{sale_bytes, seen_bid}
use Rattle.beet_sale_run.proofs.seeing.write_view.Goals as goal

pub write_sale_view-requires : goal.write_sale_view-requires
write_sale_view-requires c = ap length (c.as_slice.ensures.value ∙ (λ i. (c.words.view_is i).bidders)) ∙ c.requires

pub returns : goal.returns
returns c =
    IfOk-weaker c.write_sale_view.result _ _
    (λ file is.
    is
    ∙ ap (λ (lists : List (List ℕ)). sale_bytes (record {
      server = c.args.me;
      gates = c.args.sale.now.gates;
      bids = map (seen_bid c.args.me) (dealers_of (map party_of (bids_of c.args.sale.now.rows)) lists);
      run = c.args.run.now;
    })) (c.as_slice.ensures.value ∙ (λ i. (c.words.view_is i).bidders)))
    c.write_sale_view.ensures
