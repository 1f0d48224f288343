use Rattle.std.proofs.Common.{◌≡◌, ℕ, List, ◌++◌, codes, length, map, sym, ◌∙◌, append_assoc}
use Rattle.std.specs.List.{flat_map}
use Rattle.std.proofs.lemmas.List.{length-map}
use Rattle.beet_field.specs.Point.{number_of}
use Rattle.beet_words.specs.Fields.{number_bytes}
use Rattle.beet_view.specs.Transcripts.{number_of_gates, run_bytes}
use Rattle.beet_mapped.specs.Dealers.{dealers_of}
use Rattle.beet_sale_file.specs.Sales.{bids_of}
use Rattle.beet_sale_file.specs.declared.rows.SaleRow.{SaleRow}
use Rattle.beet_sale_map.specs.Worlds.{party_of}
use Rattle.beet_sale_map.proofs.SaleWorlds.{many-dealers}
use Rattle.beet_highbid.specs.SaleViews.{seen_bid, seen_bytes}
use Rattle.beet_highbid.proofs.writing.push_sale.Goals as goal

-- texts that were appended one after another
appended : (a b c d e f : List ℕ) → ((((a ++ b) ++ c) ++ d) ++ e) ++ f ≡ a ++ (b ++ (c ++ ((d ++ e) ++ f)))
appended a b c d e f = simp append_assoc

pub returns : goal.returns
returns c =
    let sale = c.args.sale.now in
    let rows = length-map sale.rows (λ (row : SaleRow). row.bid) in
    let bids = bids_of sale.rows in
    let dealers = dealers_of (map party_of bids) c.args.words.now in
    let seen = map (seen_bid c.args.me) dealers in
    let many : length bids ≡ length seen =
    sym (length-map dealers (seen_bid c.args.me) ∙ many-dealers bids c.args.words.now (c.requires.count ∙ sym rows)) in
    rw (
      c.in_ok-push_run.ensures.bytes,
      c.in_ok-push_bids.ensures,
      c.in_ok-push_number-3.ensures,
      c.in_ok-push_number-2.ensures,
      c.in_ok-push_number.ensures,
      c.requires.file,
      c.number.ensures,
      c.number_of_gates.ensures,
      c.gates.ensures,
      c.bids.ensures.value,
      c.bids-2.ensures.value,
      many,
    )
    (appended (codes "BEETHB01") (number_bytes (number_of c.args.me)) (number_bytes (number_of_gates sale.gates))
    (number_bytes (length seen)) (flat_map seen_bytes seen) (run_bytes c.args.run.now))
