use Rattle.std.proofs.Common.{◌∷◌, [], ◌++◌, map, take, sym, ap, ◌∙◌, arith, take_all}
use Rattle.std.proofs.lemmas.List.{map_more}
use Rattle.beet_turned.proofs.MasksBack.{all-at}
use Rattle.beet_mapped.specs.Dealers.{Dealer, dealers_of}
use Rattle.beet_sale_plan.specs.Outcome.{IsBid}
use Rattle.beet_sale_file.specs.declared.rows.SaleBid.{SaleBid}
use Rattle.beet_sale_map.specs.InputLines.{dealer_line}
use Rattle.beet_sale_map.specs.Worlds.{party_of}
use Rattle.beet_sale_map.proofs.SaleWorlds.{dealer-read, many-dealers}
use Rattle.beet_sale_map.proofs.bidders.input_lines.Goals as goal

pub input_line-requires : goal.input_line-requires
input_line-requires c =
    all-at (λ (b : SaleBid). IsBid b.bid) c.args.bids.now c.loop-i.i c.row_at-bid.result c.requires.bids c.row_at-bid.ensures

pub loop-i-preserved : goal.loop-i-preserved
loop-i-preserved c =
    let bids = c.args.bids.now in
    let words = c.args.words.now in
    let dealers = dealers_of (map party_of bids) words in
    let lt = c.loop-i-test.true in
    let many = many-dealers bids words c.requires.count in
    let d : Dealer = record { party = party_of c.row_at-bid.result; words = c.index-words-i.result } in
    let read = dealer-read bids words c.loop-i.i c.row_at-bid.result c.index-words-i.result d c.requires.count lt
    c.row_at-bid.ensures c.index-words-i.is in
    c.in_ok-push.ensures.items ∙ (λ j. c.loop-i.invariant j ++ c.in_ok-input_line.ensures j ∷ [])
    ∙ ap (λ x. map dealer_line (take c.loop-i.i dealers) ++ dealer_line x ∷ []) (sym read)
    ∙ sym (map_more dealer_line dealers c.loop-i.i d (omega (arith, many, lt, c.requires.count)))

pub returns : goal.returns
returns c =
    let bids = c.args.bids.now in
    let words = c.args.words.now in
    let many = many-dealers bids words c.requires.count in
    let past = c.loop-i-test.false in
    c.loop-i.invariant
    ∙ ap (map dealer_line) (take_all c.loop-i.i (dealers_of (map party_of bids) words) (omega (arith, many, past, c.requires.count)))
