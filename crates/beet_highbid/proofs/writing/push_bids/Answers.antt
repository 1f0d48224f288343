use Rattle.std.proofs.Common.{◌<◌, ◌≤◌, ◌++◌, ◌∷◌, [], List, length, map, take, get_or, sym, ap, ◌∙◌, arith}
use Rattle.std.specs.List.{flat_map}
use Rattle.std.proofs.lemmas.List.{flat_map_more, get_or-map, map_more, take_all}
use Rattle.beet_shamir.specs.declared.Line.{Line}
use Rattle.beet_mapped.specs.Dealers.{Dealer, dealers_of}
use Rattle.beet_sale_map.specs.InputLines.{dealer_line}
use Rattle.beet_sale_map.specs.Worlds.{party_of}
use Rattle.beet_sale_map.proofs.SaleWorlds.{dealer-read, many-dealers, many-lines}
use Rattle.beet_highbid.specs.SaleViews.{seen_bid, seen_bytes}
use Rattle.beet_highbid.proofs.writing.push_bids.Goals as goal

pub bounds-lines-i : goal.bounds-lines-i
bounds-lines-i c =
    let lt0 : c.loop-i.i < length c.args.bids.now = omega arith in
    let many = many-lines c.args.bids.now c.args.words.now c.requires.count in
    let same = ap length c.requires.lines in
    omega (arith, many, same, lt0, c.requires.count)

pub push_bid-requires : goal.push_bid-requires
push_bid-requires c =
    let bids = c.args.bids.now in
    let words = c.args.words.now in
    let dealers = dealers_of (map party_of bids) words in
    let i = c.loop-i.i in
    let many = many-dealers bids words c.requires.count in
    let lt0 : c.loop-i.i < length c.args.bids.now = omega arith in
    let lt : c.loop-i.i < length c.args.words.now = omega (arith, lt0, c.requires.count) in
    let d : Dealer = record { party = party_of c.row_at-bid.result; words = c.index-words-i.result } in
    let read = dealer-read bids words i c.row_at-bid.result c.index-words-i.result d c.requires.count lt
    c.row_at-bid.ensures c.index-words-i.is in
    c.index-lines-i.is ∙ ap (λ (l : List Line). get_or l i c.index-lines-i.result) c.requires.lines
    ∙ get_or-map dealer_line dealers i d c.index-lines-i.result (omega (arith, many, lt, c.requires.count)) ∙ ap dealer_line read

pub loop-i-preserved : goal.loop-i-preserved
loop-i-preserved c =
    let bids = c.args.bids.now in
    let words = c.args.words.now in
    let dealers = dealers_of (map party_of bids) words in
    let i = c.loop-i.i in
    let old = c.args.file.now.items in
    let many = many-dealers bids words c.requires.count in
    let lt0 : c.loop-i.i < length c.args.bids.now = omega arith in
    let lt : c.loop-i.i < length c.args.words.now = omega (arith, lt0, c.requires.count) in
    let d : Dealer = record { party = party_of c.row_at-bid.result; words = c.index-words-i.result } in
    let read = dealer-read bids words i c.row_at-bid.result c.index-words-i.result d c.requires.count lt
    c.row_at-bid.ensures c.index-words-i.is in
    let seen = seen_bid c.args.me in
    c.in_ok-push_bid.ensures ∙ ap (λ l. l ++ seen_bytes (seen d)) c.loop-i.invariant
    ∙ flat_map_more seen_bytes old (map seen (take i dealers)) (seen d)
    ∙ ap (λ x. old ++ flat_map seen_bytes (map seen (take i dealers) ++ seen x ∷ [])) (sym read)
    ∙ ap (λ l. old ++ flat_map seen_bytes l) (sym (map_more seen dealers i d (omega (arith, many, lt, c.requires.count))))

pub returns : goal.returns
returns c =
    let dealers = dealers_of (map party_of c.args.bids.now) c.args.words.now in
    let many = many-dealers c.args.bids.now c.args.words.now c.requires.count in
    let past : length c.args.bids.now ≤ c.loop-i.i = omega arith in
    c.loop-i.invariant
    ∙ ap (λ l. c.args.file.now.items ++ flat_map seen_bytes (map (seen_bid c.args.me) l))
    (take_all c.loop-i.i dealers (omega (arith, many, past, c.requires.count)))
