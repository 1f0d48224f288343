use Rattle.std.proofs.Common.{◌≤◌, map, length, sym, subst, ◌∙◌, arith}
use Rattle.std.proofs.lemmas.List.{length-map}
use Rattle.std.proofs.lemmas.List.Elements.{All-get_or}
use Rattle.beet_words.specs.Words.{accepted}
use Rattle.beet_turned.proofs.MasksBack.{all-at}
use Rattle.beet_map.proofs.Disagreeing.{as-many, get-map, mark-at}
use Rattle.beet_trades.proofs.MappedSoFar.{lists-mapped, mapped-more, none-mapped}
use Rattle.beet_sale_plan.specs.Outcome.{IsBid}
use Rattle.beet_sale_file.specs.declared.rows.SaleBid.{SaleBid}
use Rattle.beet_sale_map.specs.Worlds.{party_of}
use Rattle.beet_sale_map.proofs.bidders.map_bidders.Goals as goal

pub row_at-other-requires : goal.row_at-other-requires
row_at-other-requires c =
    let many = as-many (λ (b : SaleBid). b.known) c.args.first.now c.args.second.now c.requires.shape in
    omega (arith, many, c.loop-i-test.true, c.requires.count)

pub words_in_second-requires-clause-mark : goal.words_in_second-requires-clause-mark
words_in_second-requires-clause-mark c =
    mark-at (λ (b : SaleBid). b.known) c.args.first.now c.args.second.now c.loop-i.i c.row_at-one.result c.row_at-other.result
    c.requires.shape c.row_at-one.ensures c.row_at-other.ensures

pub words_in_second-requires-clause-first : goal.words_in_second-requires-clause-first
words_in_second-requires-clause-first c =
    all-at (λ (b : SaleBid). IsBid b.bid) c.args.first.now c.loop-i.i c.row_at-one.result c.requires.first c.row_at-one.ensures

pub words_in_second-requires-clause-second : goal.words_in_second-requires-clause-second
words_in_second-requires-clause-second c =
    all-at (λ (b : SaleBid). IsBid b.bid) c.args.second.now c.loop-i.i c.row_at-other.result c.requires.second c.row_at-other.ensures

pub words_in_second-requires-clause-enough : goal.words_in_second-requires-clause-enough
words_in_second-requires-clause-enough c =
    subst (λ list. 1 ≤ length (accepted list)) (sym c.index-words-i.is)
    (All-get_or (λ list. 1 ≤ length (accepted list)) c.args.words.now c.loop-i.i c.index-words-i.result c.loop-i-test.true
    c.requires.enough)

pub loop-i-init : goal.loop-i-init
loop-i-init c =
    rw c.in_ok-mapped.ensures.items
    (none-mapped c.args.me (map party_of c.args.first.now) (map party_of c.args.second.now) c.args.words.now)

pub loop-i-preserved : goal.loop-i-preserved
loop-i-preserved c =
    let first = c.args.first.now in
    let second = c.args.second.now in
    let mapped = c.in_ok-words_in_second in
    rw c.in_ok-push.ensures.items
    (mapped-more c.args.me (map party_of first) (map party_of second) c.args.words.now c.loop-i.mapped.items c.loop-i.i
    (party_of c.row_at-one.result) (party_of c.row_at-other.result) c.index-words-i.result mapped.field-0
    c.loop-i.invariant c.loop-i-test.true
    (get-map party_of first c.loop-i.i c.row_at-one.result c.row_at-one.ensures)
    (get-map party_of second c.loop-i.i c.row_at-other.result c.row_at-other.ensures)
    c.index-words-i.is mapped.ensures.mapped mapped.ensures.below mapped.ensures.words)

pub returns : goal.returns
returns c =
    let first = c.args.first.now in
    let second = c.args.second.now in
    let many = as-many (λ (b : SaleBid). b.known) first second c.requires.shape in
    lists-mapped c.args.me (map party_of first) (map party_of second) c.args.words.now c.loop-i.mapped.items c.loop-i.i
    c.loop-i.invariant (omega (arith, c.loop-i.invariant.count, c.loop-i-test.false)) (c.requires.count ∙ sym (length-map first party_of))
    (length-map second party_of ∙ many ∙ sym (length-map first party_of))
