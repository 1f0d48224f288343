use Rattle.std.proofs.Common.{◌≤◌, ◌*◌, map, length, sym, subst, ◌∙◌, arith}
use Rattle.std.proofs.lemmas.List.{length-map}
use Rattle.std.proofs.lemmas.List.Elements.{All-get_or}
use Rattle.beet_words.specs.Words.{accepted}
use Rattle.beet_map.proofs.Disagreeing.{get-map}
use Rattle.beet_two_books.proofs.Marks.{as-many-in}
use Rattle.beet_trades.proofs.MappedSoFar.{lists-mapped, mapped-more, none-mapped}
use Rattle.beet_auction_map.specs.MappedBidders.{party_of}
use Rattle.beet_auction_map.proofs.bidders.map_bidders.Goals as goal

pub pair_at-pair-requires-clause-place : goal.pair_at-pair-requires-clause-place
pair_at-pair-requires-clause-place c = omega (arith, c.loop-i-test.true, c.requires.count)

pub words_in_second-requires-clause-enough : goal.words_in_second-requires-clause-enough
words_in_second-requires-clause-enough c =
    subst (λ list. 2 * c.pair_at-pair.result.grid.now.prices ≤ length (accepted list)) (sym c.index-words-i.is)
    (All-get_or (λ list. 2 * c.pair_at-pair.result.grid.now.prices ≤ length (accepted list)) c.args.words.now c.loop-i.i
    c.index-words-i.result c.loop-i-test.true
    (rw c.pair_at-pair.ensures.grid c.requires.enough))

pub loop-i-init : goal.loop-i-init
loop-i-init c =
    rw c.in_ok-mapped.ensures.items (none-mapped c.args.me (map party_of c.args.first.now.bidders)
    (map party_of c.args.second.now.bidders) c.args.words.now)

pub loop-i-preserved : goal.loop-i-preserved
loop-i-preserved c =
    let bidders = c.args.first.now.bidders in
    let others = c.args.second.now.bidders in
    let mapped = c.in_ok-words_in_second in
    rw c.in_ok-push.ensures.items
    (mapped-more c.args.me (map party_of bidders) (map party_of others) c.args.words.now c.loop-i.mapped.items c.loop-i.i
    (party_of c.pair_at-pair.result.first.now) (party_of c.pair_at-pair.result.second.now) c.index-words-i.result mapped.field-0
    c.loop-i.invariant c.loop-i-test.true
    (get-map party_of bidders c.loop-i.i c.pair_at-pair.result.first.now c.pair_at-pair.ensures.first)
    (get-map party_of others c.loop-i.i c.pair_at-pair.result.second.now c.pair_at-pair.ensures.second)
    c.index-words-i.is mapped.ensures.mapped mapped.ensures.below mapped.ensures.words)

pub returns : goal.returns
returns c =
    let bidders = c.args.first.now.bidders in
    let others = c.args.second.now.bidders in
    let many = as-many-in c.args.first.now c.args.second.now c.requires.marks in
    lists-mapped c.args.me (map party_of bidders) (map party_of others) c.args.words.now c.loop-i.mapped.items c.loop-i.i
    c.loop-i.invariant (omega (arith, c.loop-i.invariant.count, c.loop-i-test.false)) (c.requires.count ∙ sym (length-map bidders party_of))
    (length-map others party_of ∙ many ∙ sym (length-map bidders party_of))
