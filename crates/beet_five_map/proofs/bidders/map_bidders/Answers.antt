use Rattle.std.proofs.Common.{sym, subst, ◌∙◌, arith}
use Rattle.std.specs.Prelude.{All}
use Rattle.beet_words.specs.Words.{IsWord}
use Rattle.beet_bids.specs.Grids.{Grid}
use Rattle.beet_book.specs.Farmers.{BidderWithWords}
use Rattle.beet_two_books.proofs.Marks.{as-many-in}
use Rattle.beet_five_map.specs.FiveWorlds.{BidderMapped}
use Rattle.beet_five_map.proofs.MappedLists.{accepted-in, lists-all, lists-more, lists-none}
use Rattle.beet_five_map.proofs.bidders.map_bidders.Goals as goal

pub pair_at-pair-requires-clause-place : goal.pair_at-pair-requires-clause-place
pair_at-pair-requires-clause-place c = omega (arith, c.loop-i-test.true, c.requires.count)

pub words_in_second-requires-clause-enough : goal.words_in_second-requires-clause-enough
words_in_second-requires-clause-enough c =
    accepted-in c.args.words.now c.loop-i.i c.index-words-i.result c.pair_at-pair.result.grid.now.prices c.loop-i-test.true
    c.index-words-i.is (rw c.pair_at-pair.ensures.grid c.requires.enough)

pub loop-i-init : goal.loop-i-init
loop-i-init c =
    rw c.in_ok-mapped.ensures.items (lists-none c.args.two.a c.args.two.b c.args.first.now.grid.prices c.args.first.now.bidders
    c.args.second.now.bidders c.args.words.now)

pub loop-i-preserved : goal.loop-i-preserved
loop-i-preserved c =
    let many = as-many-in c.args.first.now c.args.second.now c.requires.marks in
    let one : BidderWithWords = record { bidder = c.pair_at-pair.result.first.now; words = c.index-words-i.result } in
    let other : BidderWithWords = record { bidder = c.pair_at-pair.result.second.now; words = c.in_ok-list.list } in
    let here = subst (λ (g : Grid). BidderMapped c.args.two.a c.args.two.b g.prices one other) c.pair_at-pair.ensures.grid
    c.in_ok-list.ensures in
    rw c.in_ok-push.ensures.items
    (lists-more c.args.two.a c.args.two.b c.args.first.now.grid.prices c.args.first.now.bidders c.args.second.now.bidders
    c.args.words.now (sym c.requires.count) (many ∙ sym c.requires.count) c.loop-i.mapped.items c.loop-i.i
    c.pair_at-pair.result.first.now c.pair_at-pair.result.second.now c.index-words-i.result c.in_ok-list.list c.loop-i.invariant
    c.loop-i-test.true c.pair_at-pair.ensures.first c.pair_at-pair.ensures.second c.index-words-i.is here
    (subst (All IsWord) c.as_slice-below.ensures.value c.as_slice-below.ensures.below))

pub returns-clause-count : goal.returns-clause-count
returns-clause-count c = omega (arith, c.loop-i.invariant.count, c.loop-i-test.false)

pub returns-clause-mapped : goal.returns-clause-mapped
returns-clause-mapped c =
    let many = as-many-in c.args.first.now c.args.second.now c.requires.marks in
    lists-all c.args.two.a c.args.two.b c.args.first.now.grid.prices c.args.first.now.bidders c.args.second.now.bidders
    c.args.words.now (sym c.requires.count) (many ∙ sym c.requires.count) c.loop-i.mapped.items c.loop-i.i c.loop-i-test.false
    c.loop-i.invariant

pub returns-clause-below : goal.returns-clause-below
returns-clause-below c = c.loop-i.invariant.are_words
