use Rattle.std.proofs.Common.{◌≡◌, length, slice_index, subst, ◌∙◌, arith}
use Rattle.std.proofs.lemmas.List.{get_or_read}
use Rattle.beet_field.specs.Field.{sub_of}
use Rattle.beet_coalition.specs.Watchers.{two_watch}
use Rattle.beet_five_map.specs.PairsMoved.{PairsMoved}
use Rattle.beet_five_map.proofs.Pairs.{pairs-more, pairs-none}
use Rattle.beet_five_map.proofs.bidders.move_numbers.Goals as goal

pub loop-n-init : goal.loop-n-init
loop-n-init c =
    pairs-none (two_watch c.args.two.a c.args.two.b) (slice_index c.args.first.now) (slice_index c.args.second.now) c.args.numbers.now

pub loop-n-preserved : goal.loop-n-preserved
loop-n-preserved c =
    let pair = c.move_pair.ensures in
    let lt = c.loop-n-test.true in
    let one = get_or_read c.args.first.now c.loop-n.n c.index-first-n.result lt c.index-first-n.is 0 in
    let other = get_or_read c.args.second.now c.loop-n.n c.index-second-n.result (omega (arith, lt, c.requires.count))
    c.index-second-n.is 0 in
    pairs-more (two_watch c.args.two.a c.args.two.b) (slice_index c.args.first.now) (slice_index c.args.second.now) c.args.numbers.now
    c.loop-n.numbers c.move_pair.new.numbers c.loop-n.n c.sub-less.result c.factors-rho.result.0 c.factors-rho.result.1 c.loop-n.invariant
    (c.sub-less.ensures ∙ (λ i. sub_of (one i) (other i))) c.factors-rho.ensures.rho c.factors-rho.ensures.sigma pair.length pair.rho
    pair.sigma pair.rest

pub returns : goal.returns
returns c =
    let end : c.loop-n.n ≡ length c.args.first.now = omega (arith, c.loop-n.auto.n-end, c.loop-n-test.false) in
    subst (λ n. PairsMoved (two_watch c.args.two.a c.args.two.b) n (slice_index c.args.first.now) (slice_index c.args.second.now)
    c.args.numbers.now c.loop-n.numbers) end c.loop-n.invariant
