use Rattle.std.proofs.Common.{arith, refl, length}
use Rattle.std.proofs.lemmas.Option.{slice_get_read}
use Rattle.beet_bids.specs.Curves.{IsOfGrid}
use Rattle.beet_load.specs.Counts.{counts_of}
use Rattle.beet_load.specs.Wholes.{CanDeal}
use Rattle.beet_transcripts.proofs.DealtPoints.{at-place, dealt-all, dealt-at, dealt-none}
use Rattle.beet_transcripts.proofs.dealing.deal_in_order.Goals as goal

pub deal_one-requires-clause-of_grid : goal.deal_one-requires-clause-of_grid
deal_one-requires-clause-of_grid c =
    at-place (λ b. IsOfGrid c.args.grid.now b.curve) c.args.bidders.now c.args.bidders.now c.loop-i.i _ refl c.index-bidders-i.is
    (omega (arith, c.loop-i-test.true, c.requires.can.paired)) c.requires.can.of_grid

pub deal_one-requires-clause-words : goal.deal_one-requires-clause-words
deal_one-requires-clause-words c =
    at-place (CanDeal (counts_of c.args.grid.now)) c.args.words.now c.args.words.now c.loop-i.i _ refl
    c.index-words-i.is c.loop-i-test.true c.requires.can.enough

pub loop-i-init : goal.loop-i-init
loop-i-init c = dealt-none _ _ _ _ c.in_ok-totals.ensures c.requires.nobody

pub loop-i-preserved : goal.loop-i-preserved
loop-i-preserved c =
    dealt-at _ _ c.args.bidders.now c.args.words.now c.loop-i.i _ _ _ _
    (slice_get_read c.args.bidders.now (length c.args.bidders.now) c.loop-i.i c.index-bidders-i.result refl
    (omega (arith, c.loop-i-test.true, c.requires.can.paired)) c.index-bidders-i.is)
    (slice_get_read c.args.words.now (length c.args.words.now) c.loop-i.i c.index-words-i.result refl c.loop-i-test.true c.index-words-i.is)
    (c.in_ok-deal_one.ensures _ c.loop-i.invariant)

pub returns : goal.returns
returns c =
    dealt-all _ _ c.args.bidders.now c.args.words.now c.loop-i.i _ _ (omega (arith, c.loop-i-test.false, c.requires.can.paired))
    (omega (arith, c.loop-i-test.false)) c.loop-i.invariant
