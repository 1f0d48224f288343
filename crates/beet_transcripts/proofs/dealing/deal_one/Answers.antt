use Rattle.std.proofs.Common.{arith, ap, ◌∙◌, length}
use Rattle.std.proofs.lemmas.Result.{on_ok_weaker}
use Rattle.beet_book.specs.Dealing.{dealt_points}
use Rattle.beet_transcripts.proofs.DealtPoints.{dealt-more, tape-left}
use Rattle.beet_transcripts.proofs.dealing.deal_one.Goals as goal

pub deal_bidder-dealt-requires-clause-words : goal.deal_bidder-dealt-requires-clause-words
deal_bidder-dealt-requires-clause-words c =
    let left = tape-left c.args.grid.now c.words_kept.result c.in_ok-tape.tape c.args.words.now c.in_ok-tape.ensures
    c.words_kept.ensures c.requires.words in
    omega (arith, ap length left, c.requires.words.enough)

pub returns : goal.returns
returns c = λ farmers h.
    on_ok_weaker c.show_each-shown.result
    (λ shown.
    let left = tape-left c.args.grid.now c.words_kept.result c.in_ok-tape.tape c.args.words.now c.in_ok-tape.ensures
    c.words_kept.ensures c.requires.words in
    dealt-more c.args.grid.now c.args.whom farmers (record { bidder = c.args.bidder.now; words = c.args.words.now })
    c.requires.of_grid c.requires.words.enough
    _ _ _ _ _ _ h (c.in_ok-dealt.ensures.dealt.points ∙ ap (dealt_points c.args.bidder.now.curve) left)
    c.add.ensures.sums c.into_points-points.ensures
    shown c.show_each-shown.ensures.not_shown)
    c.show_each-shown.ensures.shown
