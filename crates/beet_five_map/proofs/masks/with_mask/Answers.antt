use Rattle.std.proofs.Common.{[], slice_index, ap, ◌∙◌, arith}
use Rattle.std.specs.Prelude.{bit_xor}
use Rattle.std.proofs.lemmas.List.{get_or_read}
use Rattle.std.specs.Int.Bits.{xor_zero_r}
use Rattle.beet_five_map.proofs.AsThree.{mask-all, mask-more}
use Rattle.beet_five_map.proofs.masks.with_mask.Goals as goal

pub loop-list-init : goal.loop-list-init
loop-list-init c = grind (arith, xor_zero_r)

pub loop-list-preserved : goal.loop-list-preserved
loop-list-preserved c =
    let lt = c.loop-list-test.true in
    let is = get_or_read c.args.masks.now c.loop-list.list-index c.list-item.result lt c.list-item.is [] in
    mask-more c.args.masks.now c.loop-list.list-index c.args.place c.args.word c.loop-list.with c.with_word-with.result lt
    c.loop-list.invariant (c.with_word-with.ensures ∙ ap (λ l. bit_xor c.loop-list.with (slice_index l c.args.place)) is)

pub returns : goal.returns
returns c =
    mask-all c.args.masks.now c.loop-list.list-index c.args.place c.args.word c.loop-list.with c.loop-list-test.false c.loop-list.invariant
