use Rattle.std.proofs.Common.{◌-◌, ◌/◌, ◌++◌, subst, sym}
use Rattle.beet_parts.proofs.Halves.{half, of-whole}
use Rattle.beet_parts.proofs.working.+halves.Goals as goal

pub part_by-lent_to_few-lent-requires : goal.part_by-lent_to_few-lent-requires
part_by-lent_to_few-lent-requires g t c =
    subst (λ n. g.W.Parts.can c.args.work.now c.args.from n c.args.own.now) (sym (half c.args.count)) c.requires.can

pub part_by-both_parts-few_done-requires-clause-front : goal.part_by-both_parts-few_done-requires-clause-front
part_by-both_parts-few_done-requires-clause-front g t c κs within =
    let cut = c.split_at_mut-front in
    (c.lent_to_few-lent.ensures.splits cut.result.0.now cut.result.1.now cut.ensures.value cut.ensures.front_len).0

pub part_by-both_parts-few_done-requires-clause-back : goal.part_by-both_parts-few_done-requires-clause-back
part_by-both_parts-few_done-requires-clause-back g t c κs within =
    let cut = c.split_at_mut-front in
    (c.lent_to_few-lent.ensures.splits cut.result.0.now cut.result.1.now cut.ensures.value cut.ensures.front_len).1

pub part_by-returns : goal.part_by-returns
part_by-returns g t c =
    let work = c.args.work.now in
    let from = c.args.from in
    let count = c.args.count in
    let cut = c.split_at_mut-front in
    let front = cut.result.0.now in
    let back = cut.result.1.now in
    let both = c.both_parts-few_done in
    let can = c.lent_to_few-lent.ensures.splits front back cut.ensures.value cut.ensures.front_len in
    of-whole (λ n own. g.W.Parts.does work from n own (both.new.front ++ both.new.back) c.join.result) count
    c.args.own.now front back cut.ensures.value
    (c.join.ensures from (count / 2) (count - count / 2) front both.new.front back both.new.back can.0 can.1
    both.ensures.front both.ensures.back)
