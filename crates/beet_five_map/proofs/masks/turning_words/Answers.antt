use Rattle.std.proofs.Common.{[], slice_index_or}
use Rattle.beet_two_books.specs.Losses.{losses_of}
use Rattle.beet_five_map.proofs.AsThree.{turned-five, turned-long}
use Rattle.beet_five_map.proofs.masks.turning_words.Goals as goal

pub returns-clause-length : goal.returns-clause-length
returns-clause-length c =
    turned-long (losses_of c.args.first.now c.args.second.now) (slice_index_or c.args.masks.now c.args.turner []) c.in_ok-three.three
    c.in_ok-mapped.mapped c.in_ok-three.ensures.turner c.in_ok-mapped.ensures

pub returns-clause-turns : goal.returns-clause-turns
returns-clause-turns c =
    turned-five (losses_of c.args.first.now c.args.second.now) c.args.masks.now (slice_index_or c.args.masks.now c.args.turner [])
    c.in_ok-three.three c.in_ok-mapped.mapped c.in_ok-three.ensures.turner c.in_ok-three.ensures.masks c.in_ok-mapped.ensures
