use Rattle.std.proofs.Common.{rules}
use Rattle.beet_book.proofs.Parts.{over-all}
use Rattle.beet_book.proofs.dealing.deal_many.Goals as goal

pub returns-clause-dealt : goal.returns-clause-dealt
returns-clause-dealt g c =
    let all = over-all (λ v. v.items) c.args.grid.now c.args.curves.now c.args.tapes.now c.in_parts.new.own c.in_parts.result
    c.in_parts.ensures in
    search rules

pub returns-clause-lengths : goal.returns-clause-lengths
returns-clause-lengths g c =
    let all = over-all (λ v. v.items) c.args.grid.now c.args.curves.now c.args.tapes.now c.in_parts.new.own c.in_parts.result
    c.in_parts.ensures in
    search rules
