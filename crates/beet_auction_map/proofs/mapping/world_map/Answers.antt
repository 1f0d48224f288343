use Rattle.std.proofs.Common.{ap}
use Rattle.std.proofs.lemmas.Result.{err_from_is_err_and}
use Rattle.beet_view.specs.Transcripts.{view_bytes}
use Rattle.beet_two_books.proofs.Refused.{refused-map}
use Rattle.beet_two_books.specs.Agreement.{Agree}
use Rattle.beet_auction_map.specs.Disagreement.{Refuses}
use Rattle.beet_auction_map.proofs.mapping.world_map.Goals as goal

pub returns-in_err-agreement-clause-refused : goal.returns-in_err-agreement-clause-refused
returns-in_err-agreement-clause-refused c =
    let p = err_from_is_err_and c.from_residual.result c.from_residual.ensures.1 in
    rw (p.1, p.2) (refused-map (Agree c.args.me c.args.first.now c.args.second.now) (Refuses c.args.me c.args.first.now c.args.second.now)
    (λ never. never) c.in_err-agreement.field-0.0 c.in_err-agreement.ensures.refused)

pub returns-clause-mapped : goal.returns-clause-mapped
returns-clause-mapped c = c.in_ok-mapped.ensures.mapped

pub returns-clause-enough : goal.returns-clause-enough
returns-clause-enough c = c.in_ok-mapped.ensures.enough

pub returns-clause-ends : goal.returns-clause-ends
returns-clause-ends c = (c.in_ok-mapped.ensures.ends, c.in_ok-mapped.ensures.ends')

pub returns-clause-looks : goal.returns-clause-looks
returns-clause-looks c = c.in_ok-mapped.ensures.looks

pub returns-clause-bytes : goal.returns-clause-bytes
returns-clause-bytes c = ap view_bytes c.in_ok-mapped.ensures.looks

pub returns-clause-moments : goal.returns-clause-moments
returns-clause-moments c = c.in_ok-mapped.ensures.moments

pub returns-clause-only : goal.returns-clause-only
returns-clause-only c = c.in_ok-mapped.ensures.only

pub returns-clause-back : goal.returns-clause-back
returns-clause-back c = c.in_ok-mapped.ensures.back
