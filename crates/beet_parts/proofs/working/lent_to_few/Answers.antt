use Rattle.std.proofs.Common.{◌≡◌, ◌+◌, ◌++◌, ◌∙◌, length, min, subst}
use Rattle.beet_parts.proofs.working.lent_to_few.Goals as goal

pub returns-clause-splits : goal.returns-clause-splits
returns-clause-splits g c = λ front back is len.
    let work = c.args.work.now in
    let parts = c.args.parts in
    let least : length front ≡ min parts.few (length c.args.own.now) = len ∙ c.min.ensures in
    let few : length front ≡ min parts.few (length (front ++ back)) = subst (λ l. length front ≡ min parts.few (length l)) is least in
    g.met.W.Parts.splits work parts.from parts.few parts.rest front back few
    (subst (g.W.Parts.can work parts.from (parts.few + parts.rest)) is c.requires)
