use Rattle.std.proofs.Common.{[], ◌∷◌, ◌++◌, ap, ◌∙◌}
use Rattle.std.specs.Prelude.{codes, decimal}
use Rattle.beet_job_watch.proofs.LineParts.{line-parts}
use Rattle.beet_job_watch.proofs.telling.count_line.Goals as goal

pub returns : goal.returns
returns c =
    rw (← c.number-server.ensures)
    (c.in_ok-line.ensures.ok
    ∙ ap (λ l. codes "server " ++ l) (line-parts (decimal c.number-server.result) (codes " notes ") (decimal c.args.count.notes)
    (codes " opened ") (decimal c.args.count.opened) (10 ∷ [])))
