use Rattle.std.proofs.Common.{◌++◌, ap, ◌∙◌}
use Rattle.std.specs.Prelude.{codes, decimal, string_bytes}
use Rattle.beet_job_rehearse.proofs.LineParts.{line-parts}
use Rattle.beet_job_rehearse.proofs.telling.server_line.Goals as goal

pub returns : goal.returns
returns c =
    rw (← c.number-server.ensures, ← c.in_ok-text.ensures)
    (c.in_ok-line.ensures.ok
    ∙ ap (λ l. codes "server " ++ l) (line-parts (decimal c.number-server.result) (string_bytes c.in_ok-text.text)))
