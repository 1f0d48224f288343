use Rattle.std.proofs.Common.{◌≡◌, take}
use Rattle.beet_map.specs.Secrets.{shares_of}
use Rattle.beet_sale_run.proofs.running.points_at.Given as goal

abbrev pub invariant-loop-line : goal.invariant-loop-line
invariant-loop-line l = l.points.items ≡ shares_of (take l.line-index l.lines) l.at
