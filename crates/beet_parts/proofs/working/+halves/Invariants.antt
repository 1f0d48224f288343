use Rattle.std.proofs.Common.{◌+◌, ◌*◌}
use Rattle.beet_parts.proofs.working.+halves.Given as goal

abbrev pub decreases-part_by : goal.decreases-part_by
decreases-part_by g l = 4 * l.threads + 3

abbrev pub decreases-both_parts : goal.decreases-both_parts
decreases-both_parts g l = 4 * l.threads + 2

abbrev pub decreases-both_parts-first : goal.decreases-both_parts-first
decreases-both_parts-first g l = 4 * l.half + 4

abbrev pub decreases-both_parts-second : goal.decreases-both_parts-second
decreases-both_parts-second g l = 4 * l.half + 4
