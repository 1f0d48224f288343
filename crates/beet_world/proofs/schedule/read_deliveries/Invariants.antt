use Rattle.std.proofs.Common.{◌≡◌, ◌+◌, ◌++◌, length, filter_map}
use Rattle.beet_forms.specs.Faults.{first_row_fault}
use Rattle.beet_world.specs.Schedules.{reason_against}
use Rattle.beet_world.proofs.schedule.read_deliveries.Given as goal

abbrev pub invariant-loop-deliveries : goal.invariant-loop-deliveries
invariant-loop-deliveries g l = record {
  rest : first_row_fault (reason_against (g.D.ScheduleRow.row_in l.lots)) (length l.deliveries.items + 2) l.rows
      ≡ first_row_fault (reason_against (g.D.ScheduleRow.row_in l.lots)) 2 l.fn.rows;
  deliveries : l.deliveries.items ++ filter_map (g.D.ScheduleRow.row_in l.lots) l.rows
      ≡ filter_map (g.D.ScheduleRow.row_in l.lots) l.fn.rows;
  count : length l.deliveries.items + length l.rows ≡ length l.fn.rows;
}

abbrev pub decreases-loop-deliveries : goal.decreases-loop-deliveries
decreases-loop-deliveries g l = length l.rows
