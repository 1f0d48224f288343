use Rattle.std.proofs.Common.{arith, ap, sym, ◌∙◌, length, length-drop}
use Rattle.beet_world.proofs.ScheduleRows.{schedule-begun, no-schedule}
use Rattle.beet_world.proofs.schedule.read_rows.Goals as goal

pub returns-then-not-branch : goal.returns-then-not-branch
returns-then-not-branch g c =
    rw c.at_row.ensures
    (no-schedule (g.D.ScheduleRow.row_in c.args.lots) c.args.kind.now c.args.rows.now
    (sym c.in_ok-begins_with.ensures.0 ∙ c.if-not-branch.true))

pub read_deliveries-requires : goal.read_deliveries-requires
read_deliveries-requires g c =
    let rest = c.in_ok-begins_with.ensures.1 c.if-not-branch.false in
    omega (arith, c.requires, ap length rest, length-drop 1 c.args.rows.now)

pub returns : goal.returns
returns g c =
    let header = c.in_ok-begins_with.ensures in
    rw (schedule-begun (g.D.ScheduleRow.row_in c.args.lots) c.args.kind.now c.args.rows.now c.begins_with.new.self
    (sym header.0 ∙ c.if-not-branch.false) (header.1 c.if-not-branch.false))
    c.read_deliveries.ensures
