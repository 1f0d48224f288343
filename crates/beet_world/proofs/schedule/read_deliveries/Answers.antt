use Rattle.std.proofs.Common.{◌≡◌, ◌+◌, ◌∷◌, arith, ap, sym, ◌∙◌, Ok, length, length-append}
use Rattle.beet_world.specs.Schedules.{delivery_at}
use Rattle.beet_world.proofs.ScheduleRows.{rest-accepted, deliveries-more}
use Rattle.beet_world.proofs.schedule.read_deliveries.Goals as goal

pub loop-deliveries-preserved : goal.loop-deliveries-preserved
loop-deliveries-preserved g c =
    let inv = c.loop-deliveries.invariant in
    let row_in = g.D.ScheduleRow.row_in c.args.lots in
    let before = c.loop-deliveries.deliveries.items in
    let is : c.loop-deliveries.rows ≡ c.next.new.row ∷ c.next.new.self = rw c.if-branch.true at c.in_ok-next.ensures in
    let count : c.len.result ≡ length c.loop-deliveries.deliveries.items = omega arith in
    let accepted : delivery_at row_in (length c.loop-deliveries.deliveries.items + 2) c.next.new.row ≡ Ok c.in-Ok.delivery =
    ap (λ n. delivery_at row_in (n + 2) c.next.new.row) (sym count) ∙ (sym c.read_at.ensures ∙ c.in-Ok.is) in
    let items = c.in_ok-push-in-Ok.ensures.items in
    let number : length c.push.new.self.items + 2 ≡ length c.loop-deliveries.deliveries.items + 2 + 1 =
    rw (items, length-append) (omega arith) in
    record {
      rest = rw number (rest-accepted row_in (length before + 2) c.next.new.row c.loop-deliveries.rows c.next.new.self
          c.in-Ok.delivery is accepted ∙ inv.rest);
      deliveries = rw items (deliveries-more row_in before (length before + 2) c.next.new.row c.loop-deliveries.rows
          c.next.new.self c.args.rows.now c.in-Ok.delivery is accepted inv.deliveries);
      count = omega (arith, number, ap length is, inv.count);
    }
