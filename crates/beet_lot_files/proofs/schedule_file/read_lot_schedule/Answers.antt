use Rattle.beet_lot_files.proofs.WithinLots.{lots-within}
use Rattle.beet_lot_files.proofs.schedule_file.read_lot_schedule.Goals as goal

pub returns-clause-within : goal.returns-clause-within
returns-clause-within c = lots-within c.args.lots c.args.bytes.now c.read_schedule_rows.result c.read_schedule_rows.ensures
