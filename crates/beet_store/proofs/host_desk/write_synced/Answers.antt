use Rattle.std.proofs.Common.{length}
use Rattle.std.proofs.Math.Seq.{take-length}
use Rattle.beet_store.proofs.host_desk.write_synced.Goals as goal

pub returns-in-Err : goal.returns-in-Err
returns-in-Err g c = record {
  written = (length c.args.bytes.now, rw (take-length c.args.bytes.now) c.in_ok-write_whole.ensures.written);
}
