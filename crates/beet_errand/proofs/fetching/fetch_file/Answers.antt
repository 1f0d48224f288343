use Rattle.std.proofs.Common.{refl}
use Rattle.beet_errand.proofs.Frame.{exits, no_memory, refused_cause}
use Rattle.beet_errand.proofs.Steps.{fetched_gives, failed_stops, long_stops, memory_stops}
use Rattle.beet_errand.proofs.fetching.fetch_file.Goals as goal

pub returns-in-Ok-clause-reads : goal.returns-in-Ok-clause-reads
returns-in-Ok-clause-reads g c =
    let cause = rw c.in-Ok.is at c.fetch.ensures.cause in
    record {
      gives = (
        c.in-Ok.bytes.items,
        refl,
        fetched_gives _ _ _ _ c.in-Ok.bytes (rw c.in-Ok.is at c.fetch.ensures.content) cause.limited,
      );
      cause = cause.count;
      later = cause.later;
    }

pub returns-in-Err-Failed-clause-reads : goal.returns-in-Err-Failed-clause-reads
returns-in-Err-Failed-clause-reads g c =
    let cause = rw c.in-Err-Failed.field-0-is at c.in-Err-Failed.ensures.cause in
    record {
      gives = failed_stops _ _ _ _ c.in_ok-unread.unread
          (rw c.in-Err-Failed.field-0-is at c.in-Err-Failed.ensures.content) c.in_ok-unread.ensures;
      cause = cause.count;
      later = cause.later;
    }

pub returns-in-Err-TooLong-clause-reads : goal.returns-in-Err-TooLong-clause-reads
returns-in-Err-TooLong-clause-reads g c =
    let cause = rw c.in-Err-TooLong.field-0-is at c.in-Err-TooLong.ensures.cause in
    record {
      gives = long_stops _ _ _ _ _ _ (rw c.in-Err-TooLong.field-0-is at c.in-Err-TooLong.ensures.content)
          cause.limited c.refuse.ensures;
      cause = refused_cause _ _ _ _ _ c.refuse.ensures cause.count cause.count;
      later = cause.later;
    }

pub returns-in-Err-OutOfMemory-clause-reads : goal.returns-in-Err-OutOfMemory-clause-reads
returns-in-Err-OutOfMemory-clause-reads g c =
    let cause = rw c.in-Err-OutOfMemory.field-0-is at c.in-Err-OutOfMemory.ensures.cause in
    record {
      gives = memory_stops _ _ _ _ (rw c.in-Err-OutOfMemory.field-0-is at c.in-Err-OutOfMemory.ensures.content);
      cause = cause.count;
      later = cause.later;
    }

pub returns-in_err-unread-clause-reads : goal.returns-in_err-unread-clause-reads
returns-in_err-unread-clause-reads g c = exits c.from_residual.ensures.1 no_memory
