use Rattle.std.proofs.Common.{◌+◌, ◌∙◌, ap, arith, length, length-append}
use Rattle.beet_errand.proofs.Frame.{exits}
use Rattle.beet_lot_load.proofs.EachRow.{rows-all, rows-more, rows-none, rows-stopped}
use Rattle.beet_job_session_pair.specs.Kept.{AreKept}
use Rattle.beet_job_session_pair.specs.Reading.{next_limited}
use Rattle.beet_job_session_pair.proofs.LotReads.{as-next}
use Rattle.beet_job_session_pair.proofs.KeptLots.{kept-more, kept-none, starts-more}
use Rattle.beet_job_session_pair.proofs.reading.read_wholes.Goals as goal

pub loop-i-init : goal.loop-i-init
loop-i-init g c =
    let lots = c.new-lots.ensures in
    record {
      kept = rows-none AreKept (next_limited c.args.sources.now) c.args.rows.now _ _
          (kept-none _ lots.books lots.words lots.product);
      runs = rw (lots.books, lots.words) tt;
      count = ap length lots.books;
      within = omega (arith, lots.product);
    }

pub returns-in_err-read_whole-clause-reads : goal.returns-in_err-read_whole-clause-reads
returns-in_err-read_whole-clause-reads g c =
    let h = c.loop-i.invariant.kept in
    exits c.from_residual.ensures.1
    (rows-stopped AreKept (next_limited c.args.sources.now) c.args.rows.now c.loop-i.i _ _ _ _ _ (omega arith) c.index-rows-i.is h _
    (as-next c.args.sources.now h.values c.loop-i.i c.loop-i.lots.product c.index-rows-i.result h.many h.shown.product
    c.in_err-read_whole.ensures.reads))

pub loop-i-preserved : goal.loop-i-preserved
loop-i-preserved g c =
    let inv = c.loop-i.invariant in
    let h = inv.kept in
    let r = as-next c.args.sources.now h.values c.loop-i.i c.loop-i.lots.product c.index-rows-i.result h.many h.shown.product
    c.in_ok-read_whole.ensures.reads in
    let more = r.gives.1 in
    record {
      kept = rows-more AreKept (next_limited c.args.sources.now) c.args.rows.now c.loop-i.i _ _ _ _ _ (omega arith) c.index-rows-i.is h
          _ r
          (kept-more _ _ h.values r.gives.0 inv.runs h.shown more);
      runs = starts-more _ _ r.gives.0 inv.runs more;
      count = ap length more.books ∙ length-append _ _ ∙ ap (λ n. n + 1) inv.count;
      within = c.in_ok-read_whole.ensures.within;
    }

pub returns-clause-runs : goal.returns-clause-runs
returns-clause-runs g c = c.loop-i.invariant.runs

pub returns-clause-reads : goal.returns-clause-reads
returns-clause-reads g c =
    rows-all AreKept (next_limited c.args.sources.now) c.args.rows.now _ _ _ c.loop-i.i (omega arith) (λ lots many kept. kept)
    c.loop-i.invariant.kept
