use Rattle.std.proofs.Common.{arith, sym}
use Rattle.beet_errand.proofs.Frame.{exits, forgotten}
use Rattle.beet_load.specs.Loading.{IsKeptOf}
use Rattle.beet_lot_load.specs.Lots.{next_lot}
use Rattle.beet_lot_load.proofs.EachRow.{rows-all, rows-more, rows-none, rows-stopped}
use Rattle.beet_lot_load.proofs.LotsTaken.{Kept, next-at}
use Rattle.beet_lot_load.proofs.taking.take_lots.Goals as goal

pub loop-i-init : goal.loop-i-init
loop-i-init g c =
    let rows = c.args.rows.now in
    rows-none (Kept g.L.TakesLots.has_taken rows) (next_lot c.args.sources.now) rows _ _ (c.begin-taken.ensures rows)

pub returns-in_err-loaded : goal.returns-in_err-loaded
returns-in_err-loaded g c =
    let rows = c.args.rows.now in
    let h = c.loop-i.invariant in
    exits c.from_residual.ensures.1
    (rows-stopped (Kept g.L.TakesLots.has_taken rows) (next_lot c.args.sources.now) rows c.loop-i.i _ _ _ _ _ (omega arith)
    c.index-rows-i.is h _ (rw (sym h.many) at c.in_err-loaded.ensures))

pub take-requires : goal.take-requires
take-requires g c = (c.in_ok-loaded.ensures.gives.0, c.in_ok-loaded.ensures.gives.1)

pub returns-in_err-take : goal.returns-in_err-take
returns-in_err-take g c =
    let rows = c.args.rows.now in
    let h = c.loop-i.invariant in
    exits c.from_residual-in_err-take.ensures.1 (rw c.in_err-take.ensures.memory
    (rows-stopped (Kept g.L.TakesLots.has_taken rows) (next_lot c.args.sources.now) rows c.loop-i.i _ _ _ _ _ (omega arith)
    c.index-rows-i.is h {one = IsKeptOf} _ (forgotten (rw (sym h.many) at c.in_ok-loaded.ensures))))

pub loop-i-preserved : goal.loop-i-preserved
loop-i-preserved g c =
    let rows = c.args.rows.now in
    let h = c.loop-i.invariant in
    let r = rw (sym h.many) at c.in_ok-loaded.ensures in
    rows-more (Kept g.L.TakesLots.has_taken rows) (next_lot c.args.sources.now) rows c.loop-i.i _ _ _ _ _ (omega arith)
    c.index-rows-i.is h _ r
    (c.in_ok-take.ensures.taken rows h.values r.gives.0 h.shown
    (next-at rows h.values c.loop-i.i _ h.many (omega arith) c.index-rows-i.is) r.gives.1)

pub returns : goal.returns
returns g c =
    let rows = c.args.rows.now in
    rows-all (Kept g.L.TakesLots.has_taken rows) (next_lot c.args.sources.now) rows _ _ _ c.loop-i.i (omega arith)
    (λ lots many all. record { count = many; all = all }) c.loop-i.invariant
