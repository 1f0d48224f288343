use Rattle.std.proofs.Common.{◌≡◌, ◌+◌, Some, slice_get, arith, sym, ◌∙◌, ap, false}
use Rattle.std.proofs.lemmas.Option.{slice_get-get_or}
use Rattle.beet_gates.specs.Scripts.{bounds_of}
use Rattle.beet_linear_sharing.specs.Runs.{Setup}
use Rattle.beet_five_server.specs.Fits.{IsRound}
use Rattle.beet_five_lockstep.specs.FiveLockstep.{AreAtRound}
use Rattle.beet_five_lockstep.proofs.WholeRun.{at-the-end, at-the-most, first-stands, goes-on}
use Rattle.beet_five_lockstep.proofs.lockstep_of_five.Given.{Over}
use Rattle.beet_five_lockstep.proofs.lockstep_of_five.Goals.{After-ended}
use Rattle.beet_five_lockstep.proofs.lockstep_of_five.Goals as goal

-- the first server, before the next round
module _ (g : Over) (c : After-ended g) where
  first : slice_get c.loop-round.cores.items 0 ≡ Some c.index-in-loop-round.result.now
  first =
      slice_get-get_or c.loop-round.cores.items 0 c.index-in-loop-round.result.now (omega (arith, c.loop-round.invariant.count))
      ∙ ap (λ z. Some z) (sym c.index-in-loop-round.ensures)

  -- if it has not ended, there is a round
  round : (o : Setup) (script : g.row.S.Denot) →
      AreAtRound g.S.Script.batch_of o script c.loop-round._round c.loop-round.cores.items → c.ended.result ≡ false →
      IsRound o c.loop-round._round
  round o script stand on =
      goes-on g.S.Script.batch_of o script c.loop-round._round c.loop-round.cores.items stand c.index-in-loop-round.result.now first
      (sym c.ended.ensures ∙ on)

pub loop-round-init : goal.loop-round-init
loop-round-init g c = record {
  count = c.requires.stand.count;
  end = λ o script stand.
      c.rounds-round-end.ensures.value
      ∙ ap g.S.Script.rounds_of (c.script.ensures
      ∙ (first-stands g.S.Script.batch_of o script 0 c.args.cores.items stand c.index.result.now
      (slice_get-get_or c.args.cores.items 0 c.index.result.now (omega (arith, stand.count))
      ∙ ap (λ z. Some z) (sym c.index.ensures))).has_script);
  stand = λ o script stand. stand;
}

pub exchange-requires : goal.exchange-requires
exchange-requires g c =
    let r = c.requires in
    let stand = c.loop-round.invariant.stand r.o r.script r.stand in
    record {
      o = r.o;
      script = r.script;
      t = c.loop-round._round;
      is_round = round g (goal.at.exchange-requires g c).After-ended r.o r.script stand c.if-ended.false;
      stand = stand;
    }

pub loop-round-preserved : goal.loop-round-preserved
loop-round-preserved g c =
    let r = c.requires in
    let l = c.loop-round in
    let next = g.S.Script.batch_of in
    let at = (goal.at.loop-round-preserved g c).After-ended in
    let passed : (o : Setup) (script : g.row.S.Denot) → AreAtRound next o script 0 c.args.cores.items →
    AreAtRound next o script (l._round + 1) c.exchange.new.cores.items =
    λ o script begun.
    let stand = l.invariant.stand o script begun in
    c.exchange.ensures o script l._round (round g at o script stand c.if-ended.false) stand in
    record { count = (passed r.o r.script r.stand).count; end = l.invariant.end; stand = passed }

pub returns-then-ended : goal.returns-then-ended
returns-then-ended g c = λ o script begun.
    let l = c.loop-round in
    at-the-end g.S.Script.batch_of o script l._round l.cores.items (l.invariant.stand o script begun)
    c.index-in-loop-round.result.now (first g (goal.at.returns-then-ended g c).After-ended) (sym c.ended.ensures ∙ c.if-ended.true)

pub returns : goal.returns
returns g c = λ o script begun.
    let s = g.S.Script in
    let l = c.loop-round in
    let bounds = bounds_of (s.wires_of script) (s.masks_of script) (s.secrets_of script) in
    let end = l.invariant.end o script begun in
    at-the-most s.batch_of o script l._round l.cores.items (l.invariant.stand o script begun) bounds (s.inputs_of script)
    (s.rounds_of script) (g.met.S.Script.lawful script)
    (omega (arith, c.loop-round-test.false, l.auto._round-end, end))
