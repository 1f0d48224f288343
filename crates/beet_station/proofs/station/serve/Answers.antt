use Rattle.std.proofs.Common.{sym, subst, ◌∙◌}
use Rattle.beet_delivery.specs.Events.{all_delivered}
use Rattle.beet_server.specs.Cores.{setup_of}
use Rattle.beet_server.proofs.Passing.{ended_at}
use Rattle.beet_link.specs.Streams.{rounds_from}
use Rattle.beet_station.specs.Notes.{Awaits}
use Rattle.beet_station.proofs.Telling.{no-note}
use Rattle.beet_station.proofs.Turns.{all-passed, bounds_at, has-rounds}
use Rattle.beet_station.proofs.station.serve.Goals as goal

pub returns-then-ended-clause-ended : goal.returns-then-ended-clause-ended
returns-then-ended-clause-ended g c =
    let script = g.S.Script in
    all-passed script.batch_of script.inputs_of script.rounds_of (bounds_at script.wires_of script.masks_of script.secrets_of)
    g.met.S.Script.lawful c.args.run.now.value c.args.me c.loop.station c.loop.invariant.tied (sym c.ended.ensures ∙ c.if-ended.true)

pub returns-then-ended-clause-told : goal.returns-then-ended-clause-told
returns-then-ended-clause-told g c =
    let script = g.S.Script in
    let start = c.args.run.now.value in
    let o = setup_of script.batch_of script.inputs_of start in
    let rounds = rounds_from script.batch_of script.inputs_of script.rounds_of start in
    let x = c.loop.station.core in
    let last = (ended_at script.batch_of o (all_delivered x.round) x rounds
    (has-rounds script.batch_of script.inputs_of script.rounds_of (bounds_at script.wires_of script.masks_of script.secrets_of)
    g.met.S.Script.lawful start)
    c.loop.invariant.tied.stands.fits).0 (sym c.ended.ensures ∙ c.if-ended.true) in
    subst (Awaits (g.K.Sink.due c.loop.sink)) (no-note o rounds c.args.me x.round last) c.loop.invariant.told
