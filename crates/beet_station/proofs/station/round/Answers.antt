use Rattle.std.proofs.Common.{◌≡◌, ◌≤◌, ◌+◌, ◌∷◌, ℕ, List, length, refl, sym, subst}
use Rattle.beet_field.specs.declared.TheConstants.{MOST_NUMBERS}
use Rattle.beet_server.specs.Cores.{setup_of}
use Rattle.beet_server.specs.Lockstep.{IsAtRound}
use Rattle.beet_link.specs.Streams.{rounds_from}
use Rattle.beet_station.specs.Notes.{Awaits, a_note, notes_left, opened_in}
use Rattle.beet_station.proofs.Telling.{opened-is, opens-few, tells}
use Rattle.beet_station.proofs.Turns.{bounds_at, passes, quiet, quiet-still, steps, within}
use Rattle.beet_station.proofs.station.round.Given.{Over}
use Rattle.beet_station.proofs.station.round.Goals.{After-behind}
use Rattle.beet_station.proofs.station.round.Goals as goal

pub hear-low-requires : goal.hear-low-requires
hear-low-requires g c =
    let script = g.S.Script in
    quiet script.batch_of script.inputs_of script.rounds_of c.args.run.now.value c.args.me c.args.station.now
    c.put_both.new.station c.requires.tied c.put_both.ensures

pub hear-high-requires : goal.hear-high-requires
hear-high-requires g c =
    let script = g.S.Script in
    let y = c.put_both.new.station in
    quiet-still script.batch_of script.inputs_of script.rounds_of c.args.run.now.value c.args.me c.args.station.now y
    c.requires.tied c.put_both.ensures y.from_low c.put_both.ensures.from_low
    c.hear-low.new.core c.hear-low.result.0 c.hear-low.ensures.heard c.hear-low.ensures.keeps

pub returns-clause-tied : goal.returns-clause-tied
returns-clause-tied g c =
    let script = g.S.Script in
    let y = c.put_both.new.station in
    steps script.batch_of script.inputs_of script.rounds_of c.args.run.now.value c.args.me c.args.station.now y
    c.requires.tied c.put_both.ensures y.from_low c.put_both.ensures.from_low
    c.hear-low.new.core c.hear-low.result.0 c.hear-low.ensures.heard c.hear-low.ensures.keeps
    y.from_high c.put_both.ensures.from_high
    c.hear-high.new.core c.hear-high.result.0 c.hear-high.ensures.heard c.hear-high.ensures.keeps
    (record {
      core = c.hear-high.new.core;
      to_low = y.to_low;
      to_high = y.to_high;
      from_low = c.hear-low.new.from;
      from_high = c.hear-high.new.from;
    })
    refl refl refl c.hear-low.ensures.taken c.hear-high.ensures.taken

-- the round is passed once the second message is heard
passed : (g : Over) (c : After-behind g) → IsAtRound g.S.Script.batch_of (setup_of g.S.Script.batch_of
    g.S.Script.inputs_of c.args.run.now.value) (c.args.station.now.core.round + 1) c.args.me c.hear-high.new.core
passed g c =
    let script = g.S.Script in
    let y = c.put_both.new.station in
    passes script.batch_of script.inputs_of script.rounds_of c.args.run.now.value c.args.me c.args.station.now y
    c.requires.tied c.put_both.ensures y.from_low c.put_both.ensures.from_low
    c.hear-low.new.core c.hear-low.result.0 c.hear-low.ensures.heard c.hear-low.ensures.keeps
    y.from_high c.put_both.ensures.from_high
    c.hear-high.new.core c.hear-high.result.0 c.hear-high.ensures.heard c.hear-high.ensures.keeps

-- what is told is what the round opens
opened : (g : Over) (c : After-behind g) → c.behind.result.now
    ≡ opened_in (setup_of g.S.Script.batch_of g.S.Script.inputs_of c.args.run.now.value) c.args.station.now.core.round
opened g c =
    let script = g.S.Script in
    let x = c.args.station.now.core in
    opened-is script.batch_of (setup_of script.batch_of script.inputs_of c.args.run.now.value) x.round c.args.me x
    c.hear-high.new.core c.requires.tied.stands (passed g c)
    c.opened-before.result.now c.opened.result.now c.behind.result.now c.opened-before.ensures c.opened.ensures c.behind.ensures

pub tell-requires-clause-few : goal.tell-requires-clause-few
tell-requires-clause-few g c =
    let script = g.S.Script in
    let first = c.args.run.now.value.one.script in
    let at = (goal.at.tell-requires-clause-few g c).After-behind in
    subst (λ (l : List ℕ). length l ≤ MOST_NUMBERS) (sym (opened g at))
    (opens-few (setup_of script.batch_of script.inputs_of c.args.run.now.value)
    (bounds_at script.wires_of script.masks_of script.secrets_of first) (script.rounds_of first)
    (script.inputs_of first) c.args.station.now.core.round (g.met.S.Script.lawful first) c.put_both.ensures.is_round)

-- the next note that is awaited is the one on the round
next-note : (g : Over) (c : After-behind g) → Awaits (g.K.Sink.due c.args.sink.now)
    (a_note c.args.me c.round-round.result c.behind.result.now
    ∷ notes_left g.S.Script.batch_of g.S.Script.inputs_of g.S.Script.rounds_of c.args.run.now.value c.args.me
    (c.args.station.now.core.round + 1))
next-note g c =
    let script = g.S.Script in
    let start = c.args.run.now.value in
    let x = c.args.station.now in
    tells (setup_of script.batch_of script.inputs_of start)
    (rounds_from script.batch_of script.inputs_of script.rounds_of start) c.args.me x.core.round c.round-round.result
    c.behind.result.now (Awaits (g.K.Sink.due c.args.sink.now))
    (within script.batch_of script.inputs_of script.rounds_of (bounds_at script.wires_of script.masks_of script.secrets_of)
    g.met.S.Script.lawful start c.args.me x c.requires.tied c.requires.going)
    c.round-round.ensures (opened g c) c.requires.told

pub tell-requires-clause-next : goal.tell-requires-clause-next
tell-requires-clause-next g c =
    let script = g.S.Script in (
      notes_left script.batch_of script.inputs_of script.rounds_of c.args.run.now.value c.args.me (c.args.station.now.core.round + 1),
      next-note g (goal.at.tell-requires-clause-next g c).After-behind,
    )

pub returns-clause-told : goal.returns-clause-told
returns-clause-told g c =
    let script = g.S.Script in
    let left = notes_left script.batch_of script.inputs_of script.rounds_of c.args.run.now.value c.args.me in
    let at = (goal.at.returns-clause-told g c).After-behind in
    subst (λ r. Awaits (g.K.Sink.due c.tell.new.self) (left r)) (sym (passed g at).round)
    (c.tell.ensures.told (left (c.args.station.now.core.round + 1)) (next-note g at))
