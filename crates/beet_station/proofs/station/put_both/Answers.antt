use Rattle.std.proofs.Common.{refl}
use Rattle.beet_delivery.specs.Events.{all_delivered}
use Rattle.beet_server.specs.Cores.{setup_of}
use Rattle.beet_server.specs.Lockstep.{AreSent}
use Rattle.beet_station.proofs.Turns.{bounds_at, loud, puts-both, puts-high, puts-low}
use Rattle.beet_station.proofs.station.put_both.Given.{Over}
use Rattle.beet_station.proofs.station.put_both.Goals.{After-hand_out}
use Rattle.beet_station.proofs.station.put_both.Goals as goal

pub hand_out-requires : goal.hand_out-requires
hand_out-requires g c =
    let script = g.S.Script in
    loud script.batch_of script.inputs_of script.rounds_of (bounds_at script.wires_of script.masks_of script.secrets_of)
    g.met.S.Script.lawful c.args._run.now.value c.args._me c.args.station.now c.requires.tied c.requires.going

-- what is handed out are the messages of the round
sent : (g : Over) (c : After-hand_out g) → AreSent (setup_of g.S.Script.batch_of g.S.Script.inputs_of c.args._run.now.value)
    c.args.station.now.core.me c.args.station.now.core.round c.hand_out.new.low c.hand_out.new.high
sent g c =
    c.hand_out.ensures.messages (setup_of g.S.Script.batch_of g.S.Script.inputs_of c.args._run.now.value)
    (all_delivered c.args.station.now.core.round) c.requires.tied.stands.fits

pub put-requires : goal.put-requires
put-requires g c =
    let script = g.S.Script in
    puts-low script.batch_of script.inputs_of script.rounds_of (bounds_at script.wires_of script.masks_of script.secrets_of)
    g.met.S.Script.lawful c.args._run.now.value c.args._me c.args.station.now c.requires.tied c.requires.going _
    (sent g (goal.at.put-requires g c).After-hand_out).to_low

pub put-requires-2 : goal.put-requires-2
put-requires-2 g c =
    let script = g.S.Script in
    puts-high script.batch_of script.inputs_of script.rounds_of (bounds_at script.wires_of script.masks_of script.secrets_of)
    g.met.S.Script.lawful c.args._run.now.value c.args._me c.args.station.now c.requires.tied c.requires.going _
    (sent g (goal.at.put-requires-2 g c).After-hand_out).to_high

pub returns : goal.returns
returns g c =
    let script = g.S.Script in
    let x = c.args.station.now in
    let start = c.args._run.now.value in
    puts-both script.batch_of script.inputs_of script.rounds_of (bounds_at script.wires_of script.masks_of script.secrets_of)
    g.met.S.Script.lawful start c.args._me x c.requires.tied c.requires.going
    (record {
      core = c.hand_out.new.self;
      to_low = c.put.new.self;
      to_high = c.put-2.new.self;
      from_low = x.from_low;
      from_high = x.from_high;
    })
    (c.hand_out.ensures.fits (setup_of script.batch_of script.inputs_of start) (all_delivered x.core.round) c.requires.tied.stands.fits)
    c.hand_out.ensures.keeps c.hand_out.ensures.moves c.put.ensures c.put-2.ensures refl refl
