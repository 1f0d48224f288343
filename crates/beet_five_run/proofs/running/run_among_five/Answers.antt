use Rattle.beet_five_run.specs.FiveRuns.{setup_with}
use Rattle.beet_five_run.proofs.FiveStarts.{at-start, opens-itself}
use Rattle.beet_five_run.proofs.running.run_among_five.Goals as goal

pub lockstep_of_five-requires : goal.lockstep_of_five-requires
lockstep_of_five-requires g c =
    let s = g.S.Script in
    let r = c.requires in
    let o = setup_with s.batch_of r.script r.inputs r.masks r.coefficients in
    record {
      o = o;
      script = r.script;
      stand = at-start s.batch_of s.rounds_of r.script r.inputs r.masks r.coefficients o
          (opens-itself s.batch_of s.rounds_of r.script r.inputs r.masks r.coefficients) c.args.cores.items r.starts;
    }

pub returns : goal.returns
returns g c = λ script inputs masks coefficients starts o opens.
    let s = g.S.Script in
    c.lockstep_of_five.ensures o script
    (at-start s.batch_of s.rounds_of script inputs masks coefficients o opens c.args.cores.items starts)
