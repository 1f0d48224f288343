use Rattle.std.proofs.Common.{sym, subst, ◌∙◌}
use Rattle.beet_threads.specs.Words.{HasServed, HasTold}
use Rattle.beet_threads.proofs.Ending.{by-worker, err-then, ok-then}
use Rattle.beet_threads.proofs.running.fn.in_threads.scope.Goals as goal

pub returns : goal.returns
returns g c =
    let script = g.S.Script in
    let sink = g.K.Sink in
    let one = c.serve_if_told-one.ensures in
    let two = by-worker c.start-two.result c.end-two.result (λ w. w.promise.serving.value)
    (λ w. w.promise.word.value) c.captures.two c.captures.word.now
    (λ serving lock d. HasServed script.batch_of script.inputs_of script.rounds_of sink.due sink.origin
    serving.run.value serving.me serving.sink lock.id d.told.of d.told.value (d.station.core, d.sink))
    c.start-two.ensures.ok c.start-two.ensures.err c.end-two.ensures.worker c.end-two.ensures.back in
    let three = by-worker c.start-three.result c.end-three.result (λ w. w.promise.serving.value)
    (λ w. w.promise.word.value) c.captures.three c.captures.word.now
    (λ serving lock d. HasServed script.batch_of script.inputs_of script.rounds_of sink.due sink.origin
    serving.run.value serving.me serving.sink lock.id d.told.of d.told.value (d.station.core, d.sink))
    c.start-three.ensures.ok c.start-three.ensures.err c.end-three.ensures.worker c.end-three.ensures.back in
    record {
      one = ok-then c.settle.result _ _ c.settle.ensures.ran (λ ends h.
          subst (HasTold script.batch_of script.inputs_of script.rounds_of sink.due sink.origin c.captures.one.run.value
          c.captures.one.me c.captures.one.sink) (sym h.1) (one.ran h.0.0));
      two = ok-then c.settle.result _ _ c.settle.ensures.ran (λ ends h.
          subst (HasTold script.batch_of script.inputs_of script.rounds_of sink.due sink.origin c.captures.two.run.value
          c.captures.two.me c.captures.two.sink) (sym h.2) (two.ran h.0.1));
      three = ok-then c.settle.result _ _ c.settle.ensures.ran (λ ends h.
          subst (HasTold script.batch_of script.inputs_of script.rounds_of sink.due sink.origin
          c.captures.three.run.value c.captures.three.me c.captures.three.sink) (sym h.3) (three.ran h.0.2));
      stayed = err-then c.settle.result _ _ c.settle.ensures.stayed (λ cores h.
          (h.1 ∙ one.stayed h.0.0, h.2 ∙ two.stayed h.0.1, h.3 ∙ three.stayed h.0.2));
    }
