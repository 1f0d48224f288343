use Rattle.std.proofs.Common.{◌≡◌, ◌∙◌, subst, sym}
use Rattle.beet_field.specs.Trio.{member}
use Rattle.beet_server.specs.Lockstep.{HaveEnded}
use Rattle.beet_station.proofs.Ends.{all-ended}
use Rattle.beet_threads.proofs.Ending.{ended-as}
use Rattle.beet_threads.proofs.running.run_three.Goals as goal

pub returns-in-Ok-in_threads : goal.returns-in-Ok-in_threads
returns-in-Ok-in_threads g c =
    let script = g.S.Script in let serving = c.servings.ensures in let run = c.runs-runs.ensures in
    let ended = c.in-Ok-in_threads.ensures in
    let ends = c.in-Ok-in_threads.ends in
    subst (HaveEnded script.batch_of script.inputs_of script.rounds_of c.args.cores) (sym c.apart-ended.ensures.servers)
    (all-ended script.batch_of script.inputs_of script.rounds_of c.args.cores
    (record { one = ends.one.0; two = ends.two.0; three = ends.three.0 }) c.requires
    (record {
      one = ended-as script.batch_of script.inputs_of script.rounds_of _ _ _ _ _ (serving.one.1 ∙ run.one) serving.one.0 ended.one.0;
      two = ended-as script.batch_of script.inputs_of script.rounds_of _ _ _ _ _ (serving.two.1 ∙ run.two) serving.two.0 ended.two.0;
      three = ended-as script.batch_of script.inputs_of script.rounds_of _ _ _ _ _
          (serving.three.1 ∙ run.three) serving.three.0 ended.three.0;
    }))

pub returns-in-Err : goal.returns-in-Err
returns-in-Err g c =
    let script = g.S.Script in let serving = c.servings.ensures in let run = c.runs-runs.ensures in let stayed = c.in-Err.ensures.stayed in
    let one : c.in-Err.cores.one ≡ c.args.cores.one = stayed.0 ∙ (λ i. member ((serving.one.1 ∙ run.one) i) (serving.one.0 i)) in
    let two : c.in-Err.cores.two ≡ c.args.cores.two = stayed.1 ∙ (λ i. member ((serving.two.1 ∙ run.two) i) (serving.two.0 i)) in
    let three : c.in-Err.cores.three ≡ c.args.cores.three =
    stayed.2 ∙ (λ i. member ((serving.three.1 ∙ run.three) i) (serving.three.0 i)) in
    let same : c.in-Err.cores ≡ c.args.cores = λ i. record { one = one i; two = two i; three = three i } in
    subst (λ cores. HaveEnded script.batch_of script.inputs_of script.rounds_of cores c.lockstep-in-Err.result) same
    c.lockstep-in-Err.ensures
