use Rattle.std.proofs.Common.{◌≡◌, ◌+◌, ◌++◌, List, ap, ◌∙◌}
use Rattle.beet_weights.specs.Quadratics.{of_five}
use Rattle.beet_weights.specs.declared.Quadratic.{Quadratic}
use Rattle.beet_linear_sharing.specs.Runs.{opened_by}
use Rattle.beet_linear_sharing.specs.Schemes.{five_servers}
use Rattle.beet_coalition.specs.Lists.{at_server}
use Rattle.beet_coalition_map.specs.Steps.{Stage, dealing, points_at, polynomials, run_of}
use Rattle.beet_coalition_map.proofs.Acting.{acts}
use Rattle.beet_coalition_map.proofs.stage.Stage.act.Goals as goal

pub returns : goal.returns
returns c =
    let s : Stage = c.args.self.now in
    let a = c.args.act.now in
    let given : List Quadratic = c.as_slice.result.now in
    let is : given ≡ polynomials (dealing c.args.masks.now c.args.numbers.now) (run_of s) a =
    c.as_slice.ensures.value ∙ c.in_ok-append_given.ensures
    ∙ ap (λ l. l ++ polynomials (dealing c.args.masks.now c.args.numbers.now) (run_of s) a) c.clear.ensures.items in
    let opened : c.open.new.self ≡ record s { opened = s.opened ++ opened_by five_servers (run_of s) a } = c.in_ok-open.ensures in
    let before = c.self.view_is ∙ c.in_ok-add_points.ensures
    ∙ (λ i. record (opened i) { wires = of_five (λ j. at_server (opened i).wires j ++ points_at given j) }) in
    (λ i. record (before i) { hidden = (before i).hidden + c.draws.ensures i; dealt = (before i).dealt + c.deals.ensures i })
    ∙ acts a c.args.masks.now c.args.numbers.now s given is
