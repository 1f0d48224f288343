use Rattle.std.proofs.Common.{◌≡◌, ◌+◌, ◌++◌, List, ap, ◌∙◌}
use Rattle.beet_field.specs.Trio.{member, trio_of}
use Rattle.beet_shamir.specs.declared.Line.{Line}
use Rattle.beet_sharing.specs.Runs.{Shared, opened_by}
use Rattle.beet_map.specs.Steps.{lines_gained}
use Rattle.beet_map.specs.Secrets.{shares_of}
use Rattle.beet_map.proofs.Gained.{acted}
use Rattle.beet_map.proofs.stage.Stage.gain.Goals as goal

pub returns : goal.returns
returns c =
    let s : Shared = c.args.self.now in
    let a = c.args.act.now in
    let lines : List Line = c.as_slice.result.now in
    let gains : lines ≡ lines_gained a c.args.masks.now c.args.numbers.now s =
    c.as_slice.ensures.value ∙ c.in_ok-append_gained.ensures
    ∙ ap (λ l. l ++ lines_gained a c.args.masks.now c.args.numbers.now s) c.requires.lines in
    let opened : c.open.new.self ≡ record s { opened = s.opened ++ opened_by s a } = c.in_ok-open.ensures in
    let before = c.self.view_is ∙ c.in_ok-add_lines.ensures
    ∙ (λ i. record (opened i) { wires = trio_of (λ j. member (opened i).wires j ++ shares_of lines j) }) in
    (λ i. record (before i) { drawn = (before i).drawn + c.draws.ensures i; dealt = (before i).dealt + c.deals.ensures i })
    ∙ acted a c.args.masks.now c.args.numbers.now s lines gains
