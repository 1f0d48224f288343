use Rattle.std.proofs.Common.{◌++◌, ap, ◌∙◌, append_assoc}
use Rattle.beet_five_view.specs.CoreViews.{view_of_core}
use Rattle.beet_five_view.specs.JointViews.{magic, view_bytes}
use Rattle.beet_five_view.proofs.CoreSees.{core-sees}
use Rattle.beet_five_view.proofs.writing.write_joint.Goals as goal

pub returns : goal.returns
returns c = λ x y chain can f g.
    let book = c.args.book.now in
    let words = c.args.words.now in
    let one = c.args.one.now in
    let other = c.args.other.now in
    let lower = ap view_bytes (core-sees book words x one c.push_view.ensures.book can c.push_view.ensures.server f c.requires.one) in
    let higher = ap view_bytes (core-sees book words y other c.push_view.ensures.book can c.push_view-2.ensures.server g c.requires.other)
    in
    c.in_ok-push_view-2.ensures.bytes
    ∙ ap (λ l. l ++ view_bytes (view_of_core book words other)) (c.in_ok-push_view.ensures.bytes
    ∙ ap (λ l. l ++ view_bytes (view_of_core book words one)) c.in_ok-file.ensures)
    ∙ append_assoc magic (view_bytes (view_of_core book words one)) (view_bytes (view_of_core book words other))
    ∙ (λ j. magic ++ (lower j ++ higher j))
