use Rattle.std.proofs.Common.{◌≡◌, ◌++◌, sym, ap, ◌∙◌, append-nil, arith}
use Rattle.std.specs.List.{flat_map}
use Rattle.beet_gates.specs.Each.{each}
use Rattle.beet_gates.proofs.EachFacts.{each-zero}
use Rattle.beet_five_view.specs.CoreViews.{round_received}
use Rattle.beet_five_view.specs.JointViews.{round_bytes}
use Rattle.beet_five_view.proofs.More.{each-bytes-more}
use Rattle.beet_five_view.proofs.writing.push_rounds.Goals as goal

pub loop-round-init : goal.loop-round-init
loop-round-init c =
    let front = c.args.file.now.items in
    sym (ap (λ l. front ++ flat_map round_bytes l) (each-zero (round_received c.args.core.now)) ∙ append-nil front)

pub loop-round-preserved : goal.loop-round-preserved
loop-round-preserved c =
    each-bytes-more round_bytes (round_received c.args.core.now) c.loop-round.round c.args.file.now.items c.loop-round.file.items
    c.push_round.new.file.items c.loop-round.invariant c.in_ok-push_round.ensures

pub returns : goal.returns
returns c =
    let core = c.args.core.now in
    let end : c.loop-round.round ≡ core.work.round =
    omega (arith, c.round-round-end.ensures, c.loop-round-test.false, c.loop-round.auto.round-end) in
    c.loop-round.invariant ∙ ap (λ n. c.args.file.now.items ++ flat_map round_bytes (each (round_received core) n)) end
