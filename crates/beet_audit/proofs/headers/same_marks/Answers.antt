use Rattle.std.proofs.Common.{◌≡◌, rules, arith, sym, ap, ◌∙◌}
use Rattle.std.proofs.lemmas.List.{get_or_default}
use Rattle.beet_view.specs.declared.view.Seen.{Seen}
use Rattle.beet_audit.proofs.PointFacts.{marks-at, marks-same}
use Rattle.beet_audit.proofs.headers.same_marks.Goals as goal

pub returns-then-ne : goal.returns-then-ne
returns-then-ne c =
    let first = c.args.first.now in
    let bidders = c.args.bidders.now in
    let i = c.loop-i.i in
    let lt = c.loop-i-test.true in
    let one = c.index-bidders-i.result in
    let other = c.index-first-i.result in (
      λ t. search rules,
      λ e.
          let same : one.known ≡ other.known =
          ap (λ (seen : Seen). seen.known) c.index-bidders-i.is
          ∙ marks-at first bidders i one e lt
          ∙ ap (λ (seen : Seen). seen.known) (get_or_default first i one other lt)
          ∙ sym (ap (λ (seen : Seen). seen.known) c.index-first-i.is) in
          search rules,
    )

pub returns : goal.returns
returns c =
    let past = c.loop-i-test.false in (
      λ t. marks-same c.args.first.now c.args.bidders.now c.loop-i.invariant.many
          (λ k d lt. c.loop-i.invariant.same k d (omega (arith, lt, past))),
      λ e. search rules,
    )
