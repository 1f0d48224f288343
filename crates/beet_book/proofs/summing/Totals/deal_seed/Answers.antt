use Rattle.std.proofs.Common.{◌≡◌, ◌≤◌, arith, ap, length, length-append, take, sym, ◌∙◌}
use Rattle.std.proofs.lemmas.Grind.{common_steps}
use Rattle.std.proofs.lemmas.List.{take_all}
use Rattle.beet_words.specs.Seeds.{seed_words}
use Rattle.beet_words.specs.Words.{accepted}
use Rattle.beet_book.specs.Dealing.{dealt_points, quantities, shares_of}
use Rattle.beet_book.specs.Totals.{added, items_of}
use Rattle.beet_book.proofs.Direct.{adds-quantities, dealt-directly, same-totals}
use Rattle.beet_book.proofs.summing.Totals.deal_seed.Goals as goal

-- as many numbers were drawn as there are quantities
count : (c : goal.After-add_curve_to_each) → c.draw_seed-drawn.result ≡ length (quantities c.args.curve.now)
count c =
    omega (
      arith,
      length-append c.args.curve.now.buy c.args.curve.now.sell,
      c.requires.buy,
      c.requires.sell,
      c.draw_seed-drawn.ensures.count,
      c.if-drawn-len.false,
      c.len.ensures,
      c.self.inside.slopes.ok.0,
      ap length c.deref_mut.ensures.value,
      c.self.invariant.1,
      ap (λ t. t.prices) c.self.view_is,
    )

enough : (c : goal.After-add_curve_to_each) →
    length (quantities c.args.curve.now) ≤ length (accepted (seed_words c.args.seed.now c.args.stream c.args.n))
enough c = omega (arith, count c, c.draw_seed-drawn.ensures.count)

-- the slopes are these numbers
slopes : (c : goal.After-add_curve_to_each) → c.draw_seed-drawn.new.numbers
    ≡ take c.draw_seed-drawn.result (accepted (seed_words c.args.seed.now c.args.stream c.args.n))
slopes c =
    sym (take_all c.draw_seed-drawn.result c.draw_seed-drawn.new.numbers (omega (
      arith,
      c.draw_seed-drawn.ensures.length,
      c.if-drawn-len.false,
      c.len.ensures,
      c.self.inside.slopes.ok.0,
      ap length c.deref_mut.ensures.value,
    ))) ∙ c.draw_seed-drawn.ensures.numbers

-- the points of the bidder were added to the sums
dealt : (c : goal.After-add_curve_to_each) → items_of c.add_curve_to_each.new.sums
    ≡ added c.args.self.now.points (dealt_points c.args.curve.now (accepted (seed_words c.args.seed.now c.args.stream c.args.n)))
dealt c =
    let curve = c.args.curve.now in
    let numbers = accepted (seed_words c.args.seed.now c.args.stream c.args.n) in
    c.add_curve_to_each.ensures.sums
    ∙ ap (λ points. added (items_of c.self.inside.points) (shares_of (quantities curve) points)) (grind (arith, common_steps))
    ∙ ap (added (items_of c.self.inside.points)) (dealt-directly curve numbers c.draw_seed-drawn.new.numbers
    c.draw_seed-drawn.result (slopes c) (count c) (enough c))
    ∙ ap (λ t. added t.points (dealt_points curve numbers)) c.self.view_is

pub returns-clause-sums : goal.returns-clause-sums
returns-clause-sums c = λ whole. same-totals _ _ (ap (λ t. t.prices) c.self.view_is) (dealt c)

pub returns-clause-values : goal.returns-clause-values
returns-clause-values c = λ whole.
    adds-quantities c.args.curve.now (accepted (seed_words c.args.seed.now c.args.stream c.args.n)) c.args.self.now.points _
    (enough c) (dealt c)
