use Rattle.std.proofs.Common.{◌≡◌, ◌*◌, ◌++◌, arith, ap, drop, length, length-append, ◌∙◌}
use Rattle.std.proofs.lemmas.Grind.{common_steps}
use Rattle.std.proofs.lemmas.List.{length-drop, length-take-le}
use Rattle.beet_words.specs.Tapes.{left_of}
use Rattle.beet_book.specs.Dealing.{dealt_points, quantities, shares_of}
use Rattle.beet_book.specs.Totals.{added, items_of}
use Rattle.beet_book.proofs.Direct.{adds-quantities, dealt-directly, same-totals}
use Rattle.beet_book.proofs.summing.Totals.deal.Goals as goal

-- the points of the bidder were added to the sums
dealt : (c : goal.After-add_curve_to_each) → items_of c.add_curve_to_each.new.sums
    ≡ added c.args.self.now.points (dealt_points c.args.curve.now (left_of c.args.tape.now))
dealt c =
    let curve = c.args.curve.now in
    let count = length-append curve.buy curve.sell in
    c.add_curve_to_each.ensures.sums
    ∙ ap (λ points. added (items_of c.self.inside.points) (shares_of (quantities curve) points)) (grind (arith, common_steps))
    ∙ ap (added (items_of c.self.inside.points)) (dealt-directly curve (left_of c.args.tape.now) c.draw_each.new.numbers
    (2 * c.args.self.now.prices) (grind (arith, common_steps)) (omega (arith, count, c.requires.buy, c.requires.sell))
    (omega (arith, count, c.requires.buy, c.requires.sell)))
    ∙ ap (λ t. added t.points (dealt_points curve (left_of c.args.tape.now))) c.self.view_is

pub returns-clause-sums : goal.returns-clause-sums
returns-clause-sums c = same-totals _ _ (ap (λ t. t.prices) c.self.view_is) (dealt c)

pub returns-clause-values : goal.returns-clause-values
returns-clause-values c =
    let count = length-append c.args.curve.now.buy c.args.curve.now.sell in
    adds-quantities c.args.curve.now (left_of c.args.tape.now) c.args.self.now.points _
    (omega (arith, c.requires.buy, c.requires.sell)) (dealt c)

pub add_curve_to_each-requires-clause-slopes : goal.add_curve_to_each-requires-clause-slopes
add_curve_to_each-requires-clause-slopes c =
    let count = length-append c.args.curve.now.buy c.args.curve.now.sell in
    omega (
      arith,
      count,
      c.requires.buy,
      c.requires.sell,
      c.deref.ensures.len,
      c.self.inside.slopes.ok.0,
      c.self.invariant.1,
      ap (λ t. t.prices) c.self.view_is,
    )

pub invariant_of-self : goal.invariant_of-self
invariant_of-self c =
    let lengths = c.add_curve_to_each.ensures.lengths in
    let count = length-append c.args.curve.now.buy c.args.curve.now.sell in
    let prices : c.self.inside.prices ≡ c.args.self.now.prices = ap (λ t. t.prices) c.self.view_is in
    let room : length c.deref_mut.result.now ≡ 2 * c.self.inside.prices = ap length c.deref_mut.ensures.value ∙ c.self.invariant.1 in
    let drawn = ap length c.draw_each.ensures.numbers
    ∙ length-take-le (length c.deref_mut.result.now) (left_of c.args.tape.now) (omega (arith, room, prices, c.requires.words)) in
    let slopes = c.self.inside.slopes in
    let rest = drop (length c.draw_each.new.numbers) slopes.items in
    let whole : length (c.draw_each.new.numbers ++ rest) ≡ length slopes.items =
    omega (
      arith,
      length-append c.draw_each.new.numbers rest,
      length-drop (length c.draw_each.new.numbers) slopes.items,
      drawn,
      room,
      c.self.invariant.1,
    ) in (
      record {
        one = omega (arith, lengths.one, count, c.requires.buy, c.requires.sell, prices);
        two = omega (arith, lengths.two, count, c.requires.buy, c.requires.sell, prices);
        three = omega (arith, lengths.three, count, c.requires.buy, c.requires.sell, prices);
      },
      length-take-le slopes.len (c.draw_each.new.numbers ++ rest) (omega (arith, whole, slopes.ok.0))
          ∙ omega (arith, slopes.ok.0, c.self.invariant.1),
    )

pub returns-clause-drawn : goal.returns-clause-drawn
returns-clause-drawn c =
    let count : length c.deref_mut.result.now ≡ 2 * c.args.self.now.prices =
    omega (arith, ap length c.deref_mut.ensures.value, c.self.invariant.1, ap (λ t. t.prices) c.self.view_is) in
    rw (← count) c.draw_each.ensures.drawn
