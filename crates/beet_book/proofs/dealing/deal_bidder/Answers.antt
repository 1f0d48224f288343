use Rattle.std.proofs.Common.{◌≡◌, ◌+◌, ◌*◌, length, get_or, arith, rules, ◌∙◌, ap, sym, length-append}
use Rattle.std.proofs.lemmas.List.{get_or_append_left, get_or-append-add}
use Rattle.beet_words.specs.Tapes.{drawn_from, left_of}
use Rattle.beet_words.proofs.DrawnFrom.{drawn-again, drawn-none}
use Rattle.beet_book.specs.Dealing.{quantities, shares_of}
use Rattle.beet_book.proofs.Deals.{collected-more, front-all, some-left, dealt-shares, dealt-lengths}
use Rattle.beet_book.proofs.dealing.deal_bidder.Goals as goal

pub loop-place-init : goal.loop-place-init
loop-place-init c = record {
  room = search rules;
  points = search rules;
  drawn = sym (drawn-none c.args.tape.now);
}

pub deal_next-requires-clause-word : goal.deal_next-requires-clause-word
deal_next-requires-clause-word c = some-left c.args.tape.now c.loop-place.tape c.loop-place.place c.loop-place.invariant.drawn (omega arith)

pub deal_next-requires-in-loop-place-2-clause-word : goal.deal_next-requires-in-loop-place-2-clause-word
deal_next-requires-in-loop-place-2-clause-word c =
    some-left c.args.tape.now c.loop-place-2.tape
    (c.prices-prices.result + c.loop-place-2.place) c.loop-place-2.invariant.drawn (omega arith)

pub loop-place-preserved : goal.loop-place-preserved
loop-place-preserved c =
    let curve = c.args.curve.now in
    let inv = c.loop-place.invariant in
    let place = c.loop-place.place in
    let count = length-append curve.buy curve.sell in
    let value : c.buy.result ≡ get_or (quantities curve) place 0 =
    c.buy.ensures.value ∙ sym (get_or_append_left curve.buy curve.sell 0 place (omega arith)) in
    record {
      room = search rules;
      points = collected-more (quantities curve) c.args.tape.now c.loop-place.tape c.deal_next.new.tape
          c.loop-place.columns c.deal_next.new.columns
          place c.buy.result inv.points inv.drawn c.deal_next.ensures.points value (omega arith) (omega arith);
      drawn = c.deal_next.ensures.drawn ∙ ap (λ t. drawn_from t 1) inv.drawn ∙ drawn-again c.args.tape.now place 1;
    }

pub loop-place-2-preserved : goal.loop-place-2-preserved
loop-place-2-preserved c =
    let curve = c.args.curve.now in
    let inv = c.loop-place-2.invariant in
    let prices = c.prices-prices.result in
    let place = c.loop-place-2.place in
    let turn = c.deal_next-in-loop-place-2 in
    let count = length-append curve.buy curve.sell in
    let later : get_or (quantities curve) (prices + place) 0 ≡ get_or curve.sell place 0 =
    ap (λ n. get_or (quantities curve) (n + place) 0) (c.prices-prices.ensures.value
    ∙ sym c.requires.of_grid.buy_length) ∙ get_or-append-add curve.buy curve.sell place 0 in
    let value : c.sell.result ≡ get_or (quantities curve) (prices + place) 0 = c.sell.ensures.value ∙ sym later in
    let next : prices + (place + 1) ≡ prices + place + 1 = omega arith in
    record {
      room = search rules;
      points = rw next (collected-more (quantities curve) c.args.tape.now c.loop-place-2.tape turn.new.tape
          c.loop-place-2.columns turn.new.columns
          (prices + place) c.sell.result inv.points inv.drawn turn.ensures.points value (omega arith) (omega arith));
      drawn = rw next (turn.ensures.drawn ∙ ap (λ t. drawn_from t 1) inv.drawn ∙ drawn-again c.args.tape.now (prices + place) 1);
    }

-- all points are collected
all-points : (c : goal.After-into_points) → c.into_points.result ≡ shares_of (quantities c.args.curve.now) (left_of c.args.tape.now)
all-points c =
    let curve = c.args.curve.now in
    let count = length-append curve.buy curve.sell in
    let inv = c.loop-place-2.invariant in
    c.into_points.ensures ∙ inv.points
    ∙ front-all (quantities curve) (left_of c.args.tape.now) (c.prices-prices.result + c.loop-place-2.place) (omega arith) (omega arith)

pub of-requires : goal.of-requires
of-requires c =
    let curve = c.args.curve.now in
    let count = length-append curve.buy curve.sell in
    dealt-lengths (quantities curve) (left_of c.args.tape.now) c.into_points.result (2 * c.args.grid.now.prices)
    (omega arith) (omega arith) (all-points c)

pub returns-clause-dealt : goal.returns-clause-dealt
returns-clause-dealt c =
    let curve = c.args.curve.now in
    let count : c.prices-prices.result + c.loop-place-2.place ≡ length (quantities curve) =
    omega (arith, length-append curve.buy curve.sell) in
    record {
      points = c.of.ensures ∙ all-points c.before;
      drawn = rw (← count) c.loop-place-2.invariant.drawn;
    }

pub returns-clause-shares : goal.returns-clause-shares
returns-clause-shares c =
    let curve = c.args.curve.now in
    let count = length-append curve.buy curve.sell in
    dealt-shares (quantities curve) (left_of c.args.tape.now) c.of.result (omega arith) (c.of.ensures ∙ all-points c.before)

pub returns-clause-lengths : goal.returns-clause-lengths
returns-clause-lengths c =
    let curve = c.args.curve.now in
    let count = length-append curve.buy curve.sell in
    dealt-lengths (quantities curve) (left_of c.args.tape.now) c.of.result (2 * c.args.grid.now.prices) (omega arith)
    (omega arith) (c.of.ensures ∙ all-points c.before)
