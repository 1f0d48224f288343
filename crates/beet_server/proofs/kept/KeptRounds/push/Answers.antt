use Rattle.std.proofs.Common.{arith, ap, sym, ◌∙◌, ◌≡◌, ◌+◌, ◌++◌, ◌∷◌, [], length, length-append}
use Rattle.beet_round.specs.Sides.{peer}
use Rattle.beet_round.specs.declared.sides.Side.TheVariants.{Low, High}
use Rattle.beet_server.specs.Kept.{KeptMessages, messages_of, message_with}
use Rattle.beet_server.proofs.KeptFacts.{length-messages, messages-more, short-more}
use Rattle.beet_server.proofs.kept.KeptRounds.push.Goals as goal

pub push-requires-clause-items : goal.push-requires-clause-items
push-requires-clause-items c =
    let s = c.self.invariant in
    let count : length c.args.self.now.messages ≡ length c.self.inside.low.rows =
    ap (λ (v : KeptMessages). length v.messages) (sym c.self.view_is)
    ∙ length-messages c.self.inside.me 0 c.self.inside.low.rows c.self.inside.high.rows s.same in
    let room = ap (λ (v : KeptMessages). v.room) c.self.view_is in
    omega (arith, count, room, c.requires.room, c.as_slice.ensures.fits, s.low_few, s.low_fit)

pub push-requires-clause-ends : goal.push-requires-clause-ends
push-requires-clause-ends c =
    let s = c.self.invariant in
    let count : length c.args.self.now.messages ≡ length c.self.inside.low.rows =
    ap (λ (v : KeptMessages). length v.messages) (sym c.self.view_is)
    ∙ length-messages c.self.inside.me 0 c.self.inside.low.rows c.self.inside.high.rows s.same in
    let room = ap (λ (v : KeptMessages). v.room) c.self.view_is in
    omega (arith, count, room, c.requires.room)

pub push-requires-2-clause-items : goal.push-requires-2-clause-items
push-requires-2-clause-items c =
    let s = c.self.invariant in
    let count : length c.args.self.now.messages ≡ length c.self.inside.low.rows =
    ap (λ (v : KeptMessages). length v.messages) (sym c.self.view_is)
    ∙ length-messages c.self.inside.me 0 c.self.inside.low.rows c.self.inside.high.rows s.same in
    let room = ap (λ (v : KeptMessages). v.room) c.self.view_is in
    omega (arith, count, room, c.requires.room, c.as_slice-2.ensures.fits, s.high_few, s.high_fit)

pub push-requires-2-clause-ends : goal.push-requires-2-clause-ends
push-requires-2-clause-ends c =
    let s = c.self.invariant in
    let count : length c.args.self.now.messages ≡ length c.self.inside.low.rows =
    ap (λ (v : KeptMessages). length v.messages) (sym c.self.view_is)
    ∙ length-messages c.self.inside.me 0 c.self.inside.low.rows c.self.inside.high.rows s.same in
    let room = ap (λ (v : KeptMessages). v.room) c.self.view_is in
    omega (arith, count, room, c.requires.room, s.same, s.room)

pub returns-clause-messages : goal.returns-clause-messages
returns-clause-messages c =
    let s = c.self.invariant in
    let me = c.self.inside.me in
    let n = length c.self.inside.low.rows in
    let count : length c.args.self.now.messages ≡ length c.self.inside.low.rows =
    ap (λ (v : KeptMessages). length v.messages) (sym c.self.view_is)
    ∙ length-messages c.self.inside.me 0 c.self.inside.low.rows c.self.inside.high.rows s.same in
    let at : length c.args.self.now.messages ≡ 0 + n = omega (arith, count) in
    let is_me : c.args.self.now.me ≡ me = ap (λ (v : KeptMessages). v.me) (sym c.self.view_is) in
    let low : c.args.low.now ≡ message_with me (0 + n) Low c.args.low.now.numbers.items = λ i. record {
      from = (c.requires.low.from ∙ ap (λ p. peer p Low) is_me) i;
      to = (c.requires.low.to ∙ is_me) i;
      round = (c.requires.low.round ∙ at) i;
      numbers = c.args.low.now.numbers;
    } in
    let high : c.args.high.now ≡ message_with me (0 + n) High c.args.high.now.numbers.items = λ i. record {
      from = (c.requires.high.from ∙ ap (λ p. peer p High) is_me) i;
      to = (c.requires.high.to ∙ is_me) i;
      round = (c.requires.high.round ∙ at) i;
      numbers = c.args.high.now.numbers;
    } in
    rw (c.push.ensures.rows, c.push-2.ensures.rows, c.as_slice.ensures.value, c.as_slice-2.ensures.value)
    (messages-more me 0 c.self.inside.low.rows c.self.inside.high.rows c.args.low.now.numbers.items c.args.high.now.numbers.items s.same)
    ∙ (λ i. messages_of me 0 c.self.inside.low.rows c.self.inside.high.rows ++ (sym low i ∷ sym high i ∷ []) ∷ [])
    ∙ ap (λ (v : KeptMessages). v.messages ++ (c.args.low.now ∷ c.args.high.now ∷ []) ∷ []) c.self.view_is

pub invariant_of-self : goal.invariant_of-self
invariant_of-self c =
    let s = c.self.invariant in
    let low = length-append c.self.inside.low.rows (c.as_slice.result.now ∷ []) in
    let high = length-append c.self.inside.high.rows (c.as_slice-2.result.now ∷ []) in
    let lows = ap length c.push.ensures.rows in
    let highs = ap length c.push-2.ensures.rows in
    let few = c.as_slice.ensures.fits in
    let few2 = c.as_slice-2.ensures.fits in
    record {
      same = omega (arith, s.same, low, high, lows, highs);
      room = omega (arith, s.room, c.push.ensures.ends_room, c.push-2.ensures.ends_room);
      low_few = omega (arith, s.low_few, low, lows, few, c.push.ensures.count);
      high_few = omega (arith, s.high_few, low, lows, few2, c.push-2.ensures.count);
      low_fit = omega (arith, s.low_fit, c.push.ensures.ends_room, c.push.ensures.items_room);
      high_fit = omega (arith, s.high_fit, c.push.ensures.ends_room, c.push-2.ensures.items_room);
      low_short = rw c.push.ensures.rows (short-more c.self.inside.low.rows c.as_slice.result.now s.low_short few);
      high_short = rw c.push-2.ensures.rows (short-more c.self.inside.high.rows c.as_slice-2.result.now s.high_short few2);
    }
