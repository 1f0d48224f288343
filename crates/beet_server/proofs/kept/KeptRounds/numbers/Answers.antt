use Rattle.std.proofs.Common.{arith, ap, sym, ◌∙◌, ◌≡◌, length}
use Rattle.beet_server.specs.Kept.{KeptMessages, numbers_kept}
use Rattle.beet_round.specs.declared.sides.Side.TheVariants.{Low, High}
use Rattle.beet_server.proofs.KeptFacts.{length-messages, numbers-low, numbers-high, short-at}
use Rattle.beet_server.proofs.kept.KeptRounds.numbers.Goals as goal

pub row-requires : goal.row-requires
row-requires c =
    let s = c.self.invariant in
    let count : length c.args.self.now.messages ≡ length c.self.inside.low.rows =
    ap (λ (v : KeptMessages). length v.messages) (sym c.self.view_is)
    ∙ length-messages c.self.inside.me 0 c.self.inside.low.rows c.self.inside.high.rows s.same in
    omega (arith, count, c.requires)

pub row-requires-in-High : goal.row-requires-in-High
row-requires-in-High c =
    let s = c.self.invariant in
    let count : length c.args.self.now.messages ≡ length c.self.inside.low.rows =
    ap (λ (v : KeptMessages). length v.messages) (sym c.self.view_is)
    ∙ length-messages c.self.inside.me 0 c.self.inside.low.rows c.self.inside.high.rows s.same in
    omega (arith, count, c.requires, s.same)

pub returns-in-Low-clause-numbers : goal.returns-in-Low-clause-numbers
returns-in-Low-clause-numbers c =
    let s = c.self.invariant in
    c.row.ensures ∙ sym (numbers-low c.self.inside.me 0 c.self.inside.low.rows c.self.inside.high.rows c.args.round s.same)
    ∙ ap (λ (v : KeptMessages). numbers_kept v.messages c.args.round Low) c.self.view_is
    ∙ ap (numbers_kept c.args.self.now.messages c.args.round) (sym c.in-Low.is)

pub returns-in-High-clause-numbers : goal.returns-in-High-clause-numbers
returns-in-High-clause-numbers c =
    let s = c.self.invariant in
    c.row-in-High.ensures ∙ sym (numbers-high c.self.inside.me 0 c.self.inside.low.rows c.self.inside.high.rows c.args.round s.same)
    ∙ ap (λ (v : KeptMessages). numbers_kept v.messages c.args.round High) c.self.view_is
    ∙ ap (numbers_kept c.args.self.now.messages c.args.round) (sym c.in-High.is)

pub returns-in-Low-clause-few : goal.returns-in-Low-clause-few
returns-in-Low-clause-few c = short-at c.self.inside.low.rows c.args.round c.row.result.now c.self.invariant.low_short c.row.ensures

pub returns-in-High-clause-few : goal.returns-in-High-clause-few
returns-in-High-clause-few c = short-at c.self.inside.high.rows c.args.round c.row-in-High.result.now
    c.self.invariant.high_short c.row-in-High.ensures
