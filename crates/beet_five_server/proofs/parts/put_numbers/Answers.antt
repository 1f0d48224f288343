use Rattle.std.proofs.Common.{◌≡◌, ◌*◌, List, ℕ, slice_index, take, ap, ◌∙◌}
use Rattle.beet_words.specs.Tapes.{drawn_from, left_of}
use Rattle.beet_server.specs.Values.{values_of}
use Rattle.beet_five_server.specs.Parts.{numbers_for}
use Rattle.beet_five_server.specs.Runs.{draws_in}
use Rattle.beet_five_server.proofs.parts.put_numbers.Goals.{After-put_for_each}
use Rattle.beet_five_server.proofs.parts.put_numbers.Goals as goal

-- the numbers for a server of what is hidden or shown, and of the numbers drawn
module _ (c : After-put_for_each) where
  sent : (to : ℕ) (items : List ℕ) →
      ((points : List ℕ) (word : ℕ) → c.as_slice-values.result.now ≡ values_of c.args.act.now points word →
      items ≡ numbers_for c.args.act.now points word c.as_slice-drawn.result.now to) →
      items ≡ numbers_for c.args.act.now c.args.wires.now (slice_index c.args.tapes.now.masks.words c.args.tapes.now.masks.passed)
      (take (draws_in c.args.act.now) (left_of c.args.tapes.now.coefficients)) to
  sent to items is =
      let all = left_of c.args.tapes.now.coefficients in
      let word = slice_index c.args.tapes.now.masks.words c.args.tapes.now.masks.passed in
      is c.args.wires.now word (c.as_slice-values.ensures.value ∙ c.put_values.ensures.values)
      ∙ ap (λ l. numbers_for c.args.act.now c.args.wires.now word l to) (c.as_slice-drawn.ensures.value ∙ c.draw.ensures.items
      ∙ ap (λ n. take (2 * n) all) c.secrets_in-count.ensures.value)

pub returns-clause-one : goal.returns-clause-one
returns-clause-one c = sent (goal.at.returns-clause-one c).After-put_for_each 1 _ c.put_for_each.ensures.one

pub returns-clause-two : goal.returns-clause-two
returns-clause-two c = sent (goal.at.returns-clause-two c).After-put_for_each 2 _ c.put_for_each.ensures.two

pub returns-clause-three : goal.returns-clause-three
returns-clause-three c = sent (goal.at.returns-clause-three c).After-put_for_each 3 _ c.put_for_each.ensures.three

pub returns-clause-four : goal.returns-clause-four
returns-clause-four c = sent (goal.at.returns-clause-four c).After-put_for_each 4 _ c.put_for_each.ensures.four

pub returns-clause-five : goal.returns-clause-five
returns-clause-five c = sent (goal.at.returns-clause-five c).After-put_for_each 5 _ c.put_for_each.ensures.five

pub returns-clause-drawn : goal.returns-clause-drawn
returns-clause-drawn c =
    c.draw.ensures.tape ∙ ap (λ n. drawn_from c.args.tapes.now.coefficients (2 * n)) c.secrets_in-count.ensures.value
