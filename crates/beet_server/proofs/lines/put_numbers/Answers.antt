use Rattle.std.proofs.Common.{◌≡◌, List, ℕ, take, refl, ap, ◌∙◌}
use Rattle.beet_field.specs.declared.point.Point.{Point}
use Rattle.beet_words.specs.Tapes.{drawn_from, left_of}
use Rattle.beet_gates.specs.Draws.{draws_in}
use Rattle.beet_gates.specs.declared.Act.{Act}
use Rattle.beet_sharing.specs.Steps.{numbers_for}
use Rattle.beet_server.specs.Values.{values_of}
use Rattle.beet_server.proofs.lines.put_numbers.Goals as goal

-- the numbers for a server of these values and slopes
sent : (act : Act) (wires : List ℕ) (word : ℕ) (all values slopes items : List ℕ) (to server : Point) →
    values ≡ values_of act wires word → slopes ≡ take (draws_in act) all → server ≡ to →
    ((points : List ℕ) (word : ℕ) → values ≡ values_of act points word → items ≡ numbers_for act points word slopes server) →
    items ≡ numbers_for act wires word (take (draws_in act) all) to
sent act wires word all values slopes items to server has draws same is =
    is wires word has ∙ ap (λ l. numbers_for act wires word l server) draws
    ∙ ap (λ s. numbers_for act wires word (take (draws_in act) all) s) same

pub returns-clause-own : goal.returns-clause-own
returns-clause-own c =
    let all = left_of c.args.tapes.now.coefficients in
    sent c.args.act.now c.args.wires.now _ all _ _ _ _ _ (c.as_slice-values.ensures.value ∙ c.put_values.ensures.values)
    (c.as_slice-slopes.ensures.value ∙ c.draw.ensures.items ∙ ap (λ n. take n all) c.secrets_in-count.ensures.value) refl c.put_for.ensures

pub returns-clause-low : goal.returns-clause-low
returns-clause-low c =
    let all = left_of c.args.tapes.now.coefficients in
    sent c.args.act.now c.args.wires.now _ all _ _ _ _ _ (c.as_slice-values.ensures.value ∙ c.put_values.ensures.values)
    (c.as_slice-slopes.ensures.value ∙ c.draw.ensures.items ∙ ap (λ n. take n all) c.secrets_in-count.ensures.value)
    c.peer.ensures.value c.put_for-2.ensures

pub returns-clause-high : goal.returns-clause-high
returns-clause-high c =
    let all = left_of c.args.tapes.now.coefficients in
    sent c.args.act.now c.args.wires.now _ all _ _ _ _ _ (c.as_slice-values.ensures.value ∙ c.put_values.ensures.values)
    (c.as_slice-slopes.ensures.value ∙ c.draw.ensures.items ∙ ap (λ n. take n all) c.secrets_in-count.ensures.value)
    c.peer-2.ensures.value c.put_for-3.ensures

pub returns-clause-drawn : goal.returns-clause-drawn
returns-clause-drawn c = c.draw.ensures.tape ∙ ap (λ n. drawn_from c.args.tapes.now.coefficients n) c.secrets_in-count.ensures.value
