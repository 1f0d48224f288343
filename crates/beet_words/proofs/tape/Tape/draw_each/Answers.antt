use Rattle.std.proofs.Common.{◌≡◌, ◌<◌, ◌∷◌, length, drop, arith, rules, sym, subst, ap, refl, ◌∙◌}
use Rattle.beet_words.specs.Words.{accepted}
use Rattle.beet_words.specs.Tapes.{Draws, drawn_from, left_of}
use Rattle.beet_words.proofs.Drawing.{front-more, front-whole, rest-more}
use Rattle.beet_words.proofs.DrawnFrom.{draws-one, drawn-again, drawn-none}
use Rattle.beet_words.proofs.tape.Tape.draw_each.Goals as goal

pub loop-number-init : goal.loop-number-init
loop-number-init c = record {
  same_length = refl;
  filled = λ k h. absurd (omega (arith, h));
  left = search rules;
  drawn = (λ i. record { words = c.args.self.now.words; passed = (c.self.view_is i).passed }) ∙ sym (drawn-none c.args.self.now);
  within = search rules;
}

pub loop-number-preserved : goal.loop-number-preserved
loop-number-preserved c =
    let inv = c.loop-number.invariant in
    let tape = c.args.self.now in
    let left = left_of tape in
    let k = c.loop-number.number-index in
    let found = c.next_number-found in
    let words = c.as_slice-words.result.now in
    let same : words ≡ tape.words = search rules in
    let within : k < length c.loop-number.numbers = omega arith in
    let next : drop k left ≡ found.result.0 ∷ accepted (drop found.result.1 words) = sym inv.left ∙ found.ensures.next in
    let one : Draws (record { words = words; passed = c.loop-number.place })
    (record { words = words; passed = found.result.1 }) found.result.0 = record {
      words = refl;
      next = found.ensures.next;
      forward = found.ensures.forward;
      within = found.ensures.within;
      at_word = found.ensures.at_word;
      accepted_word = found.ensures.accepted_word;
    } in
    let again = draws-one _ _ found.result.0 (subst (λ ws. Draws (record { words = ws; passed = c.loop-number.place })
    (record { words = ws; passed = found.result.1 }) found.result.0) same one) in
    record {
      same_length = search rules;
      filled = front-more k found.result.0 c.loop-number.numbers left _ within inv.filled next;
      left = rest-more k found.result.0 left _ next;
      drawn = again ∙ ap (λ t. drawn_from t 1) inv.drawn ∙ drawn-again tape k 1;
      within = found.ensures.within;
    }

pub returns-clause-numbers : goal.returns-clause-numbers
returns-clause-numbers c =
    let inv = c.loop-number.invariant in
    front-whole (length c.args.numbers.now) c.loop-number.numbers (left_of c.args.self.now) inv.same_length c.requires
    (λ k h. inv.filled k (omega arith))
