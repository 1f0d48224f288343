use Rattle.std.proofs.Common.{◌≡◌, ◌<◌, ◌≤◌, ◌+◌, ◌*◌, ◌%◌, ◌^◌, [], ◌∷◌, drop, get_or, bit_or, sym, ap, ◌∙◌, arith}
use Rattle.std.proofs.lemmas.List.{drop_more, drop_all}
use Rattle.beet_words.proofs.HexDigits.{joined, joined-same, seen_of, digits_good, digits_bad}
use Rattle.beet_words.proofs.digits.read_digits.Goals as goal

pub loop-digit-preserved : goal.loop-digit-preserved
loop-digit-preserved c =
    let inv = c.loop-digit.invariant in
    let n = c.loop-digit.number in
    let v = c.value_of-value.result in
    let i = c.loop-digit.digit-index in
    let text = c.args.text.now in
    let rest = drop (i + 1) text in
    let begins : drop i text ≡ get_or text i 0 ∷ rest = drop_more text i 0 c.loop-digit-test.true in
    record {
      number = joined-same rest ((n * 16 % 2 ^ 64 + v) % 2 ^ 64) (n * 16 + v) (omega arith)
          ∙ ap (λ w. joined (n * 16 + w) rest % 2 ^ 64) c.value_of-value.ensures
          ∙ ap (λ cs. joined n cs % 2 ^ 64) (sym begins) ∙ inv.number;
      seen = ap (λ w. seen_of (bit_or c.loop-digit.seen w) rest) c.value_of-value.ensures
          ∙ ap (seen_of c.loop-digit.seen) (sym begins) ∙ inv.seen;
    }

pub returns-then-seen-lt16 : goal.returns-then-seen-lt16
returns-then-seen-lt16 c =
    let inv = c.loop-digit.invariant in
    let text = c.args.text.now in
    let end : drop c.loop-digit.digit-index text ≡ [] = drop_all c.loop-digit.digit-index text (omega arith) in
    let seen : c.loop-digit.seen ≡ seen_of 0 text = rw end at inv.seen in
    let small : seen_of 0 text < 16 = omega (arith, seen, c.if-seen-lt16.true) in
    sym (digits_good text c.loop-digit.number (omega arith) small (omega arith) (rw end at inv.number))

pub returns-else-seen-lt16 : goal.returns-else-seen-lt16
returns-else-seen-lt16 c =
    let inv = c.loop-digit.invariant in
    let text = c.args.text.now in
    let end : drop c.loop-digit.digit-index text ≡ [] = drop_all c.loop-digit.digit-index text (omega arith) in
    let seen : c.loop-digit.seen ≡ seen_of 0 text = rw end at inv.seen in
    let large : 16 ≤ seen_of 0 text = omega (arith, seen, c.if-seen-lt16.false) in
    sym (digits_bad text (omega arith) large)
