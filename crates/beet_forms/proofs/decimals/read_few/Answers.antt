use Rattle.std.proofs.Common.{◌≡◌, true, slice_index_or, arith, rules}
use Rattle.std.specs.Char.{is_ascii_digit}
use Rattle.beet_forms.proofs.NumberFacts.{few_more}
use Rattle.beet_forms.proofs.decimals.read_few.Goals as goal

pub overflow_mul-value : goal.overflow_mul-value
overflow_mul-value c =
    let loop = c.loop-digit in
    let d = slice_index_or c.args.digits.now loop.digit-index 0 in
    let digit : is_ascii_digit d ≡ true = search rules in
    omega (arith, few_more loop.value loop.digit-index d loop.invariant.small (omega arith) digit)

pub overflow_add-value : goal.overflow_add-value
overflow_add-value c =
    let loop = c.loop-digit in
    let d = slice_index_or c.args.digits.now loop.digit-index 0 in
    let digit : is_ascii_digit d ≡ true = search rules in
    omega (arith, few_more loop.value loop.digit-index d loop.invariant.small (omega arith) digit)
