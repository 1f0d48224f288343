use Rattle.std.proofs.Common.{◌≡◌, ℕ, [], ◌∷◌, ◌++◌, arith}
use Rattle.std.proofs.lemmas.Result.{err_from_is_err_and}
use Rattle.arrayvec.specs.ArrayVec.{ArrayVec}
use Rattle.beet_words.specs.Fields.{times}
use Rattle.beet_words.proofs.Times.{onto-next, onto-fault, onto-end}
use Rattle.beet_view.specs.Transcripts.{point_at}
use Rattle.beet_view.proofs.parts.read_so_many_numbers.Goals as goal

pub returns-in_err-number-clause-numbers : goal.returns-in_err-number-clause-numbers
returns-in_err-number-clause-numbers c =
    let part = point_at c.args.bytes.now in
    let given = err_from_is_err_and c.from_residual.result c.from_residual.ensures.1 in
    rw (given.1, given.2) (
    onto-fault part c.loop-k.numbers.items c.args.count c.loop-k._k c.loop-k.next (times c.args.count part c.args.at)
    (λ read. read) (λ (read : ArrayVec ℕ × ℕ). (read.0.items, read.1)) c.in_err-number.field-0.0 c.loop-k-test.true
    c.in_err-number.ensures.point c.loop-k.invariant.read
    )

pub loop-k-preserved : goal.loop-k-preserved
loop-k-preserved c =
    let part = point_at c.args.bytes.now in
    let more : c.push.new.self.items ≡ c.loop-k.numbers.items ++ c.in_ok-number.number ∷ [] = c.push.ensures.items in
    record {
      read = rw more (
          onto-next part c.loop-k.numbers.items c.args.count c.loop-k._k c.loop-k.next c.in_ok-number.after c.in_ok-number.number
          (times c.args.count part c.args.at) c.loop-k-test.true c.in_ok-number.ensures.point c.loop-k.invariant.read
          );
      within = c.in_ok-number.ensures.within;
      room = omega (arith, c.push.ensures.len, c.loop-k.invariant.room);
    }

pub returns-clause-numbers : goal.returns-clause-numbers
returns-clause-numbers c =
    let part = point_at c.args.bytes.now in
    onto-end part c.loop-k.numbers.items c.args.count c.loop-k._k c.loop-k.next (times c.args.count part c.args.at)
    c.loop-k-test.false c.loop-k.invariant.read
