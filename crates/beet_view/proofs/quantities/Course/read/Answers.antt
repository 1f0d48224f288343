use Rattle.std.proofs.Common.{◌≡◌, ℕ, [], ◌∷◌, ◌++◌, Vec, Global}
use Rattle.std.proofs.lemmas.Result.{err_from_is_err_and}
use Rattle.beet_view.specs.Transcripts.{start_of, quantities_at}
use Rattle.beet_view.proofs.QuantityTurns.{turn-next, turn-fault, turn-end}
use Rattle.beet_view.proofs.quantities.Course.read.Goals as goal

pub returns-in_err-quantity-clause-quantities : goal.returns-in_err-quantity-clause-quantities
returns-in_err-quantity-clause-quantities c =
    let whole = quantities_at c.args.bytes.now c.args.self c.args.count (start_of c.args.self) c.args.at in
    let given = err_from_is_err_and c.from_residual.result c.from_residual.ensures.1 in
    rw (given.1, given.2) (
    turn-fault c.args.bytes.now c.args.self c.loop-k.before c.allowed_after.result c.loop-k.quantities.items
    c.args.count c.loop-k._k c.loop-k.next whole
    (λ read. read) (λ (read : Vec ℕ Global × ℕ). (read.0.items, read.1)) c.in_err-quantity.field-0.0 c.loop-k-test.true
    c.allowed_after.ensures c.in_err-quantity.ensures.number c.loop-k.invariant.read
    )

pub loop-k-preserved : goal.loop-k-preserved
loop-k-preserved c =
    let whole = quantities_at c.args.bytes.now c.args.self c.args.count (start_of c.args.self) c.args.at in
    let more : c.push.new.self.items ≡ c.loop-k.quantities.items ++ c.in_ok-quantity.quantity ∷ [] = c.in-Ok-push.ensures.items in
    record {
      read = rw more (
          turn-next c.args.bytes.now c.args.self c.loop-k.before c.allowed_after.result c.loop-k.quantities.items
          c.args.count c.loop-k._k c.loop-k.next
          c.in_ok-quantity.after c.in_ok-quantity.quantity whole c.loop-k-test.true c.allowed_after.ensures
          c.in_ok-quantity.ensures.number c.loop-k.invariant.read
          );
      within = c.in_ok-quantity.ensures.within;
    }

pub returns-clause-quantities : goal.returns-clause-quantities
returns-clause-quantities c =
    turn-end c.args.bytes.now c.args.self c.loop-k.before c.loop-k.quantities.items c.args.count c.loop-k._k c.loop-k.next
    (quantities_at c.args.bytes.now c.args.self c.args.count (start_of c.args.self) c.args.at)
    c.loop-k-test.false c.loop-k.invariant.read
