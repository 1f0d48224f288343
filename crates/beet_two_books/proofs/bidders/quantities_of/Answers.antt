use Rattle.std.proofs.Common.{◌<◌, ◌++◌, ◌∷◌, [], length, sym, ◌∙◌, arith, take_all}
use Rattle.std.proofs.lemmas.List.{take_more}
use Rattle.beet_book.specs.Dealing.{quantities}
use Rattle.beet_book.proofs.Quantities.{quantities-many}
use Rattle.beet_two_books.proofs.bidders.quantities_of.Goals as goal

pub loop-n-preserved : goal.loop-n-preserved
loop-n-preserved c =
    let all = quantities c.args.curve.now in
    let many = quantities-many c.args.grid.now c.args.curve.now c.requires in
    let within : c.loop-n.n < length all = omega (arith, many, c.loop-n.invariant.end, c.loop-n-test.true) in
    record {
      end = c.loop-n.invariant.end;
      so_far = c.in_ok-push.ensures.items ∙ (λ j. c.loop-n.invariant.so_far j ++ c.quantity_of.ensures j ∷ [])
          ∙ sym (take_more all c.loop-n.n 0 within);
    }

pub returns : goal.returns
returns c =
    let all = quantities c.args.curve.now in
    let many = quantities-many c.args.grid.now c.args.curve.now c.requires in
    c.loop-n.invariant.so_far ∙ take_all c.loop-n.n all (omega (arith, many, c.loop-n.invariant.end, c.loop-n-test.false))
