use Rattle.std.proofs.Common.{◌≡◌, ℕ, ◌++◌, ◌∷◌, [], Ok, Err, Vec, Global}
use Rattle.std.proofs.lemmas.Result.{err_from_is_err_and}
use Rattle.beet_words.specs.Fields.{times}
use Rattle.beet_words.proofs.Times.{onto-next, onto-fault, onto-end}
use Rattle.beet_words.proofs.many.read_many.Goals as goal

pub read_one-requires : goal.read_one-requires
read_one-requires g c = c.requires.callable c.loop-k.next c.loop-k.invariant.within

pub returns-in_err-item-clause-items : goal.returns-in_err-item-clause-items
returns-in_err-item-clause-items g c = λ part reads.
    let i = c.loop-k.invariant in
    let given = err_from_is_err_and c.from_residual-in_err-item.result c.from_residual-in_err-item.ensures.1 in
    rw (given.1, given.2) (
    onto-fault part c.loop-k.items.items c.args.count c.loop-k._k c.loop-k.next (times c.args.count part c.args.at)
    (λ r. r) (λ (read : Vec g.row.T.Denot Global × ℕ). (read.0.items, read.1)) c.in_err-item.field-0.0 c.loop-k-test.true
    (reads c.loop-k.next (Err c.in_err-item.field-0.0) i.within c.in_err-item.ensures) (i.read part reads)
    )

pub loop-k-preserved : goal.loop-k-preserved
loop-k-preserved g c =
    let i = c.loop-k.invariant in
    let items : c.push.new.self.items ≡ c.loop-k.items.items ++ c.in_ok-item.item ∷ [] = c.in_ok-push.ensures.items in
    record {
      read = λ part reads. rw items (
          onto-next part c.loop-k.items.items c.args.count c.loop-k._k c.loop-k.next c.in_ok-item.after c.in_ok-item.item
          (times c.args.count part c.args.at) c.loop-k-test.true
          (reads c.loop-k.next (Ok (c.in_ok-item.item, c.in_ok-item.after)) i.within c.in_ok-item.ensures) (i.read part reads)
          );
      within = c.requires.within c.loop-k.next (Ok (c.in_ok-item.item, c.in_ok-item.after)) i.within c.in_ok-item.ensures;
    }

pub returns-clause-items : goal.returns-clause-items
returns-clause-items g c = λ part reads.
    onto-end part c.loop-k.items.items c.args.count c.loop-k._k c.loop-k.next (times c.args.count part c.args.at)
    c.loop-k-test.false (c.loop-k.invariant.read part reads)
