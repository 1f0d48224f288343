use Rattle.std.proofs.Common.{[], ◌∷◌, ◌++◌, ◌∙◌, ap, arith, refl}
use Rattle.beet_errand.proofs.Frame.{exits, no_memory, reached_last}
use Rattle.beet_sale_load.proofs.ReadLists.{lists-all, lists-many, lists-more, lists-none, lists-stopped}
use Rattle.beet_sale_load.proofs.bidders.read_lists.Goals as goal

pub loop-i-init : goal.loop-i-init
loop-i-init g c = rw c.new-read.ensures.items (lists-none _ _ _ _)

pub returns-in_err-reserve-clause-reads : goal.returns-in_err-reserve-clause-reads
returns-in_err-reserve-clause-reads g c = exits c.from_residual.ensures.1 (reached_last c.loop-i.invariant.read no_memory)

pub returns-in_err-words-clause-reads : goal.returns-in_err-words-clause-reads
returns-in_err-words-clause-reads g c =
    exits c.from_residual-in_err-words.ensures.1 (lists-stopped _ _ _ c.loop-i.i _ _ _ _ _ _ (omega arith) c.index-rows-i.is
    c.list_of.ensures c.loop-i.invariant _ c.in_err-words.ensures.reads)

pub loop-i-preserved : goal.loop-i-preserved
loop-i-preserved g c =
    lists-more _ _ _ c.loop-i.i _ _ _ _ _ _ (omega arith) c.index-rows-i.is c.list_of.ensures c.loop-i.invariant
    _ _ c.in_ok-words.ensures.deals
    (c.push_reserved.ensures.items ∙ ap (λ l. l ++ c.in_ok-words.words ∷ []) c.in_ok-reserve.ensures.items)
    c.in_ok-words.ensures.reads

pub returns-clause-count : goal.returns-clause-count
returns-clause-count g c = lists-many _ _ _ c.loop-i.i _ _ _ (omega arith) c.loop-i.invariant

pub returns-clause-deal : goal.returns-clause-deal
returns-clause-deal g c = c.loop-i.invariant.each

pub returns-clause-reads : goal.returns-clause-reads
returns-clause-reads g c = lists-all _ _ _ c.loop-i.i _ _ _ (omega arith) c.loop-i.invariant _ _ refl
