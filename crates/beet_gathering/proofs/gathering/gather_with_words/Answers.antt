use Rattle.std.proofs.Common.{ap, sym, ◌∙◌}
use Rattle.beet_errand.proofs.Frame.{bind, bound, exits, given, handed, stopped}
use Rattle.beet_load.specs.Servers.{AllWords}
use Rattle.beet_gathering.proofs.gathering.gather_with_words.Goals as goal

pub returns-in_err-words-clause-reads : goal.returns-in_err-words-clause-reads
returns-in_err-words-clause-reads g c =
    exits c.from_residual.ensures.1 (stopped (rw c.auction_wants.ensures at c.in_err-words.ensures.reads))

pub returns-in_err-words-2-clause-reads : goal.returns-in_err-words-2-clause-reads
returns-in_err-words-2-clause-reads g c =
    exits c.from_residual-in_err-words-2.ensures.1
    (bind (rw c.auction_wants.ensures at c.in_ok-words.ensures.reads) (stopped (handed c.in_err-words-2.ensures c.gather_bidders.ensures)))

pub returns-clause-reads : goal.returns-clause-reads
returns-clause-reads g c =
    let same = sym (ap (λ (words : AllWords). words.servers) (c.words.view_is ∙ c.in_ok-words-2.ensures.0)) in
    bind (rw c.auction_wants.ensures at c.in_ok-words.ensures.reads)
    (bound (handed c.in_ok-words-2.ensures.1 c.gather_bidders.ensures) (λ bidders gathered. given (same, gathered)))
