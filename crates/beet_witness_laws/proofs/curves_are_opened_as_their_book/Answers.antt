use Rattle.beet_witness_laws.proofs.SameTexts.{same-text}
use Rattle.beet_witness_laws.proofs.curves_are_opened_as_their_book.Goals as goal

pub returns : goal.returns
returns c = λ grid bidders words few held masks h. same-text grid bidders words few held masks h
