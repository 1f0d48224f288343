use Rattle.beet_sale_laws.proofs.Saying.{puts-sales}
use Rattle.beet_sale_laws.proofs.what_pair_puts_looks_the_same.Goals as goal

pub returns : goal.returns
returns c = λ files sale1 sale2 servers server out call done. puts-sales files call sale1 sale2 servers server out done
