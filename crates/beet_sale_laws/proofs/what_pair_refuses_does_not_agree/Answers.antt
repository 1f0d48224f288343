use Rattle.beet_sale_laws.proofs.Saying.{refuses-sales}
use Rattle.beet_sale_laws.proofs.what_pair_refuses_does_not_agree.Goals as goal

pub returns : goal.returns
returns c = λ files sale1 sale2 servers server out both call ran read e.
    refuses-sales files call sale1 sale2 servers server out both ran read e
