use Rattle.beet_sale_laws.proofs.Jobs.{pair, pair-whole, sale, sale-whole}
use Rattle.beet_sale_laws.proofs.what_is_right_is_done.Goals as goal

pub returns-clause-sale : goal.returns-clause-sale
returns-clause-sale c = λ files name servers call w can. sale files call name servers w can

pub returns-clause-sale_whole : goal.returns-clause-sale_whole
returns-clause-sale_whole c = λ files name servers read call w reads. sale-whole files call name servers w read reads

pub returns-clause-pair : goal.returns-clause-pair
returns-clause-pair c = λ files sale1 sale2 servers server out call can w masks.
    pair files call sale1 sale2 servers server out can w masks

pub returns-clause-pair_whole : goal.returns-clause-pair_whole
returns-clause-pair_whole c = λ files sale1 sale2 servers server out call can w.
    pair-whole files call sale1 sale2 servers server out can w
