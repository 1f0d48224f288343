use Rattle.beet_sale_laws.proofs.Saying.{says}
use Rattle.beet_sale_laws.proofs.what_sale_says_is_the_plain_sale.Goals as goal

pub returns : goal.returns
returns c = λ files sale servers call done. says files call sale servers done
