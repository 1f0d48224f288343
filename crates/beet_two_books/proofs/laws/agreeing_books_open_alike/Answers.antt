use Rattle.beet_two_books.proofs.BookWorlds.{opens-alike}
use Rattle.beet_two_books.proofs.laws.agreeing_books_open_alike.Goals as goal

pub returns : goal.returns
returns c = λ s first second words words' b b' agree m enough mapped. opens-alike s first second words words' b b' agree m enough mapped
