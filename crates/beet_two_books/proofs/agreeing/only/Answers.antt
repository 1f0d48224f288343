use Rattle.beet_two_books.proofs.Known.{first-alone, second-alone, third-alone}
use Rattle.beet_two_books.proofs.agreeing.only.Goals as goal

pub returns-in-One : goal.returns-in-One
returns-in-One c = rw c.in-One.is first-alone

pub returns-in-Two : goal.returns-in-Two
returns-in-Two c = rw c.in-Two.is second-alone

pub returns-in-Three : goal.returns-in-Three
returns-in-Three c = rw c.in-Three.is third-alone
