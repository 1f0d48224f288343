use Rattle.beet_words.proofs.DrawnFrom.{draws-one}
use Rattle.beet_book.proofs.dealing.deal_next.Goals as goal

pub returns-clause-drawn : goal.returns-clause-drawn
returns-clause-drawn c = draws-one c.args.tape.now c.draw-slope.new.self c.draw-slope.result c.draw-slope.ensures
