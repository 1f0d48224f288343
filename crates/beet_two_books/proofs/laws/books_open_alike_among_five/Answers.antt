use Rattle.beet_masking.specs.Blocks.{five_blocks}
use Rattle.beet_masking.specs.Masks.{dealt_at, mask_among}
use Rattle.beet_masking.proofs.BlockLaws.{are-five_blocks}
use Rattle.beet_masking.proofs.Words.{among-five}
use Rattle.beet_two_books.proofs.BookWorlds.{open-alike}
use Rattle.beet_two_books.proofs.laws.books_open_alike_among_five.Goals as goal

pub returns : goal.returns
returns c = λ first second words words' b b' grids outcomes five five' few few' same turns.
    open-alike five_blocks are-five_blocks first second b b' grids outcomes (dealt_at words) (dealt_at words')
    (mask_among words) (mask_among words')
    (among-five words five few) (among-five words' five' few') (record { same = same }) turns
