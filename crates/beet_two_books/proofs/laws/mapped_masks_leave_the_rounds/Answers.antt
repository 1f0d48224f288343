use Rattle.beet_masking.specs.Masks.{mask_at}
use Rattle.beet_turned.proofs.MaskFacts.{mask-ones}
use Rattle.beet_two_books.proofs.BookWorlds.{rounds-same}
use Rattle.beet_two_books.proofs.laws.mapped_masks_leave_the_rounds.Goals as goal

pub returns : goal.returns
returns c = λ s losses words words' m auction z.
    rounds-same auction (mask_at words) (mask_at words') z (record { same = mask-ones losses words words' s m })
