use Rattle.beet_masking.specs.Masks.{mask_at}
use Rattle.beet_masking.proofs.AlikeMasks.{rejected-same, accepted-same, spent-same}
use Rattle.beet_turned.proofs.MaskFacts.{own-same, mask-turned, mask-ones}
use Rattle.beet_turned.proofs.Small.{mapped-masks}
use Rattle.beet_turned.proofs.laws.mapped_masks_count_alike.Goals as goal

pub returns-clause-own : goal.returns-clause-own
returns-clause-own c = λ s losses words words' m. own-same losses words words' s m

pub returns-clause-turns : goal.returns-clause-turns
returns-clause-turns c = λ s losses words words' m. mask-turned losses words words' s m

pub returns-clause-are_words : goal.returns-clause-are_words
returns-clause-are_words c = λ s losses words words' m small. mapped-masks losses s words words' small m

pub returns-clause-rejected : goal.returns-clause-rejected
returns-clause-rejected c = λ s losses words words' m.
    rejected-same (mask_at words) (mask_at words') (record { same = mask-ones losses words words' s m })

pub returns-clause-accepted : goal.returns-clause-accepted
returns-clause-accepted c = λ s losses words words' m.
    accepted-same (mask_at words) (mask_at words') (record { same = mask-ones losses words words' s m })

pub returns-clause-spent : goal.returns-clause-spent
returns-clause-spent c = λ s losses words words' m.
    spent-same (mask_at words) (mask_at words') (record { same = mask-ones losses words words' s m })
