use Rattle.std.proofs.Common.{map}
use Rattle.beet_field.specs.Field.{neg_of}
use Rattle.beet_turned.proofs.MasksBack.{masks-back, masks-only}
use Rattle.beet_turned.proofs.laws.mapped_masks_map_back.Goals as goal

pub returns-clause-back : goal.returns-clause-back
returns-clause-back c = λ s losses words words' small masks m. masks-back s losses small words words' masks m

pub returns-clause-only : goal.returns-clause-only
returns-clause-only c = λ s losses words u v a b. masks-only losses words s u v a b

pub returns-clause-sources : goal.returns-clause-sources
returns-clause-sources c = λ s losses words u v small masks masks' a b.
    masks-only (map neg_of losses) words s u v (masks-back s losses small u words masks a) (masks-back s losses small v words masks' b)
