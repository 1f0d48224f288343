use Rattle.beet_five_map.proofs.MaskFacts.{all-ones, mask-turned}
use Rattle.beet_five_map.proofs.MasksBack.{masks-back, masks-image, masks-only}
use Rattle.beet_five_map.proofs.laws.masks_are_mapped_one_to_one.Goals as goal

pub returns-clause-turns : goal.returns-clause-turns
returns-clause-turns c = mask-turned

pub returns-clause-all_ones : goal.returns-clause-all_ones
returns-clause-all_ones c = all-ones

pub returns-clause-only : goal.returns-clause-only
returns-clause-only c = masks-only

pub returns-clause-back : goal.returns-clause-back
returns-clause-back c = masks-back

pub returns-clause-image : goal.returns-clause-image
returns-clause-image c = λ l losses words within are. masks-image l losses words within are
