use Rattle.beet_mask.proofs.MaskRun.{mask-run}
use Rattle.beet_mask.proofs.mask_law.Goals as goal

pub returns : goal.returns
returns c = mask-run
