-- Worlds that a server cannot tell are refused only for want of memory.
use Rattle.std.proofs.Common.{◌≡◌, ℕ, List, slice_get, refl, ap}
use Rattle.beet_field.specs.declared.point.Point.{Point}
use Rattle.beet_gates.specs.declared.Batch.{Batch}
use Rattle.beet_map.specs.Refused.{LookSame, Refuses}
use Rattle.beet_map.specs.Secrets.{Secrets}
use Rattle.beet_map.specs.declared.refusals.GateFault.{GateFault}
use Rattle.beet_map.specs.declared.refusals.GateFault.TheVariants.{InputsDiffer, OwnMaskDiffers, RevealDiffers, OutOfMemory}

module _ (next : ℕ → List ℕ → Batch) (most masks : ℕ) (me : Point) (here there : Secrets)
    (same : LookSame next most masks me here there) where
  pub only-memory : (fault : GateFault) → Refuses next most masks me here there fault → fault ≡ OutOfMemory
  only-memory (InputsDiffer n) r = absurd (r.here (ap (λ l. slice_get l n) same.shares))
  only-memory (OwnMaskDiffers n) (_, r) = absurd (r.here (ap (λ l. slice_get l n) same.words))
  only-memory (RevealDiffers n one other) (_, _, r, _, _) = absurd (r.here (ap (λ l. slice_get l n) same.opened))
  only-memory OutOfMemory r = refl
