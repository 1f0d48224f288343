-- A server that deals nothing and draws nothing starts if there is memory.
use Rattle.std.proofs.Common.{◌≡◌, ◌<◌, ◌↔◌, ℕ, Result, Ok, Err, IfErr, refl, arith}
use Rattle.std.specs.Prelude.{IsErrOf}
use Rattle.beet_server.specs.declared.server.StartFault.{StartFault}
use Rattle.beet_server.specs.declared.server.StartFault.TheVariants.{OutOfMemory, TooFewMasks, TooFewWords}

pub only-memory : {A : Type 0} {P Q R : ℕ → Type 0} (r : Result A StartFault) →
    ((have : ℕ) → IsErrOf r (TooFewWords have) ↔ (P have × (have < 0))) →
    ((have : ℕ) → IsErrOf r (TooFewMasks have) ↔ (Q have × R have × (have < 0))) → IfErr r (λ fault. fault ≡ OutOfMemory)
only-memory (Ok core) words masks = tt
only-memory (Err (TooFewWords have)) words masks = let none = ((words have).0 refl).1 in absurd (omega (arith, none))
only-memory (Err (TooFewMasks have)) words masks = let none = ((masks have).0 refl).2 in absurd (omega (arith, none))
only-memory (Err OutOfMemory) words masks = refl
