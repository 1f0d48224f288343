-- What an audit finds: the first thing that is wrong, or that nothing is.
use Rattle.std.specs.Prelude.{◌≡◌, ◌≢◌, ◌⊎◌, ◌<◌, ℕ, Option, Some, None, Result, Ok, Err}
use Rattle.beet_field.specs.declared.point.Point.{Point}
use Rattle.beet_field.specs.declared.point.Point.TheVariants.{One, Two, Three}
use Rattle.beet_audit.specs.declared.fault.AuditFault.{AuditFault}
use Rattle.beet_audit.specs.declared.fault.AuditFault.TheVariants.{OutOfMemory}

-- something is wanted: it holds, or this is what is wrong
abbrev pub Wants : Type 0 → AuditFault → Option AuditFault → Type 0
Wants wanted fault None = wanted
Wants wanted fault (Some found) = (wanted → ⊥) × (found ≡ fault)

-- of two findings in order the first that is wrong
abbrev pub InTurn : (Option AuditFault → Type 0) → (Option AuditFault → Type 0) → Option AuditFault → Type 0
InTurn first second None = first None × second None
InTurn first second (Some found) = first (Some found) ⊎ (first None × second (Some found))

-- of one finding for each number below n in order the first that is wrong
abbrev pub EachBelow : ℕ → (ℕ → Option AuditFault → Type 0) → Option AuditFault → Type 0
EachBelow n at None = (k : ℕ) → k < n → at k None
EachBelow n at (Some found) = (k : ℕ) × (k < n) × ((j : ℕ) → j < k → at j None) × at k (Some found)

-- of one finding for each server in order the first that is wrong
abbrev pub EachServer : (Point → Option AuditFault → Type 0) → Option AuditFault → Type 0
EachServer at = InTurn (at One) (InTurn (at Two) (at Three))

-- the answer is what is found: it is no error exactly if nothing is wrong, and the error is the first thing that is;
-- memory may run out at any time
abbrev pub Judges : {T : Type 0} → (Option AuditFault → Type 0) → Result T AuditFault → Type 0
Judges finds (Ok value) = finds None
Judges finds (Err found) = found ≢ OutOfMemory → finds (Some found)
