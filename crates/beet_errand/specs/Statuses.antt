-- The exit statuses.
use Rattle.std.specs.Prelude.{◌≡◌, ◌⊎◌, ℕ}
use Rattle.beet_errand.specs.declared.answer.Status.{Status}
use Rattle.beet_errand.specs.declared.answer.Status.TheVariants.{Done, MasksSpent, OutOfMemory, WriteFault, Refused}
use Rattle.beet_errand.specs.declared.answer.Refusal.TheVariants.{Usage, ReadFault, BadFile, TooFewWords, Own}
use Rattle.beet_errand.specs.declared.answer.OwnRefusal.TheVariants.{OfWorlds, OfAudit}

-- the exit status of each end of a run
abbrev pub code_of : Status → ℕ
code_of Done = 0
code_of OutOfMemory = 1
code_of (Refused Usage) = 2
code_of (Refused ReadFault) = 3
code_of WriteFault = 4
code_of (Refused BadFile) = 5
code_of MasksSpent = 6
code_of (Refused (Own OfWorlds)) = 7
code_of (Refused (Own OfAudit)) = 8
code_of (Refused TooFewWords) = 9

-- the exit status of a job that is done
abbrev pub IsDoneCode : ℕ → Type 0
IsDoneCode code = (code ≡ 0) ⊎ (code ≡ 6)
