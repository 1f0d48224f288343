-- The exit statuses tell the ends of runs apart.
use Rattle.std.proofs.Common.{◌≡◌, inl, inr, List, [], ◌∷◌, get_or, refl, sym, ap, ◌∙◌, arith}
use Rattle.beet_errand.specs.Fetches.{IsDone}
use Rattle.beet_errand.specs.Runs.{IsStatus}
use Rattle.beet_errand.specs.Statuses.{IsDoneCode, code_of}
use Rattle.beet_errand.specs.declared.answer.Status.{Status}
use Rattle.beet_errand.specs.declared.answer.Status.TheVariants.{Done, MasksSpent, OutOfMemory, WriteFault, Refused}
use Rattle.beet_errand.specs.declared.answer.Refusal.{Refusal}
use Rattle.beet_errand.specs.declared.answer.Refusal.TheVariants.{Usage, ReadFault, BadFile, TooFewWords, Own}
use Rattle.beet_errand.specs.declared.answer.OwnRefusal.TheVariants.{OfWorlds, OfAudit}

-- all ends, by their exit statuses
abbrev ends : List Status
ends =
    Done ∷ OutOfMemory ∷ Refused Usage ∷ Refused ReadFault ∷ WriteFault ∷ Refused BadFile ∷ MasksSpent ∷ Refused (Own OfWorlds)
    ∷ Refused (Own OfAudit) ∷ Refused TooFewWords ∷ []

-- an end stands at its exit status, which is one
listed : (end : Status) → IsStatus (code_of end) × (get_or ends (code_of end) Done ≡ end)
listed Done = (omega arith, refl)
listed OutOfMemory = (omega arith, refl)
listed (Refused Usage) = (omega arith, refl)
listed (Refused ReadFault) = (omega arith, refl)
listed WriteFault = (omega arith, refl)
listed (Refused BadFile) = (omega arith, refl)
listed MasksSpent = (omega arith, refl)
listed (Refused (Own OfWorlds)) = (omega arith, refl)
listed (Refused (Own OfAudit)) = (omega arith, refl)
listed (Refused TooFewWords) = (omega arith, refl)

pub is_status : (end : Status) → IsStatus (code_of end)
is_status end = (listed end).0

-- no two ends have one exit status
pub same_end : (one other : Status) → code_of one ≡ code_of other → one ≡ other
same_end one other e = sym (listed one).1 ∙ ap (λ n. get_or ends n Done) e ∙ (listed other).1

pub done_end : (end : Status) → IsDoneCode (code_of end) → IsDone end
done_end end (inl e) = inl (same_end end Done e)
done_end end (inr e) = inr (same_end end MasksSpent e)

-- what is refused is not done
pub not_done : (refusal : Refusal) → IsDone (Refused refusal) → ⊥
not_done refusal (inl e) = cc
not_done refusal (inr e) = cc
