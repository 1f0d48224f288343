-- How the end of a job goes out.
use Rattle.std.proofs.Common.{◌≡◌, ◌≤◌, ◌⊎◌, inl, inr, ℕ, Result, Ok, Err, ap, arith}
use Rattle.beet_store.specs.Causes.{Rose}
use Rattle.beet_store.specs.Files.{Told}
use Rattle.beet_store.specs.Desks.{DeskSeen, DeskTold}
use Rattle.beet_errand.specs.Errands.{Answer, Errand, Ends, Wants, text_answer}
use Rattle.beet_errand.specs.Fetches.{Went, Finishes}
use Rattle.beet_errand.specs.Statuses.{code_of}
use Rattle.beet_errand.specs.declared.answer.Status.{Status}
use Rattle.beet_errand.specs.declared.answer.Status.TheVariants.{OutOfMemory as NoMemory, WriteFault, Refused as IsRefused}
use Rattle.beet_errand.specs.declared.answer.Stop.{Stop}
use Rattle.beet_errand.specs.declared.answer.Stop.TheVariants.{Refused, OutOfMemory}
use Rattle.beet_errand.specs.Runs.{Runs, RunsOut, EndsBy, AnswersBy, EndGoesOut}
use Rattle.beet_errand.proofs.Putting.{status_cases, left_or_told}

-- a run whose answer goes out
goes_out : (errand : Errand) (told told_now : Told) (old now : DeskSeen) (answer : Answer) (end : Status) →
    Went told told_now errand (Ends answer) → AnswersBy answer old now end →
    Runs errand told told_now old.told now.told (code_of end)
goes_out errand told told_now old now answer end went out = record {
  rest = Ends answer;
  went = went;
  ends = inl (record { done = out.done; calls = out.gives.calls; code = ap code_of out.status });
}

silent : (rest : Errand) (given now : DeskTold) (status : ℕ) → RunsOut given now status → EndsBy rest given now status
silent (Ends answer) given now status h = inr h
silent (Wants name limit next) given now status h = h

-- a run ends as its job does
pub runs_of : (errand : Errand) (told told_now : Told) (old now : DeskSeen) (job : Result Answer Stop) (end : Status) →
    Finishes told told_now errand job → EndGoesOut old now job end →
    Runs errand told told_now old.told now.told (code_of end)
runs_of errand told told_now old now (Ok answer) end went out = goes_out errand told told_now old now answer end went out
runs_of errand told told_now old now (Err (Refused refusal line)) end went out =
    goes_out errand told told_now old now (text_answer (IsRefused refusal) line.items) end went out
runs_of errand told told_now old now (Err OutOfMemory) end (rest, went) (e, same) = record {
  rest = rest;
  went = went;
  ends = silent rest old.told now.told (code_of end)
      (record { code = ap code_of e; same = ap (λ (seen : DeskSeen). seen.told) same });
}

-- the status that is due to a job
abbrev pub due_of : Result Answer Stop → Status
due_of (Ok answer) = answer.status
due_of (Err (Refused refusal line)) = IsRefused refusal
due_of (Err OutOfMemory) = NoMemory

-- the status of a run: what is due, a fault of the desk, or want of memory
pub end_cases : (old now : DeskSeen) (job : Result Answer Stop) (end : Status) → EndGoesOut old now job end →
    (end ≡ due_of job) ⊎ ((end ≡ WriteFault) × Rose old.faults now.faults) ⊎ (end ≡ NoMemory)
end_cases old now (Ok answer) end out = status_cases answer.status end old.faults now.faults out.done out.gives.cause out.status
end_cases old now (Err (Refused refusal line)) end out =
    status_cases (IsRefused refusal) end old.faults now.faults out.done out.gives.cause out.status
end_cases old now (Err OutOfMemory) end (e, same) = inl e

-- a run that does not end by a fault of the desk leaves its count as it was
pub desk_kept : (old now : DeskSeen) (job : Result Answer Stop) (end : Status) → EndGoesOut old now job end →
    (code_of end ≡ 4) ⊎ (now.faults ≡ old.faults)
desk_kept old now (Ok answer) end out =
    left_or_told answer.status end old.faults now.faults out.done out.gives.cause out.status
desk_kept old now (Err (Refused refusal line)) end out =
    left_or_told (IsRefused refusal) end old.faults now.faults out.done out.gives.cause out.status
desk_kept old now (Err OutOfMemory) end out = inr (ap (λ (seen : DeskSeen). seen.faults) out.1)

-- the count of faults of the desk never falls
pub later_end : (old now : DeskSeen) (job : Result Answer Stop) (end : Status) → EndGoesOut old now job end → old.faults ≤ now.faults
later_end old now (Ok answer) end out = out.gives.cause.later
later_end old now (Err (Refused refusal line)) end out = out.gives.cause.later
later_end old now (Err OutOfMemory) end out = let same = ap (λ (seen : DeskSeen). seen.faults) out.1 in omega (arith, same)
