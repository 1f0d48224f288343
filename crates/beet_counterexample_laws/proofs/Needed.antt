-- Without a premise a law is false.
use Rattle.std.proofs.Common.{◌≡◌, ◌≤◌, ◌<◌, ◌+◌, ◌++◌, inl, inr, ℕ, List, [], ◌∷◌, Bool, true, false}
use Rattle.std.proofs.Common.{if◌then◌else◌, length, Option, Some, None, Ok, Err, refl, sym, ap, subst, ◌∙◌, arith}
use Rattle.std.proofs.Common.{length-append}
use Rattle.beet_store.specs.Desks.{DeskCall, DeskTold}
use Rattle.beet_store.specs.Files.{Fetch, File, Told}
use Rattle.beet_store.specs.declared.desk.PutFault.TheVariants.{Failed}
use Rattle.beet_bids.specs.declared.auction_file.TheConstants.{AUCTION_LIMIT}
use Rattle.beet_errand.specs.Errands.{Answer, Errand, Ends, Wants, bad_file, refuses, text_answer, too_long}
use Rattle.beet_errand.specs.Fetches.{Leads}
use Rattle.beet_errand.specs.Records.{calls_of}
use Rattle.beet_errand.specs.Runs.{EndsBy, Runs}
use Rattle.beet_errand.specs.Statuses.{code_of}
use Rattle.beet_errand.specs.Texts.{usage_text}
use Rattle.beet_errand.specs.declared.answer.Refusal.TheVariants.{Usage, ReadFault}
use Rattle.beet_errand.specs.declared.answer.Status.TheVariants.{Refused}
use Rattle.beet_errand.proofs.Steps.{went_none}
use Rattle.beet_job_tally.specs.Tally.{tally_errand, tally_job}
use Rattle.beet_job_five_worlds.specs.Ending.{compared_errand as compared_for_two}
use Rattle.beet_job_worlds.specs.Ending.{compared_errand}
use Rattle.beet_job_audit.specs.Reading.{read_errand}
use Rattle.beet_command.specs.Words.{are_names}
use Rattle.beet_app.specs.Jobs.{Answering, Auditing, Comparing, ComparingForTwo, Job, job_of}
use Rattle.beet_app_laws.specs.Calls.{RunsJob, RunsJobOf}
use Rattle.beet_app_laws.specs.Dues.{EndsAsDue, IsDue}
use Rattle.beet_counterexample_laws.specs.Needed.{longer_call, short_call, tally_words, untold_call}
use Rattle.beet_app_laws.specs.Recorded.{RecordsJob}

above : AUCTION_LIMIT < AUCTION_LIMIT + 1
above = omega arith

-- words that pass a test name this job
named-job : (b : Bool) (job : Option Job) → b ≡ true → (if b then job else None) ≡ job
named-job true job e = refl
named-job false job e = absurd cc

other-end : EndsAsDue (Refused ReadFault) 5 → ⊥
other-end (inl e) = absurd (omega (arith, e))
other-end (inr (inl e)) = absurd (omega (arith, e))
other-end (inr (inr (inl e))) = absurd (omega (arith, e))
other-end (inr (inr (inr e))) = absurd (omega (arith, e))

module _ (auction book : List ℕ) where
  abbrev job : Option Job
  job = Some (Answering (tally_errand auction book))

  longer-runs : RunsJob job (longer_call auction)
  unfolding tally_job
  longer-runs = record {
    rest = bad_file auction too_long;
    went = record {
      fetches = (longer_call auction).shelf_now.fetches;
      recorded = refl;
      answered = (record { limited = above; held = tt }, tt);
      leads = (refl, refl, refl);
    };
    ends = inl (record { done = Ok tt; calls = record { recorded = refl; left = refl }; code = refl });
  }

  unread-due : IsDue [] job (Refused ReadFault)
  unfolding tally_job
  unread-due = refl

  -- where the answers are not of these files, another status may come than the one to which they lead
  pub longer : are_names (auction ∷ book ∷ []) ≡ true →
      RunsJobOf (tally_words auction book) (longer_call auction)
      × IsDue [] (job_of (tally_words auction book)) (Refused ReadFault)
      × (EndsAsDue (Refused ReadFault) (longer_call auction).status → ⊥)
  longer e =
      let is : job_of (tally_words auction book) ≡ job = named-job (are_names (auction ∷ book ∷ [])) job e in (
        subst (λ (j : Option Job). RunsJob j (longer_call auction)) (sym is) longer-runs,
        subst (λ (j : Option Job). IsDue [] j (Refused ReadFault)) (sym is) unread-due,
        other-end,
      )

-- memory may run out before anything is done
out-of-memory : (errand : Errand) (desk : DeskTold) → EndsBy errand desk desk 1
out-of-memory (Ends answer) desk = inr (record { code = refl; same = refl })
out-of-memory (Wants name limit next) desk = record { code = refl; same = refl }

short : (told : Told) (desk : DeskTold) (errand : Errand) → Runs errand told told desk desk 1
short told desk errand = record { rest = errand; went = went_none told errand; ends = out-of-memory errand desk }

short-job : (told : Told) (desk : DeskTold) (job : Option Job) → RunsJob job (short_call told desk)
short-job told desk None = short told desk (refuses Usage usage_text)
short-job told desk (Some (Answering errand)) = short told desk errand
short-job told desk (Some (Comparing auction servers first second s out)) =
    inr (λ next. short told desk (compared_errand auction servers first second s next))
short-job told desk (Some (ComparingForTwo auction servers first second two out)) =
    inr (λ next. short told desk (compared_for_two auction servers first second two.0 two.1 next))
short-job told desk (Some (Auditing auction one two three)) =
    inr (λ next. short told desk (read_errand auction one two three next))

-- an answer is given by one call at least
some-call : (files : List File) (text : List ℕ) → 1 ≤ length (calls_of files text)
some-call [] text = omega arith
some-call (file ∷ files) text = omega (arith, some-call files text)

no-more : (calls more : List DeskCall) → 1 ≤ length more → calls ≡ calls ++ more → ⊥
no-more calls more some e = omega (arith, some, ap length e, length-append calls more)

-- then nothing is recorded of an answer
pub memory : (words : List (List ℕ)) (told : Told) (desk : DeskTold) →
    RunsJobOf words (short_call told desk) × (RecordsJob (job_of words) (short_call told desk) → ⊥)
memory words told desk = (
  short-job told desk (job_of words),
  λ r. no-more desk.calls (calls_of r.answer.files r.answer.text) (some-call r.answer.files r.answer.text) r.calls,
)

usage-code : (fetches : List Fetch) (answer : Answer) → Leads fetches (refuses Usage usage_text) (Ends answer) →
    answer.status ≡ Refused Usage
usage-code [] answer e =
    let same : text_answer (Refused Usage) usage_text ≡ answer = cc in ap (λ (a : Answer). a.status) (sym same)
usage-code (fetch ∷ fetches) answer l = absurd l

-- the desk may take no line, and then it has not got the answer
pub write : (told : Told) → RunsJobOf [] (untold_call told) × (RecordsJob (job_of []) (untold_call told) → ⊥)
write told = (
  record {
    rest = refuses Usage usage_text;
    went = went_none told (refuses Usage usage_text);
    ends = inl (record { done = Err Failed; calls = record { recorded = refl; left = refl }; code = refl });
  },
  λ r. (let is : 4 ≡ 2 = r.code ∙ ap code_of (usage-code r.fetches r.answer r.leads) in absurd (omega (arith, is))),
)
