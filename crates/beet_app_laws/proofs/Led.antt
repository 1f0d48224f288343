-- The status to which files lead.
use Rattle.std.proofs.Common.{◌≡◌, ◌≢◌, ◌⊎◌, inl, inr, ℕ, List, [], ◌∷◌, Option, Some, None, Ok, Err, length}
use Rattle.std.proofs.Common.{Bool, true, false, if◌then◌else◌, arith, ap, sym, subst, ◌∙◌, refl}
use Rattle.std.specs.Prelude.{IsSomeAnd, MatchOption}
use Rattle.std.proofs.lemmas.List.{append_cancel_left}
use Rattle.beet_field.specs.declared.point.Point.{Point}
use Rattle.beet_store.specs.Files.{Answers, Bytes, Fetch, FetchAnswer, File, FitsLimit, Longer, Nothing, Told, bytes_of}
use Rattle.beet_store.specs.Desks.{DeskTold, Done}
use Rattle.beet_store.specs.declared.desk.PutFault.TheVariants.{Failed, OutOfMemory as NoMemoryToPut}
use Rattle.beet_auction.specs.Endings.{book_finish}
use Rattle.beet_errand.specs.Errands.{Answer, Errand, Ends, Step, Wants, after_answer, answers, bad_file, refuses}
use Rattle.beet_errand.specs.Errands.{text_answer, too_long, unread}
use Rattle.beet_errand.specs.Fetches.{AreAnswered, IsAnswered, IsDone, IsRead, Leads, Went}
use Rattle.beet_errand.specs.Overs.{FromFiles, ReadsTo, answer_over, answer_with}
use Rattle.beet_errand.specs.Runs.{EndsBy, Runs, status_after}
use Rattle.beet_errand.specs.Tasks.{RunsTask, Shows, ShowsRead, ToShow}
use Rattle.beet_load.proofs.Farming.{lt_false, lt_true}
use Rattle.beet_errand.specs.Statuses.{code_of}
use Rattle.beet_errand.specs.Texts.{read_fault_text, usage_text}
use Rattle.beet_errand.specs.declared.answer.Status.{Status}
use Rattle.beet_errand.specs.declared.answer.OwnRefusal.{OwnRefusal}
use Rattle.beet_errand.specs.declared.answer.OwnRefusal.TheVariants.{OfWorlds, OfAudit}
use Rattle.beet_errand.specs.declared.answer.Refusal.TheVariants.{Usage, ReadFault}
use Rattle.beet_errand.specs.declared.answer.Status.TheVariants.{Done as JobDone, Refused}
use Rattle.beet_errand.proofs.Statuses.{not_done}
use Rattle.beet_errand.proofs.Steps.{at_end}
use Rattle.beet_run.proofs.StatusFacts.{status-done}
use Rattle.beet_audit.specs.OneRuns.{OneRun}
use Rattle.beet_audit.specs.declared.fault.AuditFault.{AuditFault}
use Rattle.beet_job_audit.specs.Ending.{ShowsAudit, TellsFinding, audit_answer}
use Rattle.beet_job_audit.specs.Reading.{read_errand}
use Rattle.beet_job_audit.specs.declared.reading.ReadViews.{ReadViews}
use Rattle.beet_two_books.specs.declared.agreeing.MapFault.{MapFault}
use Rattle.beet_job_worlds.specs.Answering.{ShowsTheSame}
use Rattle.beet_book_differences.specs.Differences.{refused_text}
use Rattle.beet_job_worlds.specs.Ending.{ShowsWorlds, compared_errand, difference_read}
use Rattle.beet_job_worlds.specs.Reading.{Both, both_errand, first_book, second_book, words_read}
use Rattle.beet_job_worlds.proofs.DifferenceFacts.{no-difference}
use Rattle.beet_coalition.specs.Lists.{at_server}
use Rattle.beet_differences.specs.Comparing.{compared, unless_apart}
use Rattle.beet_five_auction.specs.FiveEndings.{book_finish as five_finish}
use Rattle.beet_job_five_worlds.specs.Answering.{ShowsTheSameForTwo}
use Rattle.beet_job_five_worlds.specs.Ending.{ShowsFiveWorlds, compared_errand as compared_for_two, difference_for_two}
use Rattle.beet_job_five_worlds.specs.Reading.{BothOfFive, both_errand as both_of_five, second_book as second_of_five}
use Rattle.beet_job_five_worlds.proofs.DifferenceForTwo.{no-difference as none-for-two}
use Rattle.beet_app.specs.Jobs.{Job, Answering, Comparing, ComparingForTwo, Auditing, job_of}
use Rattle.beet_app_laws.specs.Calls.{Call, IsOf, RunsJob, RunsJobOf}
use Rattle.beet_app_laws.specs.Dues.{EndsAsDue, IsDue, IsDueOfAudit, IsDueOfViews, status_of_first, status_of_first_of_five}

module _ (files : List File) where
  -- an answer of these files leads on to the same answer
  answer-on : (name : List ℕ) (limit : ℕ) (next : List ℕ → Errand) (answer : FetchAnswer) → answer ≢ Nothing →
      FitsLimit limit answer → Answers (bytes_of files name) answer →
      answer_over files (Wants name limit next) ≡ answer_over files (after_answer name next answer)
  answer-on name limit next (Bytes bytes) some fits held = rw (held, lt_false limit (length bytes) fits) refl
  answer-on name limit next (Longer n) some fits held = longer (bytes_of files name) held where
    longer : (h : Option (List ℕ)) → IsSomeAnd h (λ bytes. length bytes ≡ n) →
        answer_with name limit (λ bytes. answer_over files (next bytes)) h ≡ answer_over files (bad_file name too_long)
    longer None e = absurd e
    longer (Some bytes) e = rw (lt_true limit (length bytes) (omega (arith, e, fits))) refl
  answer-on name limit next Nothing some fits held = absurd (some refl)

  fetched : (name : List ℕ) (limit : ℕ) (next : List ℕ → Errand) (got : FetchAnswer) (answer : Answer) →
      FitsLimit limit got → Answers (bytes_of files name) got →
      (answer.status ≡ Refused ReadFault) ⊎ (answer_over files (after_answer name next got) ≡ answer) →
      (answer.status ≡ Refused ReadFault) ⊎ (answer_over files (Wants name limit next) ≡ answer)
  fetched name limit next got answer fits held (inl e) = inl e
  fetched name limit next (Bytes bytes) answer fits held (inr e) =
      inr (answer-on name limit next (Bytes bytes) (λ e. absurd cc) fits held ∙ e)
  fetched name limit next (Longer n) answer fits held (inr e) =
      inr (answer-on name limit next (Longer n) (λ e. absurd cc) fits held ∙ e)
  fetched name limit next Nothing answer fits held (inr e) = inl (ap (λ (a : Answer). a.status) (sym e))

  -- what is known of a fetch of this name and limit
  fits-of : (fetch : Fetch) (limit : ℕ) → fetch.limit ≡ limit → IsAnswered (Some files) fetch →
      FitsLimit limit fetch.answer
  fits-of fetch limit e a = subst (λ l. FitsLimit l fetch.answer) e a.limited

  held-of : (fetch : Fetch) (name : List ℕ) → fetch.name ≡ name → IsAnswered (Some files) fetch →
      Answers (bytes_of files name) fetch.answer
  held-of fetch name e a = subst (λ n. Answers (bytes_of files n) fetch.answer) e a.held

  -- fetches lead to the answer over the files, or one of them failed
  pub lead-end : (fetches : List Fetch) (errand : Errand) (answer : Answer) → AreAnswered (Some files) fetches →
      Leads fetches errand (Ends answer) →
      (answer.status ≡ Refused ReadFault) ⊎ (answer_over files errand ≡ answer)
  lead-end [] (Ends end) answer a e = let same : end ≡ answer = cc in inr same
  lead-end [] (Wants name limit next) answer a e = absurd cc
  lead-end (fetch ∷ fetches) (Ends end) answer a l = absurd l
  lead-end (fetch ∷ fetches) (Wants name limit next) answer a l =
      fetched name limit next fetch.answer answer (fits-of fetch limit l.1 a.0) (held-of fetch name l.0 a.0)
      (lead-end fetches (after_answer name next fetch.answer) answer a.1 l.2)

  -- no fetch failed
  abbrev NoneFailed : List Fetch → Type 0
  NoneFailed [] = Unit {0}
  NoneFailed (fetch ∷ fetches) = (fetch.answer ≢ Nothing) × NoneFailed fetches

  unread-end : (fetches : List Fetch) (name : List ℕ) (answer : Answer) → Leads fetches (unread name) (Ends answer) →
      answer.status ≡ Refused ReadFault
  unread-end [] name answer e = let same : text_answer (Refused ReadFault) (read_fault_text name) ≡ answer = cc in
      ap (λ (a : Answer). a.status) (sym same)
  unread-end (fetch ∷ fetches) name answer l = absurd l

  got-some : (fetches : List Fetch) (name : List ℕ) (next : List ℕ → Errand) (got : FetchAnswer) (answer : Answer) →
      answer.status ≢ Refused ReadFault →
      Leads fetches (after_answer name next got) (Ends answer) → got ≢ Nothing
  got-some fetches name next got answer ne l e =
      ne (unread-end fetches name answer (subst (λ g. Leads fetches (after_answer name next g) (Ends answer)) e l))

  none-failed : (fetches : List Fetch) (errand : Errand) (answer : Answer) → answer.status ≢ Refused ReadFault →
      Leads fetches errand (Ends answer) → NoneFailed fetches
  none-failed [] errand answer ne l = tt
  none-failed (fetch ∷ fetches) (Ends end) answer ne l = absurd l
  none-failed (fetch ∷ fetches) (Wants name limit next) answer ne l = (
    got-some fetches name next fetch.answer answer ne l.2,
    none-failed fetches (after_answer name next fetch.answer) answer ne l.2,
  )

  -- fetches of which none failed lead to an errand with the same answer
  lead-over : (fetches : List Fetch) (errand rest : Errand) → NoneFailed fetches → AreAnswered (Some files) fetches →
      Leads fetches errand rest →
      answer_over files errand ≡ answer_over files rest
  lead-over [] errand rest n a e = ap (answer_over files) e
  lead-over (fetch ∷ fetches) (Ends end) rest n a l = absurd l
  lead-over (fetch ∷ fetches) (Wants name limit next) rest n a l =
      answer-on name limit next fetch.answer n.0 (fits-of fetch limit l.1 a.0) (held-of fetch name l.0 a.0)
      ∙ lead-over fetches (after_answer name next fetch.answer) rest n.1 a.1 l.2

  -- where a shelf tells its files, its answers are of them
  pub from-told : (old now : Told) (errand rest : Errand) → old.files ≡ Some files → Went old now errand rest →
      FromFiles files old now
  from-told old now errand rest e w = record {
    fetches = w.fetches;
    recorded = ap (λ (t : Told). t.fetches) w.recorded;
    answered = subst (λ f. AreAnswered f w.fetches) e w.answered;
  }

  module _ (old now : Told) (from : FromFiles files old now) where
    same-fetches : (errand rest : Errand) (w : Went old now errand rest) → from.fetches ≡ w.fetches
    same-fetches errand rest w = append_cancel_left old.fetches from.fetches w.fetches
        (sym from.recorded ∙ ap (λ (t : Told). t.fetches) w.recorded)

    pub of-files : (errand rest : Errand) (w : Went old now errand rest) → AreAnswered (Some files) w.fetches
    of-files errand rest w = subst (AreAnswered (Some files)) (same-fetches errand rest w) from.answered

    -- a way to an end leads to the answer over the files, or a fetch failed
    pub went-end : (errand : Errand) (answer : Answer) → Went old now errand (Ends answer) →
        (answer.status ≡ Refused ReadFault) ⊎ (answer_over files errand ≡ answer)
    went-end errand answer w = lead-end w.fetches errand answer (of-files errand (Ends answer) w) w.leads

    -- what is read of the files is what they read to
    pub read-to : {A : Type 0} (step : Step A) (value : A) →
        ((next : A → Errand) → Went old now (step next) (next value)) → ReadsTo files step value
    read-to step value are next =
        let w = are next in
        let v = are (λ value. answers JobDone []) in
        let same = sym (same-fetches _ _ v) ∙ same-fetches _ _ w in
        lead-over w.fetches _ _ (subst NoneFailed same
        (none-failed v.fetches _ (text_answer JobDone []) (λ e. absurd cc) v.leads)) (of-files _ _ w) w.leads

ended : (status : ℕ) (due : Status) (answer : Answer) (done : Done) →
    (answer.status ≡ Refused ReadFault) ⊎ (due ≡ answer.status) →
    status ≡ code_of (status_after answer.status done) → EndsAsDue due status
ended status due answer (Ok tt) (inl unread) e = inr (inr (inl (e ∙ ap code_of unread)))
ended status due answer (Ok tt) (inr is) e = inl (e ∙ ap code_of (sym is))
ended status due answer (Err Failed) led e = inr (inr (inr e))
ended status due answer (Err NoMemoryToPut) led e = inr (inl e)

led-by : (due : Status) (answer : Answer) (over : Answer) → due ≡ over.status →
    (answer.status ≡ Refused ReadFault) ⊎ (over ≡ answer) →
    (answer.status ≡ Refused ReadFault) ⊎ (due ≡ answer.status)
led-by due answer over is (inl e) = inl e
led-by due answer over is (inr e) = inr (is ∙ ap (λ (a : Answer). a.status) e)

runs-led : (files : List File) (told told_now : Told) (from : FromFiles files told told_now) (errand rest : Errand)
    (desk now : DeskTold) (status : ℕ) (due : Status) →
    due ≡ (answer_over files errand).status → Went told told_now errand rest → EndsBy rest desk now status →
    EndsAsDue due status
runs-led files told told_now from errand (Ends answer) desk now status due is went (inl out) =
    ended status due answer out.done
    (led-by due answer (answer_over files errand) is (went-end files told told_now from errand answer went)) out.code
runs-led files told told_now from errand (Ends answer) desk now status due is went (inr out) = inr (inl out.code)
runs-led files told told_now from errand (Wants name limit next) desk now status due is went out = inr (inl out.code)

-- a run of an errand ends with the status to which its files lead
pub run-led : (files : List File) (told told_now : Told) (from : FromFiles files told told_now) (errand : Errand)
    (desk now : DeskTold) (status : ℕ) (due : Status) →
    due ≡ (answer_over files errand).status → Runs errand told told_now desk now status → EndsAsDue due status
run-led files told told_now from errand desk now status due is r =
    runs-led files told told_now from errand r.rest desk now status due is r.went r.ends

end-led : (told told_now : Told) (answer : Answer) (given now : DeskTold) (status : ℕ) (due : Status) →
    due ≡ answer.status →
    Runs (Ends answer) told told_now given now status → EndsAsDue due status
end-led told told_now answer given now status due is r =
    go (subst (λ e. EndsBy e given now status) (sym (at_end told told_now answer r.rest r.went)) r.ends) where
      go : EndsBy (Ends answer) given now status → EndsAsDue due status
      go (inl out) = ended status due answer out.done (inr is) out.code
      go (inr out) = inr (inl out.code)

-- words that name a job pass the test before it
pub past : (b : Bool) (job : Option Job) → (if b then job else None) ≢ None → (if b then job else None) ≡ job
past true job not = refl
past false job not = absurd (not refl)

-- and two tests, one after the other
pub past-both : (b c : Bool) (job : Option Job) → (if b then if c then job else None else None) ≢ None →
    (if b then if c then job else None else None) ≡ job
past-both true c job not = past c job not
past-both false c job not = absurd (not refl)

-- books without a difference go on together
pub passed : (difference : Option MapFault) (next : Errand) (P : Errand → Type 0) → difference ≡ None →
    P (unless_apart refused_text difference next) → P next
passed None next P e h = h
passed (Some fault) next P e h = absurd cc

-- two worlds are read and compared, and they go on to this status of a run
module _ {A : Type 0} (step : Step A) (difference : A → Option MapFault) (end : A → Status)
    (ends : (both : A) → IsDone (end both)) (files : List File) (told told_now : Told)
    (from : FromFiles files told told_now) where
  abbrev after_both : A → Errand
  after_both both = answers (end both) []

  -- if there is no difference between them, that is the status of an answer that shows them
  worlds-due : (both : A) (answer : Answer) (due : Status) → IsRead told told_now step both → difference both ≡ None →
      answer.status ≡ end both → due ≡ (answer_over files (compared refused_text difference step after_both)).status →
      due ≡ answer.status
  worlds-due both answer due read none is-end is =
      go (went-end files told told_now from _ (text_answer (end both) []) went) where
        went : Went told told_now (compared refused_text difference step after_both) (after_both both)
        went = passed (difference both) (after_both both)
            (Went told told_now (compared refused_text difference step after_both)) none
            (read (λ both. unless_apart refused_text (difference both) (after_both both)))

        go : (end both ≡ Refused ReadFault)
            ⊎ (answer_over files (compared refused_text difference step after_both) ≡ text_answer (end both) []) →
            due ≡ answer.status
        go (inl e) = absurd (not_done ReadFault (subst IsDone e (ends both)))
        go (inr e) = is ∙ ap (λ (a : Answer). a.status) e ∙ sym is-end

module _ (auction one two three : List ℕ) (files : List File) (told told_now : Told)
    (from : FromFiles files told told_now) where
  views-due : (read : ReadViews) (found : Option AuditFault) (due : Status) →
      MatchOption found (OneRun read.grid read.views) (λ fault. OneRun read.grid read.views → ⊥) →
      IsDueOfViews read due → due ≡ (audit_answer read found).status
  views-due read None due o (inl (is, e)) = e
  views-due read None due o (inr (not, e)) = absurd (not o)
  views-due read (Some fault) due o (inl (is, e)) = absurd (o is)
  views-due read (Some fault) due o (inr (not, e)) = e

  audit-due : (read : ReadViews) (answer : Answer) (due : Status) →
      IsRead told told_now (read_errand auction one two three) read →
      TellsFinding read answer → IsDueOfAudit files auction one two three due → due ≡ answer.status
  audit-due read answer due is w d =
      views-due read w.found due w.one_run
      (d.views read (read-to files told told_now from (read_errand auction one two three) read is))
      ∙ sym (ap (λ (a : Answer). a.status) w.is)

module _ (files : List File) (call : Call) (from : IsOf files call) (due : Status) where
  -- a job that shows, where its answer has what is due
  pub shows-led : {A : Type 0} (own : OwnRefusal) (step : Step A) (shows : Shows) (next : A → Errand) →
      due ≡ (answer_over files (step next)).status →
      ((answer : Answer) → shows call.shelf call.shelf_now answer → due ≡ answer.status) →
      RunsTask (ToShow own step shows) call.shelf call.shelf_now call.desk call.desk_now call.status →
      EndsAsDue due call.status
  shows-led own step shows next is shown (inl (answer, shows', r)) =
      end-led call.shelf_now call.shelf_now answer call.desk call.desk_now call.status due (shown answer shows') r
  shows-led own step shows next is shown (inr f) =
      run-led files call.shelf call.shelf_now from (step next) call.desk call.desk_now call.status due is (f next)

  job-led : (job : Option Job) → RunsJob job call → IsDue files job due → EndsAsDue due call.status
  job-led None r is =
      run-led files call.shelf call.shelf_now from (refuses Usage usage_text) call.desk call.desk_now call.status due is r
  job-led (Some (Answering errand)) r is =
      run-led files call.shelf call.shelf_now from errand call.desk call.desk_now call.status due is r
  job-led (Some (Comparing auction servers first second s out)) r is =
      shows-led OfWorlds (compared_errand auction servers first second s)
      (ShowsWorlds auction servers first second s out) (λ both. answers (status_of_first both) []) is
      (λ answer w. worlds-due (both_errand auction servers first second) (difference_read s) status_of_first
      (λ both. status-done (book_finish (first_book both) (words_read both).masks)) files call.shelf call.shelf_now from
      w.value answer due w.read (no-difference s (first_book w.value) (second_book w.value) w.shown.agree)
      (ap (λ (a : Answer). a.status) w.shown.is) is) r
  job-led (Some (ComparingForTwo auction servers first second two out)) r is =
      shows-led OfWorlds (compared_for_two auction servers first second two.0 two.1)
      (ShowsFiveWorlds auction servers first second two.0 two.1 out) (λ both. answers (status_of_first_of_five both) []) is
      (λ answer w. worlds-due (both_of_five auction servers first second)
      (λ (both : BothOfFive). difference_for_two two.0 two.1 both.first.book (second_of_five both)) status_of_first_of_five
      (λ both. status-done (five_finish both.first.book (at_server both.first.words.masks))) files call.shelf
      call.shelf_now from w.value answer due w.read
      (none-for-two two.0 two.1 w.value.first.book (second_of_five w.value) w.shown.agree)
      (ap (λ (a : Answer). a.status) w.shown.is) is) r
  job-led (Some (Auditing auction one two three)) r is =
      shows-led OfAudit (read_errand auction one two three) (ShowsAudit auction one two three)
      (λ read. answers due []) is.read
      (λ answer w. audit-due auction one two three files call.shelf call.shelf_now from w.value answer due
      w.read w.shown is) r

pub led : (words : List (List ℕ)) (files : List File) (call : Call) (due : Status) →
    IsOf files call → RunsJobOf words call → IsDue files (job_of words) due → EndsAsDue due call.status
led words files call due from r is = job-led files call from due (job_of words) r is

module _ (files : List File) (call : Call) (e : call.shelf.files ≡ Some files) where
  -- a job that shows: any answer stands for what comes after the step that it reads by
  shows-from : {A B : Type 0} (own : OwnRefusal) (step : Step A) (read : Step B) (shows : B → Answer → Type 0) →
      RunsTask (ToShow own step (ShowsRead read shows)) call.shelf call.shelf_now call.desk call.desk_now call.status →
      IsOf files call
  shows-from own step read shows (inl (answer, shown, r)) =
      from-told files call.shelf call.shelf_now _ _ e (shown.read (λ value. answers JobDone []))
  shows-from own step read shows (inr f) = from-told files call.shelf call.shelf_now _ _ e (f (λ value. answers JobDone [])).went

  job-from : (job : Option Job) → RunsJob job call → IsOf files call
  job-from None r = from-told files call.shelf call.shelf_now _ _ e r.went
  job-from (Some (Answering errand)) r = from-told files call.shelf call.shelf_now _ _ e r.went
  job-from (Some (Comparing auction servers first second s out)) r =
      shows-from OfWorlds (compared_errand auction servers first second s) (both_errand auction servers first second)
      (λ both answer. ShowsTheSame s out (first_book both) (words_read both) (second_book both) answer) r
  job-from (Some (ComparingForTwo auction servers first second two out)) r =
      shows-from OfWorlds (compared_for_two auction servers first second two.0 two.1)
      (both_of_five auction servers first second)
      (λ both answer. ShowsTheSameForTwo two.0 two.1 out both.first (second_of_five both) answer) r
  job-from (Some (Auditing auction one two three)) r =
      shows-from OfAudit (read_errand auction one two three) (read_errand auction one two three) TellsFinding r

-- over a shelf that tells its files, the answers of a run are of them
pub told-from : (words : List (List ℕ)) (files : List File) (call : Call) → call.shelf.files ≡ Some files →
    RunsJobOf words call → IsOf files call
told-from words files call e r = job-from files call e (job_of words) r
