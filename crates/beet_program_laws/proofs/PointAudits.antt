-- An audit of what `witness` has put tells what is wrong with the points, or that they are those of curves.
use Rattle.std.proofs.Common.{◌≡◌, ◌⊎◌, inl, inr, ◌∷◌, ℕ, List, [], Option, Some, None, append-nil}
use Rattle.std.proofs.Common.{arith, ap, sym, subst, ◌∙◌, refl}
use Rattle.beet_field.specs.Trio.{trio_of}
use Rattle.beet_field.specs.declared.point.Point.{Point}
use Rattle.beet_field.specs.declared.point.Point.TheVariants.{One, Two, Three}
use Rattle.beet_field.specs.declared.trio.Trio.{Trio}
use Rattle.beet_store.specs.Files.{File, bytes_of}
use Rattle.beet_forms.specs.Names.{is_name_of}
use Rattle.beet_forms.specs.declared.faults.TheConstants.{LONGEST_FILE}
use Rattle.beet_bids.specs.Grids.{Grid}
use Rattle.beet_view.specs.Transcripts.{view_bytes, view_in}
use Rattle.beet_view.specs.Views.{Viewed}
use Rattle.beet_errand.specs.Errands.{Answer, Ends, Errand, answers}
use Rattle.beet_errand.specs.Overs.{FromFiles, ReadsTo}
use Rattle.beet_errand.specs.Runs.{Runs}
use Rattle.beet_errand.specs.Statuses.{IsDoneCode, code_of}
use Rattle.beet_errand.specs.declared.answer.OwnRefusal.TheVariants.{OfAudit}
use Rattle.beet_errand.specs.declared.answer.Refusal.TheVariants.{Own}
use Rattle.beet_errand.specs.declared.answer.Status.{Status}
use Rattle.beet_errand.specs.declared.answer.Status.TheVariants.{Done, Refused}
use Rattle.beet_errand.proofs.Statuses.{not_done}
use Rattle.beet_errand.specs.Fetches.{IsDone}
use Rattle.beet_load.specs.Servers.{ServerWords}
use Rattle.beet_transcripts.specs.RunsOn.{view_of_points}
use Rattle.beet_gathering.specs.Opened.{opened_answer}
use Rattle.beet_audit.specs.declared.fault.AuditFault.{AuditFault}
use Rattle.beet_audit.proofs.OneRunFacts.{tells-finds}
use Rattle.beet_job_audit.specs.Ending.{ShowsAudit, TellsFinding}
use Rattle.beet_job_audit.specs.Reading.{read_errand}
use Rattle.beet_job_audit.specs.Refusals.{fault_text}
use Rattle.beet_job_audit.specs.declared.reading.ReadViews.{ReadViews}
use Rattle.beet_job_witness.specs.Witness.{witnessed_answer}
use Rattle.beet_witness_laws.specs.PointAudits.{AnswersPoints, FindsOfPoints, IsOfPoints, points_answer, views_of_points}
use Rattle.beet_witness_laws.specs.SealedCurves.{BidCurves, CanBeWitnessed}
use Rattle.beet_witness_laws.proofs.FittingPoints.{points-again, points-short}
use Rattle.beet_witness_laws.proofs.PointAudits.{answers-points, audit-alike, of-points, right-curves}
use Rattle.beet_command.specs.Words.{are_names}
use Rattle.beet_app.specs.Jobs.{Auditing, Job}
use Rattle.beet_app_laws.specs.Calls.{Call, IsOf, RunsJob, RunsJobOf, Says}
use Rattle.beet_app_laws.specs.Dues.{EndsAsDue}
use Rattle.beet_app_laws.specs.Held.{IsHeld}
use Rattle.beet_app_laws.proofs.Led.{past-both, read-to, run-led}
use Rattle.beet_app_laws.proofs.Telling.{one-value, told-views}
use Rattle.beet_program_laws.specs.Accepted.{AuditsPoints, IsAuditedByPoints, witness_words}
use Rattle.beet_program_laws.proofs.Accepted.{held-reads, stands-at, still-held}
use Rattle.beet_program_laws.proofs.Audits.{undone}
use Rattle.beet_program_laws.proofs.Ends.{WentOut, WentWhole, answer-whole, shown-ends}
use Rattle.beet_program_laws.proofs.Witnessing.{IsWitnessed, witnessed}

-- an end that is none of the answers: memory ran out, a file could not be fetched or a call of the desk failed
abbrev IsStopped : ℕ → Type 0
IsStopped status = (status ≡ 1) ⊎ (status ≡ 3) ⊎ (status ≡ 4)

-- an end that would be due in two ways is stopped
neither : (status : ℕ) → EndsAsDue Done status → EndsAsDue (Refused (Own OfAudit)) status → IsStopped status
neither status (inl e) (inl f) = absurd (omega (arith, e, f))
neither status (inl e) (inr stopped) = stopped
neither status (inr stopped) other = stopped

-- with status 8 a call is not stopped
not-stopped : (status : ℕ) → status ≡ 8 → IsStopped status → ⊥
not-stopped status e (inl f) = omega (arith, e, f)
not-stopped status e (inr (inl f)) = omega (arith, e, f)
not-stopped status e (inr (inr f)) = omega (arith, e, f)

-- nor is one done with it
not-done : (status : ℕ) → status ≡ 8 → IsDoneCode status → ⊥
not-done status e (inl f) = omega (arith, e, f)
not-done status e (inr f) = omega (arith, e, f)

module _ (grid : Grid) (bidders : List (Trio (List ℕ))) (words : Trio ServerWords) (can : CanBeWitnessed grid bidders words) where
  abbrev read : ReadViews
  read = views_of_points grid bidders words

  abbrev opened : Answer
  opened = opened_answer grid words bidders

  -- points of curves are not refused
  not-refused : BidCurves grid bidders → (fault : AuditFault) → FindsOfPoints grid bidders (Some fault) → ⊥
  not-refused curves fault finds =
      let alike = audit-alike grid bidders words can.enough in
      tells-finds grid read.views fault ((alike None).1 ((right-curves grid bidders words can).1 curves))
      ((alike (Some fault)).1 finds)

  -- a file with the bytes of a transcript reads to its view
  transcript-held : (held : List File) (name : List ℕ) (s : Point) →
      bytes_of held name ≡ Some (view_bytes (view_of_points grid bidders words s)) →
      IsHeld held name LONGEST_FILE view_in (view_of_points grid bidders words s)
  transcript-held held name s e = record {
    bytes = view_bytes (view_of_points grid bidders words s);
    held = e;
    short = points-short grid bidders words can s;
    is = points-again grid bidders words can s;
  }

  module _ (files : List File) (call : Call) (from : IsOf files call) (name one two three : List ℕ)
      (reads : ReadsTo files (read_errand name one two three) read) where
    abbrev Ended : Type 0
    Ended = (call.status ≡ code_of opened.status) ⊎ (call.status ≡ 8) ⊎ IsStopped call.status

    abbrev Faulty : Type 0
    Faulty = (fault : AuditFault) × IsOfPoints fault × FindsOfPoints grid bidders (Some fault) × Says call (fault_text fault)

    abbrev Right : Type 0
    Right = BidCurves grid bidders × Says call opened.text

    -- an answer that shows tells what is found of the points
    tells : (answer : Answer) → ShowsAudit name one two three call.shelf call.shelf_now answer → AnswersPoints grid bidders words answer
    tells answer shows =
        let same : shows.value ≡ read =
        one-value files (read_errand name one two three) shows.value read
        (read-to files call.shelf call.shelf_now from (read_errand name one two three) shows.value shows.read) reads told-views in
        answers-points grid bidders words can answer (subst (λ (v : ReadViews). TellsFinding v answer) same shows.shown)

    -- a run that reads and shows nothing is stopped
    stopped : ((next : ReadViews → Errand) → Runs (read_errand name one two three next) call.shelf call.shelf_now call.desk
        call.desk_now call.status) → IsStopped call.status
    stopped f =
        let ends : (due : Status) → EndsAsDue due call.status = λ due.
        run-led files call.shelf call.shelf_now from (read_errand name one two three (λ v. answers due [])) call.desk call.desk_now
        call.status due (ap (λ (a : Answer). a.status) (sym (reads (λ v. answers due [])))) (f (λ v. answers due [])) in
        neither call.status (ends Done) (ends (Refused (Own OfAudit)))

    -- nothing was fetched after the answer was there
    rests : FromFiles files call.shelf_now call.shelf_now
    rests = record { fetches = []; recorded = sym (append-nil call.shelf_now.fetches); answered = tt }

    ended-by : (found : Option AuditFault) → EndsAsDue (points_answer grid bidders words found).status call.status → Ended
    ended-by None (inl e) = inl e
    ended-by None (inr stopped) = inr (inr stopped)
    ended-by (Some fault) (inl e) = inr (inl e)
    ended-by (Some fault) (inr stopped) = inr (inr stopped)

    ended : RunsJob (Some (Auditing name one two three)) call → Ended
    ended (inl (answer, shows, r)) =
        let t = tells answer shows in
        ended-by t.found
        (subst (λ (a : Answer). EndsAsDue a.status call.status) t.is
        (run-led files call.shelf_now call.shelf_now rests (Ends answer) call.desk call.desk_now call.status answer.status refl r))
    ended (inr f) = inr (inr (stopped f))

    right-by : (answer : Answer) → WentOut answer call → (found : Option AuditFault) → FindsOfPoints grid bidders found →
        answer ≡ points_answer grid bidders words found → Right
    right-by answer put None finds is = (
      (right-curves grid bidders words can).0 finds,
      (subst (λ (a : Answer). WentOut a call) is put).calls,
    )
    right-by answer put (Some fault) finds is =
        absurd (not_done (Own OfAudit) (subst (λ (a : Answer). IsDone a.status) is put.done))

    -- an audit that is done has found curves
    right : IsDoneCode call.status → RunsJob (Some (Auditing name one two three)) call → Right
    right w r =
        shown-ends files call from w {C = Right} OfAudit (read_errand name one two three) (ShowsAudit name one two three)
        (undone files name one two three) (λ answer shows put.
        let t = tells answer shows in right-by answer put t.found t.finds t.is) r

    faulty-by : IsDoneCode (code_of opened.status) → call.status ≡ 8 → (answer : Answer) → WentWhole answer call →
        (found : Option AuditFault) → FindsOfPoints grid bidders found → answer ≡ points_answer grid bidders words found → Faulty
    faulty-by done e answer put None finds is =
        let code : code_of opened.status ≡ 8 = ap (λ (a : Answer). code_of a.status) (sym is) ∙ sym put.code ∙ e in
        absurd (not-done (code_of opened.status) code done)
    faulty-by done e answer put (Some fault) finds is = (
      fault,
      of-points grid bidders fault finds,
      finds,
      (subst (λ (a : Answer). WentWhole a call) is put).calls,
    )

    -- and one that is refused has found the first bidder of no curve
    faulty : IsDoneCode (code_of opened.status) → RunsJob (Some (Auditing name one two three)) call → call.status ≡ 8 → Faulty
    faulty done (inl (answer, shows, r)) e =
        let t = tells answer shows in
        let put = answer-whole answer call (λ f. absurd (omega (arith, e, f))) (λ f. absurd (omega (arith, e, f))) r in
        faulty-by done e answer put t.found t.finds t.is
    faulty done (inr f) e = absurd (not-stopped call.status e (stopped f))

    audits : IsDoneCode (code_of opened.status) → RunsJob (Some (Auditing name one two three)) call →
        AuditsPoints grid bidders (code_of opened.status) opened.text call
    audits done r = record {
      ends = ended r;
      accepted = λ e. right (subst IsDoneCode (sym e) done) r;
      refused = λ e. faulty done r e;
      curves = λ curves e. let f = faulty done r e in not-refused curves f.0 f.2;
    }

module _ (files : List File) (call : Call) (from : IsOf files call) (w : IsDoneCode call.status)
    (auction servers list out : List ℕ) where
  audited-by : (answer : Answer) → IsWitnessed files auction servers list out answer → WentOut answer call →
      IsAuditedByPoints files auction servers list out call
  audited-by answer t o =
      let grid = t.read.grid.value in
      let bidders = t.read.bidders.value in
      let words = t.read.words.value.servers in
      let view : Point → Viewed = view_of_points grid bidders words in
      let seen : Trio (List ℕ) = trio_of (λ s. view_bytes (view s)) in
      let told : Answer = witnessed_answer out grid words bidders in
      let put : WentOut told call = subst (λ (a : Answer). WentOut a call) t.is o in
      record {
        read = t.read;
        audits = record {
          transcripts = seen;
          text = told.text;
          gives = put.calls;
          stand = stands-at out seen told.text call.desk call.desk_now put.calls;
          audited = λ held audit name one two three r not from' ran.
              (let reads = held-reads held name one two three grid view
              (still-held files held auction name grid t.grid_held r.auction_file)
              (transcript-held grid bidders words t.limits held one One r.first)
              (transcript-held grid bidders words t.limits held two Two r.second)
              (transcript-held grid bidders words t.limits held three Three r.third) in
              let job = past-both (are_names (name ∷ one ∷ three ∷ [])) (is_name_of two) (Some (Auditing name one two three)) not in
              subst (λ (n : ℕ). AuditsPoints grid bidders n told.text audit) (sym put.code)
              (audits grid bidders words t.limits held audit from' name one two three reads (subst IsDoneCode put.code w)
              (subst (λ (j : Option Job). RunsJob j audit) job ran)));
        };
      }

  pub audited : RunsJobOf (witness_words auction servers list out) call → IsAuditedByPoints files auction servers list out call
  audited ran = let f = witnessed files call from w auction servers list out ran in audited-by f.value f.holds f.out
