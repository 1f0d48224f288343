-- An audit accepts what a recorded run has put.
use Rattle.std.proofs.Common.{◌≡◌, ◌≢◌, ◌⊎◌, inl, inr, ◌≤◌, ◌+◌, ◌*◌, ◌++◌, ℕ, List, [], ◌∷◌, length, get_or, not}
use Rattle.std.proofs.Common.{Option, Some, None, Ok, decimal, if◌then◌else◌, refl, sym, ap, subst, ◌∙◌}
use Rattle.std.proofs.Common.{arith}
use Rattle.std.specs.Prelude.{MatchOption, codes}
use Rattle.std.proofs.lemmas.Fmt.{decimal_digit}
use Rattle.std.proofs.lemmas.List.{append_cancel_left, length-map}
use Rattle.beet_field.specs.Point.{number_of as number_at_point}
use Rattle.beet_field.specs.Trio.{trio_of}
use Rattle.beet_field.specs.declared.point.Point.{Point}
use Rattle.beet_field.specs.declared.point.Point.TheVariants.{One, Two, Three}
use Rattle.beet_field.specs.declared.trio.Trio.{Trio}
use Rattle.beet_store.specs.Files.{File, bytes_of}
use Rattle.beet_store.specs.Desks.{DeskTold, Given}
use Rattle.beet_forms.specs.Names.{is_name_of}
use Rattle.beet_forms.specs.declared.faults.TheConstants.{LONGEST_FILE}
use Rattle.beet_words.specs.Bundles.{AreWords, Words}
use Rattle.beet_bids.specs.AuctionFiles.{auction_of}
use Rattle.beet_bids.specs.Books.{Book, IsBook}
use Rattle.beet_bids.specs.Grids.{Grid, IsGrid}
use Rattle.beet_bids.specs.declared.auction_file.TheConstants.{AUCTION_LIMIT}
use Rattle.beet_book.specs.Farmers.{BidderWithWords}
use Rattle.beet_book.specs.declared.book_file.TheConstants.{MOST_PRODUCT}
use Rattle.beet_auction.specs.Endings.{book_finish, book_rounds}
use Rattle.beet_view.specs.BookViews.{transcript_of_book, view_for}
use Rattle.beet_view.specs.Transcripts.{view_bytes, view_in}
use Rattle.beet_view.specs.Views.{Viewed}
use Rattle.beet_errand.specs.Errands.{Answer, Errand, answers, file_for, reads}
use Rattle.beet_errand.specs.Statuses.{IsDoneCode, code_of}
use Rattle.beet_errand.specs.declared.answer.Status.{Status}
use Rattle.beet_errand.specs.Runs.{GivesAll}
use Rattle.beet_errand.specs.declared.answer.OwnRefusal.TheVariants.{OfAudit}
use Rattle.beet_load.specs.Loading.{AuctionWithBidders}
use Rattle.beet_load.specs.Servers.{coefficients_of, masks_of}
use Rattle.beet_load.specs.Wholes.{CanStart, limited_errand}
use Rattle.beet_run.specs.Outcomes.{outcome_answer}
use Rattle.beet_job_record.specs.Records.{record_errand, recorded_answer}
use Rattle.beet_transcripts.proofs.FittingViews.{view-again, view-short}
use Rattle.beet_audit.specs.OneRuns.{OneRun}
use Rattle.beet_audit.specs.declared.fault.AuditFault.{AuditFault}
use Rattle.beet_audit.proofs.BookRunFacts.{one-run, same-book}
use Rattle.beet_job_audit.specs.Ending.{ShowsAudit, audit_answer, run_answer}
use Rattle.beet_job_audit.specs.Reading.{read_errand}
use Rattle.beet_job_audit.specs.declared.reading.ReadViews.{ReadViews}
use Rattle.beet_command.specs.Words.{are_names}
use Rattle.beet_app.specs.Jobs.{Job, Answering, Auditing}
use Rattle.beet_app.proofs.Showing.{Hold, three_stand}
use Rattle.beet_errand.specs.Overs.{ReadsTo}
use Rattle.beet_errand.proofs.Putting.{leaves_all}
use Rattle.beet_app_laws.specs.Dues.{EndsAsDue, IsDue, IsDueOfAudit, IsDueOfViews}
use Rattle.beet_app_laws.specs.Held.{IsHeld}
use Rattle.beet_app_laws.proofs.Led.{led, past-both, read-to}
use Rattle.beet_app_laws.proofs.Reading.{reads-to}
use Rattle.beet_app_laws.proofs.Telling.{one-value, told-views}
use Rattle.beet_app_laws.specs.Calls.{Call, IsOf, RunsJob, RunsJobOf, Says}
use Rattle.beet_program_laws.specs.Again.{record_words}
use Rattle.beet_program_laws.specs.Accepted.{HoldsRun, IsAccepted, Stand, audit_words}
use Rattle.beet_program_laws.specs.Outcomes.{three_files}
use Rattle.beet_program_laws.proofs.Audits.{undone}
use Rattle.beet_program_laws.proofs.Ends.{Found, WentOut, found, named, shown-ends}
use Rattle.beet_program_laws.proofs.Grids.{grid-is}
use Rattle.beet_program_laws.proofs.Read.{IsLimited, can-run, can-run-cut, farmers-back, is-book, limited, the_book}
use Rattle.beet_program_laws.proofs.Read.{the_words}

-- ---- the files of the transcripts

-- the number of a server is one digit
number-digit : (s : Point) → get_or (decimal (number_at_point s)) 0 0 ≡ 48 + number_at_point s
number-digit One = ap (λ (ds : List ℕ). get_or ds 0 0) (decimal_digit 1 (omega arith))
number-digit Two = ap (λ (ds : List ℕ). get_or ds 0 0) (decimal_digit 2 (omega arith))
number-digit Three = ap (λ (ds : List ℕ). get_or ds 0 0) (decimal_digit 3 (omega arith))

-- the files of two servers have two names
files-apart : (out : List ℕ) (s other : Point) → number_at_point s ≢ number_at_point other →
    file_for out s ≢ file_for out other
files-apart out s other ne e =
    let same =
    append_cancel_left (out ++ codes ".") (decimal (number_at_point s)) (decimal (number_at_point other)) e in
    ne (omega (arith, number-digit s, number-digit other, ap (λ (ds : List ℕ). get_or ds 0 0) same))

-- ---- what an auditor holds

-- the file of the auction is held as it was
pub still-held : (files held : List File) (auction name : List ℕ) (grid : Grid) →
    IsHeld files auction AUCTION_LIMIT auction_of grid → bytes_of held name ≡ bytes_of files auction →
    IsHeld held name AUCTION_LIMIT auction_of grid
still-held files held auction name grid h e =
    record { bytes = h.bytes; held = e ∙ h.held; short = h.short; is = h.is }

-- an auction and three transcripts that are held are read as their views
pub held-reads : (held : List File) (name one two three : List ℕ) (grid : Grid) (view : Point → Viewed) →
    IsHeld held name AUCTION_LIMIT auction_of grid → IsHeld held one LONGEST_FILE view_in (view One) →
    IsHeld held two LONGEST_FILE view_in (view Two) → IsHeld held three LONGEST_FILE view_in (view Three) →
    ReadsTo held (read_errand name one two three) (record { grid = grid; views = trio_of view })
unfolding read_errand
held-reads held name one two three grid view auction h1 h2 h3 next =
    let all : Grid → Viewed → Viewed → Viewed → Errand = λ grid first second third. next
    (record { grid = grid; views = record { one = first; two = second; three = third } }) in
    reads-to held name AUCTION_LIMIT auction_of grid auction
    (λ grid. reads one LONGEST_FILE view_in (λ first. reads two LONGEST_FILE view_in
    (λ second. reads three LONGEST_FILE view_in (λ third. all grid first second third))))
    ∙ reads-to held one LONGEST_FILE view_in (view One) h1
    (λ first. reads two LONGEST_FILE view_in
    (λ second. reads three LONGEST_FILE view_in (λ third. all grid first second third)))
    ∙ reads-to held two LONGEST_FILE view_in (view Two) h2
    (λ second. reads three LONGEST_FILE view_in (λ third. all grid (view One) second third))
    ∙ reads-to held three LONGEST_FILE view_in (view Three) h3
    (λ third. all grid (view One) (view Two) third)

-- ---- what was put is read as the views of one run

module _ (files : List File) (auction out : List ℕ) (loaded : AuctionWithBidders) (h : IsLimited files auction loaded) where
  abbrev book : Book
  book = the_book loaded.grid loaded.servers loaded.farmers

  abbrev words : Words
  words = the_words loaded.grid loaded.servers loaded.farmers

  abbrev view : Point → Viewed
  view s = view_for book words s

  abbrev views : ReadViews
  views = record { grid = loaded.grid; views = trio_of view }

  is-grid : IsGrid loaded.grid
  is-grid = grid-is h.grid.bytes loaded.grid h.grid.is

  right-book : IsBook book
  right-book = is-book loaded.grid loaded.servers loaded.farmers h.right.few h.right.farmers h.right.servers

  runs : CanStart book words
  runs = can-run-cut loaded.grid loaded.servers loaded.farmers h.right.few h.right.farmers h.right.servers

  are-words : AreWords words
  are-words = (can-run loaded.grid loaded.servers loaded.farmers h.right.few h.right.farmers h.right.servers).are_words

  few : length book.bidders * book.grid.prices ≤ MOST_PRODUCT
  few = subst (λ (k : ℕ). k * loaded.grid.prices ≤ MOST_PRODUCT)
      (sym (length-map loaded.farmers (λ (f : BidderWithWords). f.bidder))) h.product

  -- they are of one run
  of-one-run : OneRun loaded.grid (trio_of view)
  of-one-run = one-run book words right-book runs

  -- which ended as it was told
  same-end : run_answer views ≡ outcome_answer loaded.grid (book_finish book words.masks) (book_rounds book words.masks)
  same-end = ap (λ (b : Book). outcome_answer loaded.grid (book_finish b words.masks) (book_rounds b words.masks))
      (same-book book words right-book runs)

  -- what was put is what each server saw
  same-transcript : (s : Point) → transcript_of_book loaded.grid loaded.farmers (masks_of loaded.servers)
      (coefficients_of loaded.servers) s ≡ view_bytes (view s)
  same-transcript s =
      ap (λ (l : List BidderWithWords). transcript_of_book loaded.grid l (masks_of loaded.servers)
      (coefficients_of loaded.servers) s) (sym (farmers-back loaded.farmers))

  -- a file with these bytes reads to the view
  transcript-held : (held : List File) (name : List ℕ) (s : Point) →
      bytes_of held name ≡ Some
      (transcript_of_book loaded.grid loaded.farmers (masks_of loaded.servers) (coefficients_of loaded.servers) s) →
      IsHeld held name LONGEST_FILE view_in (view s)
  transcript-held held name s e = record {
    bytes = view_bytes (view s);
    held = e ∙ ap Some (same-transcript s);
    short = view-short book words is-grid right-book runs few s;
    is = view-again book words is-grid right-book runs are-words few s;
  }

  -- what is put
  abbrev seen : Trio (List ℕ)
  seen = trio_of (transcript_of_book loaded.grid loaded.farmers (masks_of loaded.servers)
      (coefficients_of loaded.servers))

  -- whoever holds what was put reads these views
  put-reads : (held : List File) (name one two three : List ℕ) →
      HoldsRun files held auction seen name one two three →
      ReadsTo held (read_errand name one two three) views
  put-reads held name one two three r =
      held-reads held name one two three loaded.grid view
      (still-held files held auction name loaded.grid h.grid r.auction_file)
      (transcript-held held one One r.first) (transcript-held held two Two r.second)
      (transcript-held held three Three r.third)

-- ---- what stands at a desk that tells its files

pub stands-at : (out : List ℕ) (three : Trio (List ℕ)) (text : List ℕ) (desk desk_now : DeskTold) →
    GivesAll desk desk_now (three_files out three) text (Ok tt) → (before after : Given) →
    desk.given ≡ Some before → desk_now.given ≡ Some after → Stand out three text before after
stands-at out three text desk desk_now calls before after was is =
    let hold : Hold (file_for out One, three.one) (file_for out Two, three.two) (file_for out Three, three.three) text
    before after = three_stand (file_for out One, three.one) (file_for out Two, three.two)
    (file_for out Three, three.three) text before (Some after)
    (files-apart out One Two (λ e. absurd (omega (arith, e)))) (files-apart out One Three (λ e. absurd
    (omega (arith, e)))) (files-apart out Two Three (λ e. absurd (omega (arith, e)))) (rw (was, is) at (leaves_all
    desk desk_now (three_files out three) text (Ok tt) calls)) in
    record { first = hold.one; second = hold.two; third = hold.three; said = hold.said }

-- ---- how an audit of views of one run ends

module _ (files : List File) (call : Call) (from : IsOf files call) (name one two three : List ℕ) (views : ReadViews)
    (read : ReadsTo files (read_errand name one two three) views) (one_run : OneRun views.grid views.views) where
  abbrev due : Status
  due = (run_answer views).status

  -- nothing else is read
  only : (other : ReadViews) → ReadsTo files (read_errand name one two three) other → other ≡ views
  only other r = one-value files (read_errand name one two three) other views r read told-views

  is-due : IsDueOfAudit files name one two three due
  is-due = record {
    read = ap (λ (x : Answer). x.status) (sym (read (λ views. answers due [])));
    views = λ other r. subst (λ v. IsDueOfViews v due) (sym (only other r)) (inl (one_run, refl));
  }

  -- what is found is that nothing is wrong, and so the end of the run was said
  finding : (other : ReadViews) → other ≡ views → (fault : Option AuditFault) →
      MatchOption fault (OneRun other.grid other.views) (λ fault. OneRun other.grid other.views → ⊥) →
      WentOut (audit_answer other fault) call → Says call (run_answer views).text
  finding other same None is put = subst (λ (v : ReadViews). Says call (run_answer v).text) same put.calls
  finding other same (Some fault) not put =
      absurd (not (subst (λ (v : ReadViews). OneRun v.grid v.views) (sym same) one_run))

  -- an audit that is done says how the run ended
  says-it : IsDoneCode call.status → RunsJob (Some (Auditing name one two three)) call → Says call (run_answer views).text
  says-it w r =
      shown-ends files call from w {C = Says call (run_answer views).text} OfAudit
      (read_errand name one two three) (ShowsAudit name one two three)
      (undone files name one two three) (λ answer shows put.
      finding shows.value
      (only shows.value (read-to files call.shelf call.shelf_now from (read_errand name one two three) shows.value
      shows.read))
      shows.shown.found shows.shown.one_run
      (subst (λ (x : Answer). WentOut x call) shows.shown.is put)) r

-- a status that is due is that of the run
like : (ended : Status) (status end : ℕ) → code_of ended ≡ status → EndsAsDue ended end →
    (end ≡ status) ⊎ (end ≡ 1) ⊎ (end ≡ 3) ⊎ (end ≡ 4)
like ended status end is (inl e) = inl (e ∙ is)
like ended status end is (inr other) = inr other

-- ---- the whole

module _ (files : List File) (call : Call) (from : IsOf files call) (w : IsDoneCode call.status)
    (auction servers list out : List ℕ) where
  abbrev Recorded : Type 0
  Recorded = Found files call from w (limited_errand auction servers list)
      (recorded_answer out) (IsLimited files auction)

  -- what was read and put is accepted
  accepted-by : Recorded → IsAccepted files auction out call
  accepted-by f =
      let loaded = f.value in
      let three = seen files auction out loaded f.holds in
      let read : ReadViews = views files auction out loaded f.holds in
      let one_run = of-one-run files auction out loaded f.holds in
      let ended = same-end files auction out loaded f.holds in
      record {
        transcripts = three;
        text = (recorded_answer out loaded).text;
        gives = f.out.calls;
        stand = stands-at out three (recorded_answer out loaded).text call.desk call.desk_now f.out.calls;
        audited = λ held audit name one two three r not from' ran.
            (let reads = put-reads files auction out loaded f.holds held name one two three r in
            let job =
            past-both (are_names (name ∷ one ∷ three ∷ [])) (is_name_of two) (Some (Auditing name one two three)) not in
            let due = subst (λ (j : Option Job). IsDue held j (run_answer read).status) (sym job)
            (is-due held audit from' name one two three read reads one_run) in
            record {
              ends = like (run_answer read).status call.status audit.status
                  (ap (λ (x : Answer). code_of x.status) ended ∙ sym f.out.code)
                  (led (audit_words name one two three) held audit (run_answer read).status from' ran due);
              says = λ same. subst (Says audit) (ap (λ (x : Answer). x.text) ended)
                  (says-it held audit from' name one two three read reads one_run (subst IsDoneCode (sym same) w)
                  (subst (λ (j : Option Job). RunsJob j audit) job ran));
            });
      }

  pub accepts : RunsJobOf (record_words auction servers list out) call → IsAccepted files auction out call
  accepts ran =
      let job = Some (Answering (record_errand auction servers list out)) in
      let r' = named files call from w (are_names (auction ∷ servers ∷ out ∷ []))
      (if is_name_of list then job else None) ran in
      let r = named files call from w (is_name_of list) job r' in
      accepted-by (found files call from w (limited_errand auction servers list)
      (recorded_answer out) (IsLimited files auction)
      (limited files auction servers list) r)
