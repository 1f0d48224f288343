-- What the job `audit` has read and said.
use Rattle.std.proofs.Common.{◌≡◌, inl, ◌≤◌, ◌<◌, ◌*◌, ℕ, List, [], ◌∷◌, length, map, min, Option, Some, None, Ok, refl}
use Rattle.std.proofs.Common.{sym, ap, subst, ◌∙◌, arith}
use Rattle.std.specs.Prelude.{All, IfOk, MatchOption, codes, if◌then◌else◌}
use Rattle.beet_field.specs.Field.{IsElement}
use Rattle.beet_field.specs.Trio.{member, of_each}
use Rattle.beet_field.specs.declared.point.Point.{Point}
use Rattle.beet_field.specs.declared.point.Point.TheVariants.{One, Two, Three}
use Rattle.beet_field.specs.declared.trio.Trio.{Trio}
use Rattle.beet_store.specs.Files.{File}
use Rattle.beet_forms.specs.Faults.{Reading}
use Rattle.beet_forms.specs.Names.{is_name_of}
use Rattle.beet_forms.specs.declared.faults.TheConstants.{LONGEST_FILE}
use Rattle.beet_words.specs.Bundles.{Words, words_at}
use Rattle.beet_words.specs.Fields.{counted_at, ended}
use Rattle.beet_words.specs.Words.{IsWord}
use Rattle.beet_words.specs.declared.bundle.TheConstants.{MOST_BIDDERS, TRAILING}
use Rattle.beet_gates.specs.Each.{each}
use Rattle.beet_gates.proofs.EachFacts.{all-each, length-each, map-each}
use Rattle.beet_bids.specs.AuctionFiles.{auction_of}
use Rattle.beet_bids.specs.Books.{Book, IsBook}
use Rattle.beet_bids.specs.Curves.{IsCurve}
use Rattle.beet_bids.specs.Grids.{Grid}
use Rattle.beet_bids.specs.declared.auction_file.TheConstants.{AUCTION_LIMIT}
use Rattle.beet_plan.specs.Kept.{coefficients_kept, masks_kept}
use Rattle.beet_book.specs.Dealing.{HasLengths, quantities}
use Rattle.beet_book.specs.Farmers.{BidderWithWords, book_inputs, farmers_of}
use Rattle.beet_book.specs.Totals.{points_on}
use Rattle.beet_book.proofs.Quantities.{quantities-many}
use Rattle.beet_auction.specs.Setups.{auction_setup, setup_for}
use Rattle.beet_view.specs.Transcripts.{form_in, from_to, grid_at, most_bidders, round_at, seen_at, server_at, view_in}
use Rattle.beet_view.specs.Views.{Viewed}
use Rattle.beet_view.specs.declared.reading.TheConstants.{MOST_ROUNDS}
use Rattle.beet_trades.specs.Enough.{HasAccepted}
use Rattle.beet_headline.specs.Statements.{CanRun}
use Rattle.beet_errand.specs.Errands.{Answer, Errand, answers, reads, refuses}
use Rattle.beet_errand.specs.Fetches.{IsDone}
use Rattle.beet_errand.specs.declared.answer.OwnRefusal.TheVariants.{OfAudit}
use Rattle.beet_errand.specs.declared.answer.Refusal.TheVariants.{Own}
use Rattle.beet_errand.specs.declared.answer.Status.TheVariants.{Done}
use Rattle.beet_errand.proofs.Statuses.{not_done}
use Rattle.beet_errand.specs.Statuses.{IsDoneCode}
use Rattle.beet_load.specs.Counts.{coefficients_wanted}
use Rattle.beet_audit.specs.Audits.{HaveElements, curve_of, points_of_bidder, recombined_bidder, recombined_book}
use Rattle.beet_audit.specs.Audits.{run_of}
use Rattle.beet_audit.specs.OneRuns.{OneRun}
use Rattle.beet_audit.specs.declared.fault.AuditFault.{AuditFault}
use Rattle.beet_audit.proofs.BidFacts.{OnOwnLines, is-line, on-own-line, own_slope, recombines}
use Rattle.beet_audit.proofs.FinishFacts.{all-accepted, farmers, is-recombined, same-inputs, slopes}
use Rattle.beet_audit.proofs.PointFacts.{item-shares, lengths-shares}
use Rattle.beet_job_audit.specs.Ending.{ShowsAudit, audit_answer, run_answer}
use Rattle.beet_job_audit.specs.Reading.{read_errand}
use Rattle.beet_job_audit.specs.declared.reading.ReadViews.{ReadViews}
use Rattle.beet_command.specs.Words.{are_names}
use Rattle.beet_app.specs.Jobs.{Auditing}
use Rattle.beet_errand.specs.Overs.{ReadsTo, answer_over}
use Rattle.beet_app_laws.proofs.Led.{read-to}
use Rattle.beet_app_laws.proofs.Telling.{one-value, told-views}
use Rattle.beet_app_laws.specs.Calls.{Call, IsOf, RunsJob, RunsJobOf}
use Rattle.beet_program_laws.specs.Commands.{AuditsOneRun}
use Rattle.beet_program_laws.proofs.Ends.{WentOut, named, servers-open, shown-ends, tells}
use Rattle.beet_program_laws.proofs.Files.{AreFew, any-reads, counted-are, then-reads, words-are}
use Rattle.beet_program_laws.proofs.Read.{farmers-back, has-accepted}
use Rattle.beet_program_laws.proofs.Steps.{Yields, any-yield, gives-yield, reads-yield, then-yields}

-- ---- what a transcript is read as

-- a view that is read: few bidders, and words that are no more than are kept
record IsReadView (view : Viewed) : Type 0 where
  few : length view.bidders ≤ MOST_BIDDERS
  masks : AreFew (masks_kept view.grid) view.masks
  coefficients : AreFew (coefficients_kept view.grid) view.coefficients

below-min : (a b n : ℕ) → n ≤ min a b → n ≤ a
below-min a b n h = omega (arith, h)

view-reads : (bytes : List ℕ) → IfOk (view_in bytes) IsReadView
unfolding view_in
view-reads bytes =
    then-reads (form_in bytes) _ (λ form. Unit {0}) IsReadView (any-reads (form_in bytes)) (λ form h1.
    then-reads (server_at bytes form.1) _ (λ server. Unit {0}) IsReadView
    (any-reads (server_at bytes form.1)) (λ server h2.
    then-reads (grid_at bytes form.0 server.1) _ (λ grid. Unit {0}) IsReadView
    (any-reads (grid_at bytes form.0 server.1)) (λ grid h3.
    then-reads
    (counted_at bytes (from_to 0 (most_bidders grid.0.prices)) (seen_at bytes server.0 grid.0.prices) grid.1) _
    (λ bidders. All (λ seen. Unit {0}) bidders.0 × (length bidders.0 ≤ most_bidders grid.0.prices)) IsReadView
    (counted-are bytes (from_to 0 (most_bidders grid.0.prices)) (seen_at bytes server.0 grid.0.prices)
    (λ seen. Unit {0})
    (λ at. any-reads (seen_at bytes server.0 grid.0.prices at)) grid.1) (λ bidders h4.
    then-reads (words_at bytes (masks_kept grid.0) bidders.1) _ (λ masks. AreFew (masks_kept grid.0) masks.0) IsReadView
    (words-are bytes (masks_kept grid.0) bidders.1) (λ masks h5.
    then-reads (words_at bytes (coefficients_kept grid.0) masks.1) _
    (λ coefficients. AreFew (coefficients_kept grid.0) coefficients.0) IsReadView
    (words-are bytes (coefficients_kept grid.0) masks.1) (λ coefficients h6.
    then-reads (counted_at bytes (from_to 0 MOST_ROUNDS) (round_at bytes) coefficients.1) _
    (λ rounds. Unit {0}) IsReadView
    (any-reads (counted_at bytes (from_to 0 MOST_ROUNDS) (round_at bytes) coefficients.1)) (λ rounds h7.
    then-reads (ended bytes TRAILING rounds.1) _ (λ done. Unit {0}) IsReadView
    (any-reads (ended bytes TRAILING rounds.1)) (λ done h8.
    record { few = below-min MOST_BIDDERS _ (length bidders.0) h4.1; masks = h5; coefficients = h6 }))))))))

view-is : (bytes : List ℕ) (view : Viewed) → view_in bytes ≡ Ok view → IsReadView view
view-is bytes view e = subst (λ (r : Reading Viewed). IfOk r IsReadView) e (view-reads bytes)

abbrev AreReadViews : ReadViews → Type 0
AreReadViews read = (s : Point) → IsReadView (member read.views s)

three-read : (one two three : Viewed) → IsReadView one → IsReadView two → IsReadView three → (s : Point) →
    IsReadView (member (record { one = one; two = two; three = three }) s)
three-read one two three h k l One = h
three-read one two three h k l Two = k
three-read one two three h k l Three = l

views-yield : (files : List File) (auction one two three : List ℕ) →
    Yields files (read_errand auction one two three) AreReadViews
unfolding read_errand
views-yield files auction one two three =
    then-yields files (reads auction AUCTION_LIMIT auction_of) _ (λ grid. Unit {0}) AreReadViews
    (any-yield files auction AUCTION_LIMIT auction_of) (λ grid h.
    then-yields files (reads one LONGEST_FILE view_in) _ IsReadView AreReadViews
    (reads-yield files one LONGEST_FILE view_in IsReadView view-is) (λ first h1.
    then-yields files (reads two LONGEST_FILE view_in) _ IsReadView AreReadViews
    (reads-yield files two LONGEST_FILE view_in IsReadView view-is) (λ second h2.
    then-yields files (reads three LONGEST_FILE view_in) _ IsReadView AreReadViews
    (reads-yield files three LONGEST_FILE view_in IsReadView view-is) (λ third h3.
    gives-yield files AreReadViews (record { grid = grid; views = record { one = first; two = second; three = third } })
    (three-read first second third h1 h2 h3)))))

are-read : (files : List File) (auction one two three : List ℕ) (read : ReadViews) →
    ReadsTo files (read_errand auction one two three) read →
    (s : Point) → IsReadView (member read.views s)
are-read files auction one two three read r s =
    let step = read_errand auction one two three in
    let next : ReadViews → Errand = λ v. answers Done [] in
    let (other, q, h) =
    views-yield files auction one two three next (subst (λ (x : Answer). IsDone x.status) (sym (r next)) (inl refl)) in
    subst (λ (v : ReadViews). IsReadView (member v.views s)) (one-value files step other read q r told-views) (h s)

-- ---- the book and the words of one run

module _ (grid : Grid) (views : Trio Viewed) (limits : (s : Point) → IsReadView (member views s))
    (one_run : OneRun grid views) where
  abbrev n : ℕ
  n = length views.one.bidders

  abbrev book : Book
  book = recombined_book grid views

  curve-at : (i : ℕ) → i < n → IsCurve (curve_of grid.prices (points_of_bidder views i))
  curve-at i lt =
      let b = one_run.bids i lt in
      subst IsCurve
      (recombines grid (points_of_bidder views i) (one_run.curves i) b.is_curve b.of_grid b.shares) b.is_curve

  -- points that are shares of quantities are as many, and numbers of the field
  long : (i : ℕ) → i < n → HasLengths (points_of_bidder views i) (2 * grid.prices)
  long i lt =
      let b = one_run.bids i lt in
      let values = quantities (one_run.curves i) in
      let many = quantities-many grid (one_run.curves i) b.of_grid in
      subst (λ t. HasLengths t (2 * grid.prices)) (sym b.shares.shares)
      (lengths-shares values b.shares.slopes (2 * grid.prices) many (omega (arith, b.shares.paired, many)))

  elements : HaveElements grid views
  elements i lt k within =
      let b = one_run.bids i lt in
      let values = quantities (one_run.curves i) in
      let many = quantities-many grid (one_run.curves i) b.of_grid in
      subst (λ (t : Trio ℕ). IsElement t.one × (IsElement t.two × IsElement t.three))
      (sym (ap (λ t. points_on t k) b.shares.shares ∙ item-shares values b.shares.slopes k (omega (arith, many, within))
      (omega (arith, many, b.shares.paired, within))))
      (omega arith, (omega arith, omega arith))

  on-lines : (i : ℕ) → i < n → OnOwnLines grid.prices (points_of_bidder views i)
  on-lines i lt =
      let b = one_run.bids i lt in
      let points = points_of_bidder views i in
      on-own-line grid.prices points (long i lt) (elements i lt)
      (is-line grid points (one_run.curves i) b.is_curve b.of_grid b.shares)

  is-book : IsBook book
  is-book = is-recombined grid views (limits One).few curve-at on-lines

  abbrev list : ℕ → List ℕ
  list = slopes grid views (limits One).few curve-at on-lines

  abbrev dealers : List BidderWithWords
  dealers = farmers grid views (limits One).few curve-at on-lines

  abbrev words : Words
  words = record {
    masks = of_each (λ view. view.masks) views;
    coefficients = of_each (λ view. view.coefficients) views;
    bidders = each list n;
  }

  same-dealers : farmers_of book.bidders words.bidders ≡ dealers
  same-dealers =
      let bidder = λ (f : BidderWithWords). f.bidder in
      let own = λ (f : BidderWithWords). f.words in
      let rule : ℕ → BidderWithWords = λ i. record { bidder = recombined_bidder grid views i; words = list i } in
      ap (λ l. farmers_of l words.bidders) (sym (map-each bidder rule n))
      ∙ ap (farmers_of (map bidder dealers)) (sym (map-each own rule n)) ∙ farmers-back dealers

  -- with these words the book begins the run of the views
  same-run : run_of grid views ≡ setup_for book words
  same-run =
      ap (λ inputs. auction_setup grid inputs words.masks words.coefficients)
      (same-inputs grid views (limits One).few curve-at on-lines ∙ ap (book_inputs grid.prices) (sym same-dealers))

  below-slope : (points : Trio (List ℕ)) (k : ℕ) → IsElement (own_slope points k)
  below-slope points k = omega arith

  list-are : (i : ℕ) → All IsElement (list i)
  list-are i = let points = points_of_bidder views i in
      all-each IsElement (own_slope points) (2 * grid.prices) (λ k lt. below-slope points k)

  list-words : (i : ℕ) → All IsWord (list i)
  list-words i = λ k d lt. (let h = list-are i k d lt in omega (arith, h))

  list-enough : (i : ℕ) → HasAccepted (2 * grid.prices) (list i)
  list-enough i =
      let many = length-each (own_slope (points_of_bidder views i)) (2 * grid.prices) in
      has-accepted (2 * grid.prices) (list i) (omega (arith, many, ap length (all-accepted (list i) (list-are i))))
      (omega (arith, many))

  numbers : (s : Point) → HasAccepted (coefficients_wanted grid) (member views s).coefficients
  numbers s =
      has-accepted (coefficients_wanted grid) (member views s).coefficients (one_run.tapes s).coefficients
      (subst (λ (g : Grid). length (member views s).coefficients ≤ coefficients_kept g) (one_run.grids s)
      (limits s).coefficients.1)

  can-run : CanRun book words
  can-run = record {
    are_words = record {
      masks = ((limits One).masks.0, (limits Two).masks.0, (limits Three).masks.0);
      coefficients = ((limits One).coefficients.0, (limits Two).coefficients.0, (limits Three).coefficients.0);
      bidders = all-each (λ words. All IsWord words) list n (λ i lt. list-words i);
    };
    enough = record {
      masks = ((one_run.tapes One).masks, (one_run.tapes Two).masks, (one_run.tapes Three).masks);
      one = numbers One;
      two = numbers Two;
      three = numbers Three;
      count = length-each list n ∙ sym (length-each (recombined_bidder grid views) n);
      bidders = all-each (HasAccepted (2 * grid.prices)) list n (λ i lt. list-enough i);
    };
  }

-- an errand that goes on from an auction and three transcripts to a refusal is not done
pub undone : (files : List File) (auction one two three : List ℕ) →
    IsDone (answer_over files (read_errand auction one two three (λ read. refuses (Own OfAudit) []))).status → ⊥
undone files auction one two three done =
    let next : ReadViews → Errand = λ read. refuses (Own OfAudit) [] in
    let (read, reads, h) = views-yield files auction one two three next done in
    not_done (Own OfAudit) (subst (λ (a : Answer). IsDone a.status) (reads next) done)

module _ (files : List File) (call : Call) (from : IsOf files call) (w : IsDoneCode call.status) (auction one two three : List ℕ) where
  abbrev Audited : Type 0
  Audited = AuditsOneRun files auction one two three call

  told-of : (read : ReadViews) → ReadsTo files (read_errand auction one two three) read → OneRun read.grid read.views →
      WentOut (run_answer read) call → Audited
  told-of read r one_run put =
      let limits = are-read files auction one two three read r in
      let own = words read.grid read.views limits one_run in
      record {
        read = read;
        are_read = r;
        one_run = one_run;
        words = own;
        masks = refl;
        coefficients = refl;
        same_run = same-run read.grid read.views limits one_run;
        run = servers-open (recombined_book read.grid read.views) own (is-book read.grid read.views limits one_run)
            (can-run read.grid read.views limits one_run);
        text = (run_answer read).text;
        tells = tells (recombined_book read.grid read.views) own call.status put.code;
        said = put.calls;
      }

  -- an answer that is done tells of one run
  finding : (read : ReadViews) → ReadsTo files (read_errand auction one two three) read → (found : Option AuditFault) →
      MatchOption found (OneRun read.grid read.views) (λ fault. OneRun read.grid read.views → ⊥) →
      WentOut (audit_answer read found) call → Audited
  finding read r None one_run put = told-of read r one_run put
  finding read r (Some fault) not put = absurd (not_done (Own OfAudit) put.done)

  audits-by : RunsJob (Some (Auditing auction one two three)) call → Audited
  audits-by r =
      shown-ends files call from w {C = Audited} OfAudit (read_errand auction one two three)
      (ShowsAudit auction one two three)
      (undone files auction one two three) (λ answer shows put.
      finding shows.value (read-to files call.shelf call.shelf_now from (read_errand auction one two three) shows.value shows.read)
      shows.shown.found shows.shown.one_run
      (subst (λ (a : Answer). WentOut a call) shows.shown.is put)) r

  pub audits : RunsJobOf (codes "audit" ∷ auction ∷ one ∷ two ∷ three ∷ []) call → Audited
  audits ran =
      let job = Some (Auditing auction one two three) in
      let r = named files call from w (are_names (auction ∷ one ∷ three ∷ []))
      (if is_name_of two then job else None) ran in
      audits-by (named files call from w (is_name_of two) job r)
