-- What the command `pair` has read, put and said, or why it has refused two sessions.
use Rattle.std.proofs.Common.{◌≡◌, ◌+◌, inl, inr, ℕ, suc, Bool, true, false, List, [], ◌∷◌, ◌++◌, length, map, Option, Some, None}
use Rattle.std.proofs.Common.{if◌then◌else◌, refl, sym, ap, subst, ◌∙◌, arith}
use Rattle.std.specs.Prelude.{All, codes}
use Rattle.std.proofs.lemmas.List.{length-map}
use Rattle.std.proofs.lemmas.List.Elements.{All-head, All-tail}
use Rattle.std.proofs.lemmas.Option.{slice_get_within}
use Rattle.beet_field.specs.Point.{server_of}
use Rattle.beet_field.specs.declared.point.Point.{Point}
use Rattle.beet_store.specs.Files.{File}
use Rattle.beet_words.specs.Bundles.{Words}
use Rattle.beet_bids.specs.Books.{Book, IsBook}
use Rattle.beet_two_books.specs.Agreement.{Agree}
use Rattle.beet_auction_map.specs.Disagreement.{Refuses, RefusesMap}
use Rattle.beet_auction_map.specs.MappedWords.{Mapped}
use Rattle.beet_auction_map.specs.ViewsWith.{transcript_with}
use Rattle.beet_two_books.specs.declared.agreeing.MapFault.{MapFault}
use Rattle.beet_two_books.specs.declared.agreeing.MapFault.TheVariants.{ShapeDiffers, OwnBidsDiffer, OutcomesDiffer}
use Rattle.beet_two_books.specs.declared.agreeing.MapFault.TheVariants.{OutOfMemory as MapOutOfMemory}
use Rattle.beet_headline.specs.Statements.{AreTwoBooks}
use Rattle.beet_headline.proofs.Pairing.{mapped-pair}
use Rattle.beet_lot_map.specs.LotMaps.{RefusesLot, RefusesSession, SessionMapped, fault_in, session_transcripts}
use Rattle.beet_lot_map.specs.declared.mapping.SessionFault.{SessionFault}
use Rattle.beet_lot_map.specs.declared.mapping.SessionFault.TheVariants.{LotsDiffer, GridDiffers}
use Rattle.beet_lot_map.specs.declared.mapping.SessionFault.TheVariants.{ShapeDiffers as ShapeOf}
use Rattle.beet_lot_map.specs.declared.mapping.SessionFault.TheVariants.{OwnBidsDiffer as OwnBidsOf}
use Rattle.beet_lot_map.specs.declared.mapping.SessionFault.TheVariants.{OutcomesDiffer as OutcomesOf}
use Rattle.beet_lot_map.specs.declared.mapping.SessionFault.TheVariants.{OutOfMemory as NoMemory}
use Rattle.beet_lot_view.specs.SessionViews.{session_view_bytes, session_words_bytes}
use Rattle.beet_errand.specs.Errands.{Answer, Errand, answers, refuses, text_answer}
use Rattle.beet_errand.specs.Fetches.{IsDone}
use Rattle.beet_errand.specs.Overs.{ReadsTo, answer_over}
use Rattle.beet_errand.specs.Statuses.{IsDoneCode, code_of}
use Rattle.beet_errand.specs.Worlds.{equal_text, files_of_worlds}
use Rattle.beet_errand.specs.declared.answer.OwnRefusal.TheVariants.{OfWorlds}
use Rattle.beet_errand.specs.declared.answer.Refusal.TheVariants.{Own}
use Rattle.beet_errand.specs.declared.answer.Status.TheVariants.{Done, MasksSpent, Refused}
use Rattle.beet_errand.proofs.Statuses.{not_done}
use Rattle.beet_load.specs.Loading.{AuctionWithBidders}
use Rattle.beet_run.specs.Outcomes.{cleared}
use Rattle.beet_lot_load.specs.Telling.{any_spent, lots_status, lots_text}
use Rattle.beet_job_worlds.proofs.DifferenceFacts.{no-difference, the-difference}
use Rattle.beet_book_differences.specs.Differences.{difference_between}
use Rattle.beet_job_session_pair.specs.Answering.{ShowsTheSame}
use Rattle.beet_job_session_pair.specs.Ending.{ShowsSessions, TellsApart, TellsOf}
use Rattle.beet_job_session_pair.specs.Reading.{Both, book_of_lot, both_errand, first_books, words_of_lot}
use Rattle.beet_job_session_pair.specs.Refusals.{IsLineOf, refused_text}
use Rattle.beet_pair_words.specs.Jobs.{Comparing, Job}
use Rattle.beet_pair_words.proofs.Naming.{pair-at-server}
use Rattle.beet_session_app.specs.Doing.{task_of}
use Rattle.beet_app_laws.specs.Calls.{Call, IsOf, Puts}
use Rattle.beet_app_laws.specs.Tables.{RunsJobBy}
use Rattle.beet_app_laws.proofs.Led.{read-to}
use Rattle.beet_app_laws.proofs.Telling.{one-value}
use Rattle.beet_program_laws.proofs.Ends.{WentOut, WentWhole, no-job, no-usage, refused-answer, refused-whole, shown-ends}
use Rattle.beet_program_laws.proofs.Jobs.{book_in, runs-in, words_in}
use Rattle.beet_program_laws.proofs.Read.{IsLoaded, back}
use Rattle.beet_session_laws.specs.Lots.{IsDoneSession, RunsSession, end_of_lot, loaded_lot}
use Rattle.beet_session_laws.specs.Pairs.{LotPair, PutsBothSessions, RefusesBothSessions, SessionsAgree, first_lot, first_seen}
use Rattle.beet_session_laws.specs.Pairs.{second_seen}
use Rattle.beet_session_laws.proofs.PairReading.{IsBoth, both-yield, is-both, told-both}

-- the call ran this job of the program of sessions
abbrev pub RunsJob : Option Job → Call → Type 0
RunsJob = RunsJobBy task_of

-- ---- lots of two sessions

-- lots that are read, second books and words that go with them, as pairs
record ArePairs (s : Point) (lots : List AuctionWithBidders) (seconds : List Book) (mapped : List Words) : Type 0 where
  pairs : List (LotPair s)
  firsts : map (λ (p : LotPair s). loaded_lot (first_lot p)) pairs ≡ lots
  others : map (λ (p : LotPair s). p.second) pairs ≡ seconds
  words : map (λ (p : LotPair s). p.second_words) pairs ≡ mapped
  ends : map cleared lots ≡ map (λ (p : LotPair s). end_of_lot (first_lot p)) pairs
  seen : session_transcripts s (map book_of_lot lots) (map words_of_lot lots) ≡ map first_seen pairs
  same : map second_seen pairs ≡ map first_seen pairs

module _ (s : Point) where
  -- one lot
  pair-of : (loaded : AuctionWithBidders) (h : IsLoaded loaded) (second : Book) → IsBook second → (mapped : Words) →
      Agree s (book_of_lot loaded) second → Mapped s (book_of_lot loaded) (words_of_lot loaded) second mapped → LotPair s
  pair-of loaded h second k mapped agree m =
      let run = runs-in loaded h in
      let two : AreTwoBooks s (book_in loaded h) second =
      record { first_book = run.is_book; second_book = k; agree = agree } in
      record {
        first = book_in loaded h;
        words = words_in loaded h;
        second = second;
        two = two;
        run = run;
        second_words = mapped;
        pair = mapped-pair s (book_in loaded h) second (words_in loaded h) mapped two run.can_run m;
      }

  -- and then all others
  more-pairs : (loaded : AuctionWithBidders) (h : IsLoaded loaded) (p : LotPair s) → loaded_lot (first_lot p) ≡ loaded →
      end_of_lot (first_lot p) ≡ cleared loaded → first_seen p ≡ transcript_with (book_of_lot loaded) (words_of_lot loaded) s →
      (lots : List AuctionWithBidders) (seconds : List Book) (mapped : List Words) → ArePairs s lots seconds mapped →
      ArePairs s (loaded ∷ lots) (p.second ∷ seconds) (p.second_words ∷ mapped)
  more-pairs loaded h p is told sees lots seconds mapped rest = record {
    pairs = p ∷ rest.pairs;
    firsts = λ i. is i ∷ rest.firsts i;
    others = ap (λ (l : List Book). p.second ∷ l) rest.others;
    words = ap (λ (l : List Words). p.second_words ∷ l) rest.words;
    ends = λ i. sym told i ∷ rest.ends i;
    seen = λ i. sym sees i ∷ rest.seen i;
    same = λ i. p.pair.transcripts i ∷ rest.same i;
  }

  -- the lots behind the first are mapped
  tail-mapped : (first second : Book) (words mapped : Words) (firsts : List Book) (held : List Words) (seconds : List Book)
      (others : List Words) → SessionMapped s (first ∷ firsts) (words ∷ held) (second ∷ seconds) (mapped ∷ others) →
      SessionMapped s firsts held seconds others
  tail-mapped first second words mapped firsts held seconds others m =
      let lots = m.lots in
      let count = m.count in
      record {
        lots = omega (arith, lots);
        count = omega (arith, count);
        each = λ k b w b' w' lt e f g h. m.each (suc k) b w b' w' (omega (arith, lt)) e f g h;
      }

  pairs-of : (lots : List AuctionWithBidders) → All IsLoaded lots → (seconds : List Book) → All IsBook seconds →
      (mapped : List Words) → SessionMapped s (map book_of_lot lots) (map words_of_lot lots) seconds mapped →
      ArePairs s lots seconds mapped
  unfolding pair-of
  pairs-of [] h [] k [] m = record {
    pairs = [];
    firsts = refl;
    others = refl;
    words = refl;
    ends = refl;
    seen = refl;
    same = refl;
  }
  pairs-of [] h [] k (w ∷ mapped) m = absurd (let count = m.count in omega (arith, count))
  pairs-of [] h (b ∷ seconds) k mapped m = absurd (let lots = m.lots in omega (arith, lots))
  pairs-of (loaded ∷ lots) h [] k mapped m = absurd (let lots = m.lots in omega (arith, lots))
  pairs-of (loaded ∷ lots) h (b ∷ seconds) k [] m = absurd (let count = m.count in omega (arith, count))
  pairs-of (loaded ∷ lots) h (b ∷ seconds) k (w ∷ mapped) m =
      let here = m.each 0 (book_of_lot loaded) (words_of_lot loaded) b w (omega arith) refl refl refl refl in
      let right = All-head IsLoaded loaded lots h in
      more-pairs loaded right (pair-of loaded right b (All-head IsBook b seconds k) w here.agree here.worlds.mapped)
      (back loaded.grid loaded.servers loaded.farmers) refl refl lots seconds mapped
      (pairs-of lots (All-tail IsLoaded loaded lots h) seconds (All-tail IsBook b seconds k) mapped
      (tail-mapped (book_of_lot loaded) b (words_of_lot loaded) w (map book_of_lot lots) (map words_of_lot lots) seconds mapped m))

-- ---- sessions that do not agree

refuses-none : (s : Point) (first second : Book) (fault : MapFault) → Refuses s first second fault → Agree s first second → ⊥
refuses-none s first second fault r agree =
    none-some (difference_between s first second) (no-difference s first second agree) (the-difference s first second fault r) where
      none-some : (difference : Option MapFault) → difference ≡ None → difference ≡ Some fault → ⊥
      none-some None a b = absurd cc
      none-some (Some other) a b = absurd cc

-- the fault of a lot has no line only where memory ran out
of-lot : (s : Point) (first second : Book) (fault : MapFault) (text : List ℕ) (lot : ℕ) → RefusesMap s first second fault →
    IsLineOf (fault_in lot fault) text → Agree s first second → ⊥
of-lot s first second (ShapeDiffers bidder) text lot r line agree = refuses-none s first second (ShapeDiffers bidder) r agree
of-lot s first second (OwnBidsDiffer bidder) text lot r line agree = refuses-none s first second (OwnBidsDiffer bidder) r agree
of-lot s first second (OutcomesDiffer one other) text lot r line agree =
    refuses-none s first second (OutcomesDiffer one other) r agree
of-lot s first second MapOutOfMemory text lot r line agree = absurd line

-- a lot that is refused by a line does not agree
lot-apart : (s : Point) (lot : ℕ) (first second : Book) (fault : SessionFault) (text : List ℕ) →
    RefusesLot s lot first second fault → IsLineOf fault text → Agree s first second → ⊥
lot-apart s lot first second fault text (inl (grids, e)) line agree = grids agree.grids
lot-apart s lot first second fault text (inr (grids, (of_lot, e, r))) line agree =
    of-lot s first second of_lot text lot r (subst (λ (f : SessionFault). IsLineOf f text) e line) agree

-- nor do two sessions
pub sessions-apart : (s : Point) (firsts seconds : List Book) (fault : SessionFault) (text : List ℕ) →
    RefusesSession s firsts seconds fault → IsLineOf fault text → SessionsAgree s firsts seconds → ⊥
sessions-apart s firsts seconds fault text (inl (lots, e)) line agree = lots agree.lots
sessions-apart s firsts seconds fault text (inr (lots, (n, at))) line agree =
    lot-apart s (n + 1) at.first at.second fault text at.here line
    (agree.each n at.first at.second (slice_get_within firsts n at.first at.is_first) at.is_first at.is_second)

line-is : (fault : SessionFault) (text : List ℕ) → IsLineOf fault text → text ≡ refused_text fault
line-is (LotsDiffer first second) text is = is
line-is (GridDiffers lot) text is = is
line-is (ShapeOf lot bidder) text is = is
line-is (OwnBidsOf lot bidder) text is = is
line-is (OutcomesOf lot one other) text is = is
line-is NoMemory text is = absurd is

-- ---- statuses

-- no answer that tells of lots has status 7
told-not-seven : (spent : Bool) → code_of (if spent then MasksSpent else Done) ≡ 7 → ⊥
told-not-seven true e = (let six_is : 6 ≡ 7 = e in omega (arith, six_is))
told-not-seven false e = (let zero_is : 0 ≡ 7 = e in omega (arith, zero_is))

-- ---- the job

module _ (files : List File) (call : Call) (from : IsOf files call) (session1 session2 servers : List ℕ) (s : Point) (out : List ℕ) where
  -- an errand that goes on from both sessions to a refusal is not done
  undone : IsDone (answer_over files (both_errand session1 session2 servers (λ both. refuses (Own OfWorlds) []))).status → ⊥
  undone done =
      let next : Both → Errand = λ both. refuses (Own OfWorlds) [] in
      let (both, reads, h) = both-yield files session1 session2 servers next done in
      not_done (Own OfWorlds) (subst (λ (a : Answer). IsDone a.status) (reads next) done)

  puts : (both : Both) → ReadsTo files (both_errand session1 session2 servers) both → IsBoth both → (answer : Answer) →
      ShowsTheSame s out both answer → WentOut answer call → PutsBothSessions files session1 session2 servers s out call
  puts both read h answer same put =
      let p = pairs-of s both.lots h.lots both.seconds h.seconds same.second_words same.mapped in
      let calls = subst (λ (a : Answer). Puts call a.files a.text) same.is put.calls in
      let own : same.seen ≡ map first_seen p.pairs = sym same.first_seen ∙ p.seen in
      let other : same.seen ≡ map second_seen p.pairs = own ∙ sym p.same in
      let lots : both.lots ≡ map (λ (q : LotPair s). loaded_lot (first_lot q)) p.pairs = sym p.firsts in
      let books : both.seconds ≡ map (λ (q : LotPair s). q.second) p.pairs = sym p.others in
      let words : same.second_words ≡ map (λ (q : LotPair s). q.second_words) p.pairs = sym p.words in
      record {
        rows = both.rows;
        lots = p.pairs;
        count = sym (length-map p.pairs (λ (q : LotPair s). loaded_lot (first_lot q))) ∙ ap length p.firsts ∙ h.many;
        read = subst (λ (x : Both). ReadsTo files (both_errand session1 session2 servers) x)
            (λ i. record { rows = both.rows; lots = lots i; seconds = books i }) read;
        same = p.same;
        status_is = put.code ∙ ap (λ (a : Answer). code_of a.status) same.is
            ∙ ap (λ (answers : List Answer). code_of (lots_status answers)) p.ends;
        gives = subst (λ (answers : List Answer). Puts call (files_of_worlds out (session_view_bytes (map first_seen p.pairs))
            (session_view_bytes (map second_seen p.pairs)) (session_words_bytes (map (λ (q : LotPair s). q.second_words) p.pairs)))
            (lots_text both.rows answers ++ equal_text)) p.ends
            (subst (λ (l : List File). Puts call l (lots_text both.rows (map cleared both.lots) ++ equal_text))
            (λ i. files_of_worlds out (session_view_bytes (own i)) (session_view_bytes (other i)) (session_words_bytes (words i))) calls);
      }

  refuses-so : (both : Both) (answer : Answer) (text : List ℕ) → TellsApart s both text →
      answer ≡ text_answer (Refused (Own OfWorlds)) text → WentWhole answer call → RefusesBothSessions s both call
  refuses-so both answer text t is put = record {
    fault = t.fault;
    first = t.apart;
    apart = sessions-apart s (first_books both) both.seconds t.fault text t.apart t.line;
    said = subst (λ (l : List ℕ). Puts call [] l) (line-is t.fault text t.line)
        (subst (λ (a : Answer). Puts call a.files a.text) is put.calls);
  }

  -- ---- done

  by-telling : (both : Both) → ReadsTo files (both_errand session1 session2 servers) both → (answer : Answer) →
      TellsOf s out both answer → WentOut answer call → PutsBothSessions files session1 session2 servers s out call
  by-telling both read answer (inl same) put =
      puts both read (is-both files session1 session2 servers both read) answer same put
  by-telling both read answer (inr (text, t, is)) put =
      absurd (not_done (Own OfWorlds) (subst (λ (a : Answer). IsDone a.status) is put.done))

  pub puts-both : IsDoneCode call.status → RunsJob (Some (Comparing session1 session2 servers s out)) call →
      PutsBothSessions files session1 session2 servers s out call
  puts-both code r =
      shown-ends files call from code {C = PutsBothSessions files session1 session2 servers s out call} OfWorlds
      (both_errand session1 session2 servers) (ShowsSessions session1 session2 servers s out) undone
      (λ answer shows put. by-telling shows.value
      (read-to files call.shelf call.shelf_now from (both_errand session1 session2 servers) shows.value shows.read) answer
      shows.shown put) r

  -- ---- refused

  by-refusal : (both : Both) (answer : Answer) → TellsOf s out both answer → code_of answer.status ≡ 7 →
      WentWhole answer call → RefusesBothSessions s both call
  by-refusal both answer (inl same) seven put =
      absurd (told-not-seven (any_spent (map cleared both.lots))
      (sym (ap (λ (a : Answer). code_of a.status) same.is) ∙ seven))
  by-refusal both answer (inr (text, t, is)) seven put = refuses-so both answer text t is put

  pub refuses-both : (both : Both) → ReadsTo files (both_errand session1 session2 servers) both → call.status ≡ 7 →
      RunsJob (Some (Comparing session1 session2 servers s out)) call → RefusesBothSessions s both call
  refuses-both both read e (inl (answer, shows, r)) =
      let step = both_errand session1 session2 servers in
      let put : WentWhole answer call = refused-answer files call from e answer r in
      let again = read-to files call.shelf call.shelf_now from step shows.value shows.read in
      let is = one-value files step shows.value both again read told-both in
      by-refusal both answer (subst (λ (b : Both). TellsOf s out b answer) is shows.shown) (sym put.code ∙ e) put
  refuses-both both read e (inr f) =
      let next : Both → Errand = λ both. answers Done [] in
      let whole = refused-whole files call from e (both_errand session1 session2 servers next) (f next) in
      absurd (told-not-seven false (ap (λ (a : Answer). code_of a.status) (sym (read next) ∙ whole.is) ∙ sym whole.out.code ∙ e))

-- ---- the words

module _ (files : List File) (call : Call) (session1 session2 servers server out : List ℕ) where
  abbrev pair_words : List (List ℕ)
  pair_words = codes "pair" ∷ session1 ∷ session2 ∷ servers ∷ server ∷ out ∷ []

  pub puts-sessions : IsDoneSession files pair_words call →
      (s : Point) × (server_of server ≡ Some s) × PutsBothSessions files session1 session2 servers s out call
  puts-sessions done =
      let from = done.ran.from in
      let (s, e, r) = pair-at-server Comparing (λ job. RunsJob job call) session1 session2 servers server out
      (λ r. no-job files call from done.code r) done.ran.runs in
      (s, e, puts-both files call from session1 session2 servers s out done.code r)

  pub refuses-sessions : (both : Both) → RunsSession files pair_words call →
      ReadsTo files (both_errand session1 session2 servers) both → call.status ≡ 7 →
      (s : Point) × (server_of server ≡ Some s) × RefusesBothSessions s both call
  refuses-sessions both ran read e =
      let (s, is, r) = pair-at-server Comparing (λ job. RunsJob job call) session1 session2 servers server out
      (λ r. no-usage files call ran.from e r) ran.runs in
      (s, is, refuses-both files call ran.from session1 session2 servers s out both read e r)
