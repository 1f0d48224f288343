-- The answer for two sessions.
use Rattle.std.proofs.Common.{◌≡◌, ℕ, true, false, Bool, List, map, Result, Ok, Err, IfErr, IfOk, inl, inr, refl, sym, ap, subst, ◌∙◌}
use Rattle.std.specs.Prelude.{if◌then◌else◌}
use Rattle.beet_field.specs.declared.point.Point.{Point}
use Rattle.beet_store.specs.Files.{File, Seen}
use Rattle.beet_words.specs.Bundles.{Words}
use Rattle.beet_bids.specs.Books.{Book}
use Rattle.beet_errand.specs.Errands.{Answer, text_answer}
use Rattle.beet_errand.specs.Fetches.{IsDone, Reads}
use Rattle.beet_errand.specs.Tasks.{DoesTask}
use Rattle.beet_errand.specs.Worlds.{files_of_worlds, telling_equal}
use Rattle.beet_errand.specs.declared.answer.Status.TheVariants.{Done, MasksSpent}
use Rattle.beet_errand.specs.declared.answer.Stop.{Stop}
use Rattle.beet_errand.specs.declared.answer.Stop.TheVariants.{Refused, OutOfMemory}
use Rattle.beet_errand.proofs.Tasks.{read_value, reading_stops, shown_ends, shown_refused}
use Rattle.beet_run.specs.Outcomes.{cleared}
use Rattle.beet_lot_load.specs.Telling.{any_spent, lots_status}
use Rattle.beet_lot_load.proofs.LotsTelling.{told-reply}
use Rattle.beet_lot_map.specs.LotMaps.{RefusesSession, SessionMapped, session_transcripts}
use Rattle.beet_lot_map.specs.declared.mapping.SessionFault.{SessionFault}
use Rattle.beet_lot_view.specs.SessionViews.{session_view_bytes, session_words_bytes}
use Rattle.beet_job_session_pair.specs.Answering.{ShowsTheSame}
use Rattle.beet_job_session_pair.specs.Ending.{AnswersSessions, TellsRefusal, pair_task}
use Rattle.beet_job_session_pair.specs.Kept.{both_of, loaded_each}
use Rattle.beet_job_session_pair.specs.Reading.{both_errand, first_books as books_of, first_words as words_of}
use Rattle.beet_job_session_pair.specs.Seeing.{AreSeen}
use Rattle.beet_job_session_pair.specs.Starting.{CanStartEach}
use Rattle.beet_job_session_pair.specs.declared.answering.SeenSessions.{SeenSessions}
use Rattle.beet_job_session_pair.specs.declared.sessions.BothSessions.{BothSessions}
use Rattle.beet_job_session_pair.proofs.KeptLots.{first-books, first-words}

module _ (s : Point) (both : BothSessions) (runs : CanStartEach both.lots.books.items both.lots.words.items) where
  abbrev books : List Book
  books = both.lots.books.items

  abbrev words : List Words
  words = both.lots.words.items

  books-are : books_of (both_of both) ≡ books
  books-are = first-books books words runs

  words-are : words_of (both_of both) ≡ words
  words-are = first-words books words runs

  -- the answer for sessions that look the same
  pub shows-same : (out : List ℕ) (mapped : List Words) (seen : SeenSessions) (reply : Answer) →
      SessionMapped s both.lots.books.items both.lots.words.items both.seconds.items mapped →
      session_transcripts s both.seconds.items mapped ≡ session_transcripts s both.lots.books.items both.lots.words.items →
      AreSeen s both.rows both.lots.books.items both.lots.words.items mapped seen →
      reply ≡ telling_equal (text_answer (if seen.told.spent then MasksSpent else Done) seen.told.text.items)
      (files_of_worlds out seen.first seen.second seen.words) →
      ShowsTheSame s out (both_of both) reply
  shows-same out mapped seen reply m looks are is =
      let shown : List (List ℕ) = session_transcripts s books words in
      let ended : List Answer = map cleared (loaded_each books words) in
      let text : Answer = text_answer (if seen.told.spent then MasksSpent else Done) seen.told.text.items in
      record {
        second_words = mapped;
        mapped = subst (λ (b : List Book). SessionMapped s b (words_of (both_of both)) both.seconds.items mapped) (sym books-are)
            (subst (λ (w : List Words). SessionMapped s books w both.seconds.items mapped) (sym words-are) m);
        seen = shown;
        first_seen = ap (λ (b : List Book). session_transcripts s b (words_of (both_of both))) books-are
            ∙ ap (λ (w : List Words). session_transcripts s books w) words-are;
        second_seen = looks;
        is = is ∙ ap (λ (a : Answer). telling_equal a (files_of_worlds out seen.first seen.second seen.words))
            (sym (told-reply both.rows ended seen.told text are.told refl))
            ∙ files (telling_equal (text_answer (lots_status ended) _)) are;
      } where
        files : (tell : List File → Answer) → AreSeen s both.rows both.lots.books.items both.lots.words.items mapped seen →
            tell (files_of_worlds out seen.first seen.second seen.words)
            ≡ tell (files_of_worlds out (session_view_bytes (session_transcripts s both.lots.books.items both.lots.words.items))
            (session_view_bytes (session_transcripts s both.lots.books.items both.lots.words.items)) (session_words_bytes mapped))
        files tell are = rw (are.first, are.second, are.second_words) refl

  -- sessions that do not
  pub refused-answers : (out : List ℕ) (fault : SessionFault) (stop : Stop) →
      RefusesSession s both.lots.books.items both.seconds.items fault → TellsRefusal fault stop →
      AnswersSessions s out (both_of both) (Err stop)
  refused-answers out fault (Refused refusal line) r t = (
    t.0,
    record {
      fault = fault;
      apart = subst (λ (b : List Book). RefusesSession s b both.seconds.items fault) (sym books-are) r;
      line = t.1;
    },
  )
  refused-answers out fault OutOfMemory r t = tt

module _ (s : Point) (both : BothSessions) where
  -- the answer for sessions that look the same is the answer for them
  pub same-answers : (out : List ℕ) (result : Result Answer Stop) → IfErr result (λ stop. stop ≡ OutOfMemory) →
      IfOk result (ShowsTheSame s out (both_of both)) → AnswersSessions s out (both_of both) result
  same-answers out (Ok answer) memory same = same
  same-answers out (Err (Refused refusal line)) memory same = absurd cc
  same-answers out (Err OutOfMemory) memory same = tt

-- a session is done
lots-done : (answers : List Answer) → IsDone (lots_status answers)
lots-done answers = go (any_spent answers) where
  go : (spent : Bool) → IsDone (if spent then MasksSpent else Done)
  go true = inr refl
  go false = inl refl

-- both sessions are read, and answered
pub paired : {old now : Seen} (session1 session2 servers : List ℕ) (s : Point) (out : List ℕ) (both : BothSessions)
    (result : Result Answer Stop) → Reads both_of old now (both_errand session1 session2 servers) (Ok both) →
    AnswersSessions s out (both_of both) result → DoesTask (pair_task session1 session2 servers s out) old now result
paired session1 session2 servers s out both (Ok answer) r h =
    shown_ends answer
    (subst (λ (a : Answer). IsDone a.status) (sym h.is) (lots-done (map cleared (loaded_each both.lots.books.items both.lots.words.items))))
    (record { value = both_of both; read = read_value r; shown = inl h }) r.cause
paired session1 session2 servers s out both (Err (Refused refusal line)) r h =
    rw h.0 (shown_refused line (record { value = both_of both; read = read_value r; shown = inr (line.items, h.1, refl) }) r.cause)
paired session1 session2 servers s out both (Err OutOfMemory) r h =
    reading_stops OutOfMemory (λ next. (next r.gives.0, r.gives.2 next)) r.cause r.later
