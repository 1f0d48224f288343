-- What each command of the program of sessions has read and said.
use Rattle.std.proofs.Common.{◌≡◌, ◌+◌, ℕ, List, [], ◌∷◌, ◌++◌, length, map, sum, Some, refl, sym, ap, ◌∙◌, arith, subst}
use Rattle.std.specs.Prelude.{All, codes, option_map}
use Rattle.std.proofs.lemmas.List.Sums.{sum-map}
use Rattle.beet_store.specs.Files.{File}
use Rattle.beet_book.specs.declared.server_file.TheConstants.{SERVERS_LIMIT}
use Rattle.beet_book.specs.declared.sources.Servers.{Servers}
use Rattle.beet_world.specs.declared.schedule.TheConstants.{SCHEDULE_LIMIT}
use Rattle.beet_command.specs.Words.{are_names}
use Rattle.beet_errand.specs.Errands.{Answer, Step, ◌>>=◌, gives, reads}
use Rattle.beet_errand.specs.Overs.{ReadsTo}
use Rattle.beet_errand.specs.Statuses.{code_of}
use Rattle.beet_headline.specs.Statements.{AllHaveEnded}
use Rattle.beet_load.specs.Loading.{AuctionWithBidders}
use Rattle.beet_lots.specs.LotEvents.{of_lot}
use Rattle.beet_lots.specs.LotWorlds.{lot_triples}
use Rattle.beet_lots.specs.declared.lots.LotDelivery.{LotDelivery}
use Rattle.beet_lot_files.specs.LotSchedules.{lot_schedule_of}
use Rattle.beet_lot_files.specs.SeedFiles.{seed_servers_of}
use Rattle.beet_lot_files.specs.SessionFiles.{session_of}
use Rattle.beet_lot_files.specs.declared.session_file.LotRow.{LotRow}
use Rattle.beet_lot_files.specs.declared.session_file.TheConstants.{SESSION_LIMIT}
use Rattle.beet_lot_load.specs.Lots.{lots_errand}
use Rattle.beet_lot_load.specs.Telling.{lots_status, lots_text}
use Rattle.beet_job_rehearse.specs.StandingTexts.{undelivered_line}
use Rattle.beet_job_rehearse.specs.declared.standing.Rehearsal.{Rehearsal}
use Rattle.beet_job_session.specs.Sessions.{session_answer, session_errand, session_job}
use Rattle.beet_job_replay.specs.Replay.{replay_errand, replay_job, replayed, undelivered_in}
use Rattle.beet_pair_words.specs.Jobs.{Answering}
use Rattle.beet_session_app.specs.Doing.{task_of}
use Rattle.beet_app_laws.specs.Calls.{Call, Says}
use Rattle.beet_program_laws.proofs.Ends.{WentOut, found, named-in}
use Rattle.beet_program_laws.proofs.Read.{IsLoaded}
use Rattle.beet_program_laws.proofs.Steps.{Yields, any-yield, gives-yield, then-told}
use Rattle.beet_session_laws.specs.Lots.{IsDoneSession, LotsRead, RunsLots, ShowsLots, standing_answers}
use Rattle.beet_session_laws.proofs.Reading.{AreAll, lots-back, lots-many, lots-of, lots-yield}
use Rattle.beet_session_laws.proofs.Standings.{all-end, answers-told, ends-told, left-told, lot_rehearsals, stand-alone}

module _ (files : List File) (session servers : List ℕ) where
  -- what is read of the lots
  record AreRead : Type 0 where
    rows : List LotRow
    rows_read : ReadsTo files (reads session SESSION_LIMIT session_of) rows
    sources : Servers
    sources_read : ReadsTo files (reads servers SERVERS_LIMIT seed_servers_of) sources
    loaded : List AuctionWithBidders
    loaded_read : ReadsTo files (lots_errand sources rows) loaded
    each : All IsLoaded loaded
    many : length loaded ≡ length rows

  abbrev lots-read : AreRead → LotsRead files session servers
  lots-read r = record {
    rows = record { value = r.rows; is = r.rows_read };
    sources = record { value = r.sources; is = r.sources_read };
    lots = lots-of r.loaded r.each;
    count = lots-many r.loaded r.each ∙ r.many;
    are_read = subst (λ (l : List AuctionWithBidders). ReadsTo files (lots_errand r.sources r.rows) l)
        (sym (lots-back r.loaded r.each)) r.loaded_read;
  }

  -- a job that goes on from the lots
  lots-then : (rest : List LotRow → List AuctionWithBidders → Step Answer) (Q : Answer → Type 0) →
      ((r : AreRead) → Yields files (rest r.rows r.loaded) Q) →
      Yields files (reads session SESSION_LIMIT session_of >>= λ rows.
      reads servers SERVERS_LIMIT seed_servers_of >>= λ sources. lots_errand sources rows >>= λ loaded. rest rows loaded) Q
  lots-then rest Q go =
      then-told files (reads session SESSION_LIMIT session_of) _ (λ rows. Unit {0}) Q
      (any-yield files session SESSION_LIMIT session_of) (λ rows r1 any.
      then-told files (reads servers SERVERS_LIMIT seed_servers_of) _ (λ sources. Unit {0}) Q
      (any-yield files servers SERVERS_LIMIT seed_servers_of) (λ sources r2 any.
      then-told files (lots_errand sources rows) (λ loaded. rest rows loaded) (AreAll IsLoaded (length rows)) Q
      (lots-yield files sources rows) (λ loaded r3 are.
      go (record {
        rows = rows;
        rows_read = r1;
        sources = sources;
        sources_read = r2;
        loaded = loaded;
        loaded_read = r3;
        each = are.each;
        many = are.many;
      }))))

  -- ---- session

  record IsRun (answer : Answer) : Type 0 where
    read : AreRead
    is : answer ≡ session_answer read.rows read.loaded

  run-yield : Yields files (session_job session servers) IsRun
  run-yield = lots-then (λ rows loaded. gives (session_answer rows loaded)) IsRun
      (λ r. gives-yield files IsRun (session_answer r.rows r.loaded) (record { read = r; is = refl }))

  run-by : (call : Call) (answer : Answer) → IsRun answer → WentOut answer call → RunsLots files session servers call
  run-by call answer t o =
      let out : WentOut (session_answer t.read.rows t.read.loaded) call = subst (λ (a : Answer). WentOut a call) t.is o in
      let told = ends-told t.read.loaded t.read.each in record {
        read = lots-read t.read;
        status_is = out.code ∙ ap (λ (answers : List Answer). code_of (lots_status answers)) told;
        said = subst (λ (answers : List Answer). Says call (lots_text t.read.rows answers)) told out.calls;
      }

  pub runs : (call : Call) → IsDoneSession files (codes "session" ∷ session ∷ servers ∷ []) call →
      RunsLots files session servers call
  runs call done =
      let r = named-in files call done.ran.from done.code (λ e. task_of (option_map Answering e)) refl
      (are_names (session ∷ servers ∷ [])) (Some (session_errand session servers)) done.ran.runs in
      let f = found files call done.ran.from done.code (session_job session servers) (λ answer. answer) IsRun run-yield r in
      run-by call f.value f.holds f.out

  -- ---- replay

  module _ (schedule : List ℕ) where
    record IsReplayed (answer : Answer) : Type 0 where
      read : AreRead
      deliveries : List LotDelivery
      scheduled : ReadsTo files (reads schedule SCHEDULE_LIMIT (lot_schedule_of (length read.rows))) deliveries
      is : answer ≡ replayed read.rows read.loaded deliveries

    replay-yield : Yields files (replay_job session servers schedule) IsReplayed
    replay-yield =
        lots-then (λ rows loaded. reads schedule SCHEDULE_LIMIT (lot_schedule_of (length rows)) >>= λ deliveries.
        gives (replayed rows loaded deliveries)) IsReplayed (λ r.
        then-told files (reads schedule SCHEDULE_LIMIT (lot_schedule_of (length r.rows)))
        (λ deliveries. gives (replayed r.rows r.loaded deliveries)) (λ deliveries. Unit {0}) IsReplayed
        (any-yield files schedule SCHEDULE_LIMIT (lot_schedule_of (length r.rows))) (λ deliveries r4 any.
        gives-yield files IsReplayed (replayed r.rows r.loaded deliveries)
        (record { read = r; deliveries = deliveries; scheduled = r4; is = refl })))

    replay-by : (call : Call) (answer : Answer) → IsReplayed answer → WentOut answer call →
        ShowsLots files session servers schedule call
    replay-by call answer t o =
        let out : WentOut (replayed t.read.rows t.read.loaded t.deliveries) call =
        subst (λ (a : Answer). WentOut a call) t.is o in
        let rehearsals : List Rehearsal = lot_rehearsals t.deliveries 0 t.read.loaded in
        let total : ℕ = sum (map (λ (r : Rehearsal). r.undelivered) rehearsals) in
        let told = answers-told t.deliveries 0 t.read.loaded t.read.each in
        let lots = lots-of t.read.loaded t.read.each in
        let alone = stand-alone t.deliveries 0 t.read.loaded t.read.each in record {
          read = lots-read t.read;
          deliveries = record { value = t.deliveries; is = t.scheduled };
          rehearsals = rehearsals;
          alone = alone;
          all = λ none number lot is.
              let own : 0 + number ≡ number = omega arith in
              subst (λ n. AllHaveEnded lot.book lot.words (of_lot n (lot_triples t.deliveries))) own
              (all-end (lot_triples t.deliveries) 0 lots rehearsals alone
              (sym (sum-map (λ (r : Rehearsal). r.undelivered) rehearsals) ∙ none) number lot is);
          status_is = out.code ∙ ap (λ (answers : List Answer). code_of (lots_status answers)) told;
          said =
              let left = left-told t.deliveries 0 t.read.loaded in
              subst (λ (n : ℕ). Says call (lots_text t.read.rows (standing_answers lots rehearsals) ++ undelivered_line n)) left
              (subst (λ (answers : List Answer). Says call (lots_text t.read.rows answers
              ++ undelivered_line (undelivered_in t.deliveries 0 t.read.loaded))) told out.calls);
        }

    pub replays : (call : Call) → IsDoneSession files (codes "replay" ∷ session ∷ servers ∷ schedule ∷ []) call →
        ShowsLots files session servers schedule call
    replays call done =
        let r = named-in files call done.ran.from done.code (λ e. task_of (option_map Answering e)) refl
        (are_names (session ∷ servers ∷ schedule ∷ [])) (Some (replay_errand session servers schedule)) done.ran.runs in
        let f = found files call done.ran.from done.code (replay_job session servers schedule) (λ answer. answer) IsReplayed
        replay-yield r in
        replay-by call f.value f.holds f.out
