-- What is right for a job leads it to its end, job by job.
use Rattle.std.proofs.Common.{◌≡◌, ◌∷◌, ◌∙◌, ◌||◌, ◌+◌, inl, inr, ℕ, Bool, false, List, [], All, length, map, Option}
use Rattle.std.proofs.Common.{Some, None, if◌then◌else◌, ap, refl, subst, sym}
use Rattle.std.specs.Prelude.{codes, option_map}
use Rattle.std.proofs.lemmas.List.Elements.{All-head, All-tail}
use Rattle.beet_store.specs.Files.{File}
use Rattle.beet_book.specs.Farmers.{book_with}
use Rattle.beet_book.specs.declared.server_file.TheConstants.{SERVERS_LIMIT}
use Rattle.beet_delivery.specs.Events.{after}
use Rattle.beet_world.specs.declared.schedule.TheConstants.{SCHEDULE_LIMIT}
use Rattle.beet_auction.specs.Endings.{book_rounds}
use Rattle.beet_lots.specs.LotEvents.{of_lot}
use Rattle.beet_lots.specs.LotWorlds.{lot_triples}
use Rattle.beet_lots.specs.declared.lots.LotDelivery.{LotDelivery}
use Rattle.beet_command.specs.Words.{are_names}
use Rattle.beet_errand.specs.Errands.{Answer, Errand, Step, answers, reads}
use Rattle.beet_errand.specs.Overs.{ReadsTo}
use Rattle.beet_errand.specs.declared.answer.OwnRefusal.TheVariants.{OfWorlds}
use Rattle.beet_errand.specs.declared.answer.Status.TheVariants.{Done, MasksSpent}
use Rattle.beet_load.specs.Loading.{AuctionWithBidders}
use Rattle.beet_load.specs.Servers.{masks_of}
use Rattle.beet_lot_files.specs.LotSchedules.{lot_schedule_of}
use Rattle.beet_lot_files.specs.SeedFiles.{seed_servers_of}
use Rattle.beet_lot_files.specs.SessionFiles.{session_of}
use Rattle.beet_lot_files.specs.declared.session_file.TheConstants.{SESSION_LIMIT}
use Rattle.beet_run.specs.Outcomes.{cleared}
use Rattle.beet_lot_load.specs.Lots.{lots_errand}
use Rattle.beet_lot_load.specs.Telling.{any_spent, is_spent}
use Rattle.beet_job_session.specs.Sessions.{session_errand}
use Rattle.beet_job_replay.specs.Replay.{lot_answers, replay_errand}
use Rattle.beet_job_session_pair.specs.Ending.{ShowsSessions, TellsOf}
use Rattle.beet_job_session_pair.specs.Reading.{Both, both_errand, first_books}
use Rattle.beet_pair_words.specs.Jobs.{Answering, Comparing, Job}
use Rattle.beet_pair_words.proofs.Naming.{errand-named, pair-named}
use Rattle.beet_session_app.specs.Jobs.{job_of}
use Rattle.beet_app_laws.specs.Calls.{Call, IsOf}
use Rattle.beet_app_laws.specs.Dues.{EndsAsDue}
use Rattle.beet_app_laws.proofs.Led.{read-to, run-led, shows-led}
use Rattle.beet_app_laws.proofs.Telling.{one-value}
use Rattle.beet_completeness_laws.specs.WithoutFault.{IsDoneOrShort}
use Rattle.beet_completeness_laws.proofs.Jobs.{rehearsal-done}
use Rattle.beet_completeness_laws.proofs.Leading.{IsDoneOver, book-done, then-done, undisturbed}
use Rattle.beet_session_laws.specs.Complete.{CanPair, CanReplay, CanRunSession, MasksSufficeIn, RunsSessionWithoutFault}
use Rattle.beet_session_laws.specs.Pairs.{SessionsAgree}
use Rattle.beet_session_laws.proofs.PairReading.{told-both}
use Rattle.beet_session_laws.proofs.Pairing.{RunsJob, sessions-apart}

-- the masks of no lot are spent where they suffice in each
none-spent : (lots : List AuctionWithBidders) → All MasksSufficeIn lots → any_spent (map cleared lots) ≡ false
none-spent [] h = refl
none-spent (lot ∷ lots) h =
    let done = book-done (book_with lot.grid lot.farmers) (masks_of lot.servers) (All-head MasksSufficeIn lot lots h) in
    ap (λ (b : Bool). b || any_spent (map cleared lots)) (sym (ap is_spent done)) ∙ none-spent lots (All-tail MasksSufficeIn lot lots h)

module _ (files : List File) where
  -- nor does a server of a lot meet the third rejected mask, whatever is delivered
  none-met : (deliveries : List LotDelivery) (number : ℕ) (lots : List AuctionWithBidders) → All MasksSufficeIn lots →
      any_spent (lot_answers deliveries number lots) ≡ false
  none-met deliveries number [] h = refl
  none-met deliveries number (lot ∷ lots) h =
      let book = book_with lot.grid lot.farmers in
      let masks = masks_of lot.servers in
      let done = rehearsal-done files book masks (All-head MasksSufficeIn lot lots h)
      (after (book_rounds book masks) (of_lot number (lot_triples deliveries))) in
      ap (λ (b : Bool). b || any_spent (lot_answers deliveries (number + 1) lots)) (sym (ap is_spent done))
      ∙ none-met deliveries (number + 1) lots (All-tail MasksSufficeIn lot lots h)

  session-done : (session servers : List ℕ) → CanRunSession files session servers → IsDoneOver files (session_errand session servers)
  session-done session servers can =
      then-done files (reads session SESSION_LIMIT session_of) can.rows.value _ can.rows.is (
      then-done files (reads servers SERVERS_LIMIT seed_servers_of) can.sources.value _ can.sources.is (
      then-done files (lots_errand can.sources.value can.rows.value) can.lots.value _ can.lots.is
      (ap (λ (b : Bool). if b then MasksSpent else Done) (sym (none-spent can.lots.value can.masks)))))

  replay-done : (session servers schedule : List ℕ) → CanReplay files session servers schedule →
      IsDoneOver files (replay_errand session servers schedule)
  replay-done session servers schedule can =
      let run = can.runs in
      then-done files (reads session SESSION_LIMIT session_of) run.rows.value _ run.rows.is (
      then-done files (reads servers SERVERS_LIMIT seed_servers_of) run.sources.value _ run.sources.is (
      then-done files (lots_errand run.sources.value run.rows.value) run.lots.value _ run.lots.is (
      then-done files (reads schedule SCHEDULE_LIMIT (lot_schedule_of (length run.rows.value))) can.deliveries.value _
      can.deliveries.is
      (ap (λ (b : Bool). if b then MasksSpent else Done)
      (sym (none-met can.deliveries.value 0 run.lots.value run.masks))))))

  -- the words name a job that is done over the files
  ends-done : (words : List (List ℕ)) (call : Call) (b : Bool) (errand : Errand) → RunsSessionWithoutFault files words call →
      job_of words ≡ option_map Answering (if b then Some errand else None) → IsDoneOver files errand → IsDoneOrShort call
  ends-done words call b errand w row done =
      undisturbed files words call w
      (run-led files call.shelf call.shelf_now w.from errand call.desk call.desk_now call.status Done done
      (errand-named (λ job. RunsJob job call) b errand w.job (sym row ∙ w.named)
      (subst (λ (job : Option Job). RunsJob job call) row w.runs)))

  pub session : (call : Call) (name servers : List ℕ) →
      RunsSessionWithoutFault files (codes "session" ∷ name ∷ servers ∷ []) call →
      CanRunSession files name servers → IsDoneOrShort call
  session call name servers w can =
      ends-done (codes "session" ∷ name ∷ servers ∷ []) call (are_names (name ∷ servers ∷ [])) (session_errand name servers) w
      refl (session-done name servers can)

  pub replay : (call : Call) (name servers schedule : List ℕ) →
      RunsSessionWithoutFault files (codes "replay" ∷ name ∷ servers ∷ schedule ∷ []) call →
      CanReplay files name servers schedule → IsDoneOrShort call
  replay call name servers schedule w can =
      ends-done (codes "replay" ∷ name ∷ servers ∷ schedule ∷ []) call (are_names (name ∷ servers ∷ schedule ∷ []))
      (replay_errand name servers schedule) w refl (replay-done name servers schedule can)

  -- ---- pair

  module _ (call : Call) (session1 session2 servers server out : List ℕ) (can : CanPair files session1 session2 servers server) where
    abbrev step : Step Both
    step = both_errand session1 session2 servers

    abbrev all : List AuctionWithBidders
    all = can.both.value.lots

    -- what two sessions that agree are told by is no refusal, and the masks of no lot of the first are spent
    told-done : (both : Both) → ReadsTo files step both → (answer : Answer) →
        TellsOf can.s out both answer → Done ≡ answer.status
    told-done both read answer (inl same) =
        let is = one-value files step can.both.value both can.both.is read told-both in
        ap (λ (b : Bool). if b then MasksSpent else Done)
        (sym (none-spent all can.masks) ∙ ap (λ (b : Both). any_spent (map cleared b.lots)) is)
        ∙ sym (ap (λ (a : Answer). a.status) same.is)
    told-done both read answer (inr (text, t, e)) =
        let is = one-value files step can.both.value both can.both.is read told-both in
        absurd (sessions-apart can.s (first_books both) both.seconds t.fault text t.apart t.line
        (subst (λ (b : Both). SessionsAgree can.s (first_books b) b.seconds) is can.agree))

    due-by : IsOf files call → RunsJob (Some (Comparing session1 session2 servers can.s out)) call → EndsAsDue Done call.status
    due-by from r =
        let next : Both → Errand = λ both. answers Done [] in
        shows-led files call from Done OfWorlds step (ShowsSessions session1 session2 servers can.s out) next
        (sym (ap (λ (a : Answer). a.status) (can.both.is next)))
        (λ answer shows. told-done shows.value (read-to files call.shelf call.shelf_now from step shows.value shows.read) answer
        shows.shown) r

    pub paired : RunsSessionWithoutFault files (codes "pair" ∷ session1 ∷ session2 ∷ servers ∷ server ∷ out ∷ []) call →
        IsDoneOrShort call
    paired w =
        undisturbed files (codes "pair" ∷ session1 ∷ session2 ∷ servers ∷ server ∷ out ∷ []) call w
        (due-by w.from
        (pair-named Comparing (λ job. RunsJob job call) session1 session2 servers server out can.s w.job can.server_is w.named w.runs))
