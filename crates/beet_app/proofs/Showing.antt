-- What is left by a run that has compared two worlds or audited transcripts.
use Rattle.std.proofs.Common.{◌≡◌, ◌≢◌, ◌++◌, inl, inr, ℕ, List, [], ◌∷◌, Option, Some, None, Ok, ap, sym, ◌∙◌, arith, get_or}
use Rattle.std.specs.Prelude.{codes, IsSomeAnd, MatchOption}
use Rattle.std.proofs.lemmas.List.{append_cancel_left}
use Rattle.beet_field.specs.declared.point.Point.{Point}
use Rattle.beet_store.specs.Files.{File, Told, bytes_of}
use Rattle.beet_store.specs.Desks.{DeskTold, Given, LeavesGiven, Replaced, Say}
use Rattle.beet_words.specs.Bundles.{bundle_bytes}
use Rattle.beet_bids.specs.Books.{Book}
use Rattle.beet_view.specs.BookViews.{transcript_for}
use Rattle.beet_errand.specs.Errands.{Answer, Step}
use Rattle.beet_errand.specs.Fetches.{IsDone}
use Rattle.beet_errand.specs.Tasks.{LeavesShown, ShowsRead, ToShow}
use Rattle.beet_errand.specs.Worlds.{equal_text, files_of_worlds}
use Rattle.beet_errand.specs.declared.answer.OwnRefusal.{OwnRefusal}
use Rattle.beet_errand.specs.declared.answer.OwnRefusal.TheVariants.{OfWorlds, OfAudit}
use Rattle.beet_errand.specs.declared.answer.Refusal.TheVariants.{Own}
use Rattle.beet_errand.proofs.Putting.{LeavesAll, leaves_all}
use Rattle.beet_errand.proofs.Statuses.{not_done}
use Rattle.beet_job_worlds.specs.Answering.{ShowsTheSame, worlds_text}
use Rattle.beet_job_worlds.specs.Ending.{compared_errand}
use Rattle.beet_job_worlds.specs.Reading.{Both, both_errand, first_book, second_book, words_read}
use Rattle.beet_five_load.specs.FiveLoading.{FiveRead}
use Rattle.beet_five_view.specs.JointBooks.{joint_transcript}
use Rattle.beet_five_view.specs.JointViews.{joint_bytes}
use Rattle.beet_five_view.specs.WordsFiles.{words_bytes}
use Rattle.beet_five_run.specs.FiveOutcomes.{cleared_by_five}
use Rattle.beet_job_five_worlds.specs.Answering.{ShowsTheSameForTwo}
use Rattle.beet_job_five_worlds.specs.Ending.{compared_errand as compared_for_two}
use Rattle.beet_job_five_worlds.specs.Reading.{both_errand as both_of_five, second_book as second_of_five}
use Rattle.beet_audit.specs.OneRuns.{OneRun}
use Rattle.beet_audit.specs.declared.fault.AuditFault.{AuditFault}
use Rattle.beet_job_audit.specs.Ending.{TellsFinding, audit_answer}
use Rattle.beet_job_audit.specs.Reading.{read_errand}
use Rattle.beet_job_audit.specs.declared.reading.ReadViews.{ReadViews}
use Rattle.beet_app.specs.Jobs.{Job, Answering, Comparing, ComparingForTwo, Auditing}
use Rattle.beet_app.specs.Doing.{task_of}
use Rattle.beet_app.specs.Showing.{HoldsBoth, HoldsOneRun, HoldsSame, HoldsWorldsForTwo, LeavesRead, Shows}

-- a file is put and taken, and what follows stands on what it left
put_then : (given : Given) (now : Option Given) (file : File) (files : List File) (text : List ℕ) (P : Type 0) →
    LeavesAll (Some given) now (file ∷ files) text (Ok tt) →
    ((next : Given) → Replaced file.0 file.1 given next → LeavesAll (Some next) now files text (Ok tt) → P) → P
put_then given now file files text P (inl (Some next, call, rest)) f = f next call rest
put_then given now file files text P (inl (None, call, rest)) f = absurd call
put_then given now file files text P (inr (fault, e, call)) f = absurd cc

-- three files stand, and a text was said
pub record Hold (first second third : File) (text : List ℕ) (given now : Given) : Type 0 where
  pub one : bytes_of now.files first.0 ≡ Some first.1
  pub two : bytes_of now.files second.0 ≡ Some second.1
  pub three : bytes_of now.files third.0 ≡ Some third.1
  pub said : now.said ≡ given.said ++ text

-- the text is said after three files
said_then : (first second third : File) (text : List ℕ) (given g1 g2 g3 : Given) (now : Option Given) →
    first.0 ≢ second.0 → first.0 ≢ third.0 → second.0 ≢ third.0 →
    Replaced first.0 first.1 given g1 → Replaced second.0 second.1 g1 g2 → Replaced third.0 third.1 g2 g3 →
    LeavesGiven (Some g3) now (Say text (Ok tt)) → IsSomeAnd now (Hold first second third text given)
said_then first second third text given g1 g2 g3 None d e f r1 r2 r3 call = absurd call
said_then first second third text given g1 g2 g3 (Some now) d e f r1 r2 r3 call =
    let files = call.files in record {
      one = ap (λ l. bytes_of l first.0) files ∙ r3.rest.others first.0 e ∙ r2.rest.others first.0 d ∙ r1.file;
      two = ap (λ l. bytes_of l second.0) files ∙ r3.rest.others second.0 f ∙ r2.file;
      three = ap (λ l. bytes_of l third.0) files ∙ r3.file;
      said = call.said ∙ ap (λ s. s ++ text) (r3.rest.said ∙ r2.rest.said ∙ r1.rest.said);
    }

pub three_stand : (first second third : File) (text : List ℕ) (given : Given) (now : Option Given) →
    first.0 ≢ second.0 → first.0 ≢ third.0 → second.0 ≢ third.0 →
    LeavesAll (Some given) now (first ∷ second ∷ third ∷ []) text (Ok tt) →
    IsSomeAnd now (Hold first second third text given)
three_stand first second third text given now d e f h =
    let P = IsSomeAnd now (Hold first second third text given) in
    put_then given now first (second ∷ third ∷ []) text P h (λ g1 r1 h1.
    put_then g1 now second (third ∷ []) text P h1 (λ g2 r2 h2.
    put_then g2 now third [] text P h2 (λ g3 r3 h3.
    said_then first second third text given g1 g2 g3 now d e f r1 r2 r3 h3)))

-- names that go on with another second byte differ
pub apart : (out one other : List ℕ) → get_or one 1 0 ≢ get_or other 1 0 → (out ++ one) ≢ (out ++ other)
apart out one other d e = d (ap (λ l. get_or l 1 0) (append_cancel_left out one other e))

first-second : (out : List ℕ) → (out ++ codes ".first") ≢ (out ++ codes ".second")
first-second out = apart out (codes ".first") (codes ".second") (λ (e : 102 ≡ 115). absurd (omega (arith, e)))

first-words : (out : List ℕ) → (out ++ codes ".first") ≢ (out ++ codes ".words")
first-words out = apart out (codes ".first") (codes ".words") (λ (e : 102 ≡ 119). absurd (omega (arith, e)))

second-words : (out : List ℕ) → (out ++ codes ".second") ≢ (out ++ codes ".words")
second-words out = apart out (codes ".second") (codes ".words") (λ (e : 115 ≡ 119). absurd (omega (arith, e)))

-- what every answer that shows leaves at a desk is left by a run that shows
left : {A B : Type 0} (step : Step A) (shows : A → Answer → Type 0) (holds : A → Given → Given → Type 0) →
    ((value : A) (answer : Answer) (given : Given) (given_now : Option Given) → shows value answer → IsDone answer.status →
    LeavesAll (Some given) given_now answer.files answer.text (Ok tt) → IsSomeAnd given_now (holds value given)) →
    (own : OwnRefusal) (read : Step B) (old now : Told) (desk desk_now : DeskTold) →
    LeavesShown (ToShow own read (ShowsRead step shows)) old now desk desk_now →
    LeavesRead step holds old now desk.given desk_now.given
left step shows holds each own read old now desk desk_now (answer, w, done, gives) =
    go desk.given desk_now.given (leaves_all desk desk_now answer.files answer.text (Ok tt) gives) where
      go : (given given_now : Option Given) → LeavesAll given given_now answer.files answer.text (Ok tt) →
          LeavesRead step holds old now given given_now
      go None given_now all = tt
      go (Some given) None all = each w.value answer given None w.shown done all
      go (Some given) (Some after) all =
          record { value = w.value; read = w.read; held = each w.value answer given (Some after) w.shown done all }

-- what holds of what the desk was given leads to more
more : (P Q : Given → Type 0) (now : Option Given) → ((given : Given) → P given → Q given) → IsSomeAnd now P → IsSomeAnd now Q
more P Q None f h = absurd h
more P Q (Some now) f h = f now h

-- the files of an answer that shows both worlds stand
both_stand : (out first second words text : List ℕ) (answer : Answer) (given : Given) (given_now : Option Given) →
    answer.files ≡ files_of_worlds out first second words → answer.text ≡ text → first ≡ second →
    LeavesAll (Some given) given_now answer.files answer.text (Ok tt) →
    IsSomeAnd given_now (HoldsSame out first second words text given)
both_stand out first second words text answer given given_now files said same g =
    more (Hold (out ++ codes ".first", first) (out ++ codes ".second", second) (out ++ codes ".words", words) text given)
    (HoldsSame out first second words text given) given_now (λ now h. record {
      first_file = h.one;
      second_file = h.two;
      same = same;
      words_file = h.three;
      said = h.said;
    })
    (three_stand _ _ _ _ given given_now (first-second out) (first-words out) (second-words out) (rw (files, said) at g))

worlds_stand : (s : Point) (out : List ℕ) (both : Both) (answer : Answer) (given : Given) (given_now : Option Given) →
    ShowsTheSame s out (first_book both) (words_read both) (second_book both) answer →
    LeavesAll (Some given) given_now answer.files answer.text (Ok tt) → IsSomeAnd given_now (HoldsBoth s out both given)
worlds_stand s out both answer given given_now w g =
    let one = transcript_for (first_book both) (words_read both) s in
    let other = transcript_for (second_book both) w.second_words s in
    let words = bundle_bytes w.second_words in
    let text = worlds_text (first_book both) (words_read both) in
    more (HoldsSame out one other words text given) (HoldsBoth s out both given) given_now (λ now h. record {
      agree = w.agree;
      second_words = w.second_words;
      mapped = w.mapped;
      only = w.only;
      back = w.back;
      held = h;
    })
    (both_stand out one other words text answer given given_now
    (ap (λ (a : Answer). a.files) w.is ∙ (λ i. files_of_worlds out (sym w.first_seen i) (sym w.second_seen i) words))
    (ap (λ (a : Answer). a.text) w.is) (w.first_seen ∙ sym w.second_seen) g)

two_stand : (a b : ℕ) (out : List ℕ) (first : FiveRead) (second : Book) (answer : Answer) (given : Given)
    (given_now : Option Given) → ShowsTheSameForTwo a b out first second answer →
    LeavesAll (Some given) given_now answer.files answer.text (Ok tt) →
    IsSomeAnd given_now (HoldsWorldsForTwo a b out first second given)
two_stand a b out first second answer given given_now w g =
    let one = joint_transcript a b first.book first.words in
    let other = joint_transcript a b second w.second_words in
    let words = words_bytes w.second_words in
    let text = (cleared_by_five first).text ++ equal_text in
    more (HoldsSame out one other words text given) (HoldsWorldsForTwo a b out first second given) given_now
    (λ now h. record { agree = w.agree; second_words = w.second_words; pair = w.pair; held = h })
    (both_stand out one other words text answer given given_now (ap (λ (a : Answer). a.files) w.is)
    (ap (λ (a : Answer). a.text) w.is) (ap joint_bytes (sym w.views)) g)

-- an answer that tells that nothing is wrong is said, and puts no file
one_run_said : (read : ReadViews) (found : Option AuditFault) →
    MatchOption found (OneRun read.grid read.views) (λ fault. OneRun read.grid read.views → ⊥) →
    IsDone (audit_answer read found).status → (given : Given) (given_now : Option Given) →
    LeavesAll (Some given) given_now (audit_answer read found).files (audit_answer read found).text (Ok tt) →
    IsSomeAnd given_now (HoldsOneRun read given)
one_run_said read None o d given None call = absurd call
one_run_said read None o d given (Some n) call = record { one_run = o; files = call.files; said = call.said }
one_run_said read (Some fault) o done given given_now call = absurd (not_done (Own OfAudit) done)

told_said : (read : ReadViews) (answer : Answer) (given : Given) (given_now : Option Given) → TellsFinding read answer →
    IsDone answer.status → LeavesAll (Some given) given_now answer.files answer.text (Ok tt) →
    IsSomeAnd given_now (HoldsOneRun read given)
told_said read answer given given_now w d g = one_run_said read w.found w.one_run (rw w.is at d) given given_now (rw w.is at g)

-- a run that has compared two worlds and is done shows them, and one that has audited transcripts shows that they are of one run
pub run_shows : (job : Option Job) (old now : Told) (desk desk_now : DeskTold) →
    LeavesShown (task_of job) old now desk desk_now → Shows job old now desk.given desk_now.given
run_shows None old now desk desk_now l = tt
run_shows (Some (Answering errand)) old now desk desk_now l = tt
run_shows (Some (Comparing auction servers first second s out)) old now desk desk_now l =
    left (both_errand auction servers first second)
    (λ both answer. ShowsTheSame s out (first_book both) (words_read both) (second_book both) answer)
    (λ both before after. HoldsBoth s out both before after)
    (λ both answer given given_now w done g. worlds_stand s out both answer given given_now w g)
    OfWorlds (compared_errand auction servers first second s) old now desk desk_now l
run_shows (Some (ComparingForTwo auction servers first second two out)) old now desk desk_now l =
    left (both_of_five auction servers first second)
    (λ both answer. ShowsTheSameForTwo two.0 two.1 out both.first (second_of_five both) answer)
    (λ both before after. HoldsWorldsForTwo two.0 two.1 out both.first (second_of_five both) before after)
    (λ both answer given given_now w done g.
    two_stand two.0 two.1 out both.first (second_of_five both) answer given given_now w g)
    OfWorlds (compared_for_two auction servers first second two.0 two.1) old now desk desk_now l
run_shows (Some (Auditing auction one two three)) old now desk desk_now l =
    left (read_errand auction one two three) (λ read answer. TellsFinding read answer)
    (λ read before after. HoldsOneRun read before after)
    told_said OfAudit (read_errand auction one two three) old now desk desk_now l
