-- Steps of an errand.
use Rattle.std.proofs.Common.{◌≡◌, ◌<◌, ◌≤◌, ℕ, List, [], ◌∷◌, ◌++◌, Option, Ok, Err, Vec, Global, refl, sym, ap, ◌∙◌}
use Rattle.std.proofs.Common.{append-nil, append_assoc, length, subst}
use Rattle.std.specs.Prelude.{IfSome}
use Rattle.beet_store.specs.Files.{Answers, Bytes, Fetch, FetchAnswer, File, FitsLimit, Longer, Nothing, TellsFetch}
use Rattle.beet_store.specs.Files.{Told, bytes_of, fetch_of, with_fetches}
use Rattle.beet_store.specs.declared.shelf.FetchFault.TheVariants.{Failed, TooLong, OutOfMemory as NoMemory}
use Rattle.beet_errand.specs.declared.fetching.TheConstants.{TOO_LONG}
use Rattle.beet_errand.specs.Errands.{Answer, Errand, Ends, Wants, after_answer, bad_file, too_long}
use Rattle.beet_errand.specs.Fetches.{AreAnswered, Leads, Refuses, Stops, Went}
use Rattle.beet_forms.specs.FaultLines.{fault_line_of}
use Rattle.beet_forms.specs.declared.faults.FaultPlace.TheVariants.{Row}
use Rattle.beet_errand.specs.declared.answer.Refusal.TheVariants.{ReadFault as Unread, BadFile}
use Rattle.beet_errand.specs.declared.answer.Stop.{Stop}
use Rattle.beet_errand.specs.declared.answer.Stop.TheVariants.{Refused, OutOfMemory}
use Rattle.beet_errand.specs.Texts.{read_fault_text}

-- nothing is fetched, and nothing is left out
pub went_none : (told : Told) (errand : Errand) → Went told told errand errand
went_none told errand = record {
  fetches = [];
  recorded = ap (with_fetches told) (sym (append-nil told.fetches));
  answered = tt;
  leads = refl;
}

-- a fetch that is answered is one step on
went_answer : (old now : Told) (name : List ℕ) (limit : ℕ) (next : List ℕ → Errand) (answer : FetchAnswer) →
    now ≡ with_fetches old (old.fetches ++ fetch_of name limit answer ∷ []) → FitsLimit limit answer →
    IfSome old.files (λ files. Answers (bytes_of files name) answer) →
    Went old now (Wants name limit next) (after_answer name next answer)
went_answer old now name limit next answer recorded limited held = record {
  fetches = fetch_of name limit answer ∷ [];
  recorded = recorded;
  answered = (record { limited = limited; held = held }, tt);
  leads = (refl, refl, refl);
}

-- a file that is fetched is what the errand goes on with
pub fetched_gives : (old now : Told) (name : List ℕ) (limit : ℕ) (bytes : Vec ℕ Global) →
    TellsFetch old now name limit (Ok bytes) → length bytes.items ≤ limit →
    (next : List ℕ → Errand) → Went old now (Wants name limit next) (next bytes.items)
fetched_gives old now name limit bytes t within next =
    went_answer old now name limit next (Bytes bytes.items) t.recorded within t.held

-- a fetch that fails refuses the errand
pub failed_stops : (old now : Told) (name : List ℕ) (limit : ℕ) (line : Vec ℕ Global) →
    TellsFetch old now name limit (Err Failed) → line.items ≡ read_fault_text name →
    Stops old now (Wants name limit) (Refused Unread line)
failed_stops old now name limit line t e = λ next.
    rw e (went_answer old now name limit next Nothing t.recorded tt t.held)

-- a file that is longer than its limit refuses the errand
pub long_stops : (old now : Told) (name : List ℕ) (limit n : ℕ) (stop : Stop) →
    TellsFetch old now name limit (Err (TooLong n)) → limit < n →
    Refuses BadFile (fault_line_of name (Row 0) TOO_LONG) stop → Stops old now (Wants name limit) stop
long_stops old now name limit n (Refused refusal line) t above r = λ next.
    rw (r.0, r.1) (went_answer old now name limit next (Longer n) t.recorded above t.held)
long_stops old now name limit n OutOfMemory t above r = λ next.
    (bad_file name too_long, went_answer old now name limit next (Longer n) t.recorded above t.held)

-- memory ran out at a fetch
pub memory_stops : (old now : Told) (name : List ℕ) (limit : ℕ) →
    TellsFetch old now name limit (Err NoMemory) → Stops old now (Wants name limit) OutOfMemory
memory_stops old now name limit t = λ next. (
  Wants name limit next,
  subst (λ told. Went old told (Wants name limit next) (Wants name limit next)) (sym t.recorded)
      (went_none old (Wants name limit next)),
)

-- two ways of an errand, one after the other
leads_on : (first second : List Fetch) (errand middle rest : Errand) →
    Leads first errand middle → Leads second middle rest → Leads (first ++ second) errand rest
leads_on [] second errand middle rest e l = rw e l
leads_on (fetch ∷ first) second (Ends answer) middle rest l m = absurd l
leads_on (fetch ∷ first) second (Wants name limit next) middle rest l m =
    (l.0, l.1, leads_on first second (after_answer name next fetch.answer) middle rest l.2 m)

answered_on : (files : Option (List File)) (first second : List Fetch) → AreAnswered files first →
    AreAnswered files second → AreAnswered files (first ++ second)
answered_on files [] second a b = b
answered_on files (fetch ∷ first) second a b = (a.0, answered_on files first second a.1 b)

-- an errand at its end goes nowhere
leads_end : (fetches : List Fetch) (answer : Answer) (rest : Errand) → Leads fetches (Ends answer) rest →
    Ends answer ≡ rest
leads_end [] answer rest e = e
leads_end (fetch ∷ fetches) answer rest l = absurd l

pub at_end : (old now : Told) (answer : Answer) (rest : Errand) → Went old now (Ends answer) rest → Ends answer ≡ rest
at_end old now answer rest w = leads_end w.fetches answer rest w.leads

pub went_on : (old middle now : Told) (errand half rest : Errand) →
    Went old middle errand half → Went middle now half rest → Went old now errand rest
went_on old middle now errand half rest w v =
    let files : middle.files ≡ old.files = ap (λ (t : Told). t.files) w.recorded in
    let so_far : middle.fetches ≡ old.fetches ++ w.fetches = ap (λ (t : Told). t.fetches) w.recorded in
    record {
      fetches = w.fetches ++ v.fetches;
      recorded = v.recorded ∙ rw (files, so_far) (ap (with_fetches old) (append_assoc old.fetches w.fetches v.fetches));
      answered = answered_on old.files w.fetches v.fetches w.answered
          (subst (λ f. AreAnswered f v.fetches) files v.answered);
      leads = leads_on w.fetches v.fetches errand half rest w.leads v.leads;
    }

-- a step that stops, before another that would take its value
pub stops_before : {A B : Type 0} (old now : Told) (step : (A → Errand) → Errand)
    (inner : A → (B → Errand) → Errand) (stop : Stop) → Stops old now step stop →
    Stops {A = B} old now (λ next. step (λ a. inner a next)) stop
stops_before old now step inner (Refused refusal line) s = λ next. s (λ a. inner a next)
stops_before old now step inner OutOfMemory s = λ next. s (λ a. inner a next)

-- a step that stops, after another that gave its value
pub stops_after : {A B : Type 0} (old middle now : Told) (step : (A → Errand) → Errand)
    (inner : A → (B → Errand) → Errand) (value : A) (stop : Stop) →
    ((next : A → Errand) → Went old middle (step next) (next value)) → Stops middle now (inner value) stop →
    Stops {A = B} old now (λ next. step (λ a. inner a next)) stop
stops_after old middle now step inner value (Refused refusal line) w s = λ next.
    went_on old middle now _ _ _ (w (λ a. inner a next)) (s next)
stops_after old middle now step inner value OutOfMemory w s = λ next.
    let (rest, went) = s next in (rest, went_on old middle now _ _ _ (w (λ a. inner a next)) went)
