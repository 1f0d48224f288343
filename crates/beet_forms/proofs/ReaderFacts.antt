-- A read of a record gives the first of the rows that are left.
use Rattle.std.proofs.Common.{◌≡◌, ℕ, Bool, true, false, List, [], Option, Some, None, IsSome, Bor, Result, Ok, Err}
use Rattle.std.proofs.Common.{IfOk, IfErr, IsErrAnd, MatchResult, OnErr, OnOk, refl, sym, subst, ◌∙◌, inl}
use Rattle.std.proofs.lemmas.Bool.{true≢false}
use Rattle.csv.specs.Machine.{next_record}
use Rattle.csv.specs.Reading.{default_config, has_failed, stops_reader, error_kind, is_flexible, reader_trim}
use Rattle.csv.specs.Reading.{took_first, Ready, ReadsNext, ReadRecord, ExplainsRead}
use Rattle.csv.specs.declared.parser.State.{State}
use Rattle.csv.specs.declared.reader.Reader.{Reader}
use Rattle.csv.specs.declared.reader.Trim.TheVariants as trim
use Rattle.csv.specs.declared.error.Error.{Error}
use Rattle.csv.specs.declared.error.ErrorKind.{ErrorKind}
use Rattle.csv.specs.declared.error.ErrorKind.TheVariants as kind
use Rattle.beet_forms.specs.RowReaders.{rows_from, text_left, rows_left, IsReading, Gives, Passes}
use Rattle.beet_forms.specs.Rows.{same_row}
use Rattle.beet_forms.proofs.Records.{first_left}

-- a reader of texts of any lengths fails of the reader underneath or of memory alone
pub stops : {R : Type 0} (rem : R → Option (List ℕ)) (old new : Reader R) (why : ErrorKind) → is_flexible old ≡ true →
    ExplainsRead rem old new false why → stops_reader why ≡ true
stops rem old new (kind.Io e) flexible explains = refl
stops rem old new kind.OutOfMemory flexible explains = refl
stops rem old new (kind.UnequalLengths pos expected len) flexible explains = absurd (true≢false (sym flexible ∙ explains.0))
stops rem old new (kind.Utf8 pos err) flexible explains = absurd (true≢false (sym explains.0))
stops rem old new (kind.Serialize text) flexible explains = absurd explains
stops rem old new (kind.Deserialize pos err) flexible explains = absurd explains

-- what is left is known after a read, too
pub known_after : (s s2 : State) (old new : Option (List ℕ)) (found : Bool) (fields : List (List ℕ)) →
    IsSome old → ReadsNext default_config s old new found fields s2 → IsSome new × Gives found (rows_from s old) fields (rows_from s2 new)
known_after s s2 None new found fields some reads = absurd (true≢false (sym some))
known_after s s2 (Some xs) None found fields some reads = absurd reads
known_after s s2 (Some xs) (Some ys) found fields some reads =
    (some, first_left default_config s s2 xs ys (next_record default_config s [] [] xs) found fields refl reads)

-- what a read tells, where the reader before it was reading
abbrev ReadsOn : Reader (Bor (List ℕ)) → Reader (Bor (List ℕ)) → Result Bool Error → List (List ℕ) → Type 0
ReadsOn old new result fields =
    (has_failed old ≡ true → result ≡ Ok false) →
    (reader_trim old ≡ trim.None → OnOk result (took_first new ≡ true)) →
    IfOk result (λ found. reader_trim old ≡ trim.None → Ready old → ReadRecord (λ s. Some s.now) old new found fields) →
    OnOk result (is_flexible new ≡ is_flexible old) →
    OnOk result (has_failed new ≡ has_failed old) →
    IfErr result (λ e. has_failed new ≡ stops_reader (error_kind e)) →
    IfErr result (λ e. Ready old → ExplainsRead (λ s. Some s.now) old new false (error_kind e)) →
    IsReading new × IfOk result (λ found. Gives found (rows_left old) fields (rows_left new)) × OnErr result (rows_left new ≡ [])

-- a reader reads on, and gives the first of the rows that were left, where memory suffices
pub read_on : (old new : Reader (Bor (List ℕ))) (result : Result Bool Error) (fields : List (List ℕ)) → IsReading old →
    ReadsOn old new result fields
read_on old new result fields reading = by (has_failed old) refl result where
  by : (f : Bool) → has_failed old ≡ f → (r : Result Bool Error) → ReadsOn old new r fields
  by true f (Ok true) failed ready reads flexible goes fails why = cc (failed f)
  by true f (Ok false) failed ready reads flexible goes fails why =
      ((λ g. absurd (true≢false (sym f ∙ (sym goes ∙ g)))), rw f refl, tt)
  by true f (Err e) failed ready reads flexible goes fails why = cc (failed f)
  by false f (Err e) failed ready reads flexible goes fails why =
      let here = reading f in
      let failed_now : has_failed new ≡ true = fails ∙ stops (λ s. Some s.now) old new (error_kind e) here.flexible (why here.ready) in
      ((λ g. absurd (true≢false (sym failed_now ∙ g))), tt, rw failed_now refl)
  by false f (Ok found) failed ready reads flexible goes fails why =
      let here = reading f in
      let read = reads here.trim here.ready in
      let known = known_after old.state new.state (text_left old) (text_left new) found fields here.known
      (rw read.1 (rw here.config at read.0)) in (
        (λ g. record {
          config = read.2 ∙ here.config;
          trim = read.3 ∙ here.trim;
          flexible = flexible ∙ here.flexible;
          ready = inl (ready here.trim);
          known = known.0;
        }),
        known.1,
        tt,
      )

-- what a reader fails of, where it reads rows, is the reader underneath or memory
pub stops_read : (old new : Reader (Bor (List ℕ))) (result : Result Bool Error) (why : Error) → IsReading old →
    (has_failed old ≡ true → result ≡ Ok false) →
    IfErr result (λ e. Ready old → ExplainsRead (λ s. Some s.now) old new false (error_kind e)) →
    result ≡ Err why →
    stops_reader (error_kind why) ≡ true
stops_read old new (Ok found) why reading failed explains is = cc is
stops_read old new (Err e) why reading failed explains is =
    subst (λ w. stops_reader (error_kind w) ≡ true) same (by (has_failed old) refl) where
      same : e ≡ why
      same = cc is

      by : (f : Bool) → has_failed old ≡ f → stops_reader (error_kind e) ≡ true
      by true f = cc (failed f)
      by false f = stops (λ s. Some s.now) old new (error_kind e) (reading f).flexible (explains (reading f).ready)

-- what holds of a value that is there holds of it where the error becomes another
pub ok_kept : {T E D : Type 0} (P : T → Type 0) (Told : E → D → Type 0) (result : Result T E) (told : Result T D) →
    MatchResult result (λ x. told ≡ Ok x) (λ e. IsErrAnd told (Told e)) → IfOk result P → IfOk told P
ok_kept P Told (Ok x) told is h = rw is h
ok_kept P Told (Err e) (Ok x) is h = absurd is
ok_kept P Told (Err e) (Err d) is h = tt

-- so does what holds wherever there is an error
pub err_kept : {T E D : Type 0} (P : Type 0) (Told : E → D → Type 0) (result : Result T E) (told : Result T D) →
    MatchResult result (λ x. told ≡ Ok x) (λ e. IsErrAnd told (Told e)) → OnErr result P → OnErr told P
err_kept P Told (Ok x) told is h = rw is tt
err_kept P Told (Err e) (Ok x) is h = absurd is
err_kept P Told (Err e) (Err d) is h = h

-- a row that is taken and is the header, or another one
pub passes : (same found : Bool) (old new : List (List (List ℕ))) (row header : List (List ℕ)) →
    Gives found old row new → found ≡ true → same ≡ same_row row header →
    Passes same old header new
passes same false old new row header gives is e = absurd (true≢false (sym is))
passes same true old new row header gives is e = rw gives (e, λ h. refl)

-- where there is no row, there is no header
pub passes_none : (found : Bool) (old new : List (List (List ℕ))) (row header : List (List ℕ)) →
    Gives found old row new → found ≡ false → Passes found old header new
passes_none true old new row header gives is = absurd (true≢false is)
passes_none false old new row header gives is = rw gives (refl, λ h. absurd (true≢false (sym h)))
