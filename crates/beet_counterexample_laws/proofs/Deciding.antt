-- Over files each step goes on with a value, or ends whatever would come next.
use Rattle.std.proofs.Common.{◌≡◌, ◌⊎◌, ◌++◌, inl, inr, ℕ, List, [], ◌∷◌, Bool, true, false, Option, Some, None}
use Rattle.std.proofs.Common.{Ok, Err, length, nat_lt, if◌then◌else◌, refl, sym, ap, ◌∙◌, subst, arith}
use Rattle.std.proofs.lemmas.Bool.{ltb-false}
use Rattle.beet_store.specs.Files.{Bytes, File, Told, bytes_of, fetch_of, with_fetches}
use Rattle.beet_forms.specs.Faults.{Reading}
use Rattle.beet_errand.specs.Errands.{Answer, Errand, Step, ◌>>=◌, answers, bad_file, gives, judged, reads, refuses}
use Rattle.beet_errand.specs.Errands.{text_answer, too_long, unread}
use Rattle.beet_errand.specs.Fetches.{IsRead}
use Rattle.beet_errand.specs.Overs.{ReadsTo, answer_over, answer_with}
use Rattle.beet_errand.specs.declared.answer.Refusal.{Refusal}
use Rattle.beet_errand.specs.declared.answer.Status.TheVariants.{Done}
use Rattle.beet_errand.proofs.Steps.{went_none, went_on}

module _ (files : List File) where
  -- whatever would come next, the step ends with this answer
  abbrev pub Halts : {A : Type 0} → Step A → Type 0
  Halts {A = A} step = (answer : Answer) × ((next : A → Errand) → answer_over files (step next) ≡ answer)

  -- a shelf of the files answers what leads through the step to the value
  abbrev pub Passes : {A : Type 0} → Step A → A → Type 0
  Passes step value =
      (old : Told) → old.files ≡ Some files → (now : Told) × (now.files ≡ Some files) × IsRead old now step value

  abbrev pub Goes : {A : Type 0} → Step A → Type 0
  Goes {A = A} step = (value : A) × ReadsTo files step value × Passes step value

  abbrev pub Decides : {A : Type 0} → Step A → Type 0
  Decides step = Goes step ⊎ Halts step

  pub gives-decides : {A : Type 0} (value : A) → Decides (gives value)
  gives-decides value = inl (value, λ next. refl, λ old is. (old, is, λ next. went_none old (next value)))

  then-passes : {A B : Type 0} (step : Step A) (rest : A → Step B) (a : A) (b : B) → Passes step a → Passes (rest a) b →
      Passes (step >>= rest) b
  then-passes step rest a b p q old is =
      let (middle, same, first) = p old is in
      let (now, still, second) = q middle same in (
        now,
        still,
        λ next. went_on old middle now _ _ _ (first (λ a. rest a next)) (second next),
      )

  after-goes : {A B : Type 0} (step : Step A) (rest : A → Step B) (goes : Goes step) → Decides (rest goes.0) →
      Decides (step >>= rest)
  after-goes step rest (a, read, passes) (inl (b, read', passes')) = inl (
    b,
    λ next. read (λ a. rest a next) ∙ read' next,
    then-passes step rest a b passes passes',
  )
  after-goes step rest (a, read, passes) (inr (answer, halts)) =
      inr (answer, λ next. read (λ a. rest a next) ∙ halts next)

  pub then-decides : {A B : Type 0} (step : Step A) (rest : A → Step B) → Decides step → ((a : A) → Decides (rest a)) →
      Decides (step >>= rest)
  then-decides step rest (inl goes) d = after-goes step rest goes (d goes.0)
  then-decides step rest (inr (answer, halts)) d = inr (answer, λ next. halts (λ a. rest a next))

  pub test-decides : {A : Type 0} (b : Bool) (refusal : Refusal) (line : List ℕ) (step : Step A) → Decides step →
      Decides {A = A} (λ next. if b then refuses refusal line else step next)
  test-decides true refusal line step d = inr (answer_over files (refuses refusal line), λ next. refl)
  test-decides false refusal line step d = d

  module _ {A : Type 0} (name : List ℕ) (limit : ℕ) (grammar : List ℕ → Reading A) where
    abbrev after : (A → Errand) → List ℕ → Answer
    after next bytes = answer_over files (judged name (grammar bytes) next)

    held-so : (bytes : List ℕ) → bytes_of files name ≡ Some bytes → nat_lt limit (length bytes) ≡ false →
        (next : A → Errand) →
        answer_over files (reads name limit grammar next) ≡ after next bytes
    held-so bytes held short next =
        ap (answer_with name limit (after next)) held
        ∙ ap (λ (b : Bool). if b then answer_over files (bad_file name too_long) else after next bytes) short

    judged-by : (bytes : List ℕ) → bytes_of files name ≡ Some bytes → nat_lt limit (length bytes) ≡ false →
        (reading : Reading A) → grammar bytes ≡ reading →
        Decides (reads name limit grammar)
    judged-by bytes held short (Ok value) is = inl (
      value,
      λ next. held-so bytes held short next ∙ ap (λ (r : Reading A). answer_over files (judged name r next)) is,
      λ old same. (
        with_fetches old (old.fetches ++ fetch_of name limit (Bytes bytes) ∷ []),
        same,
        λ next. record {
          fetches = fetch_of name limit (Bytes bytes) ∷ [];
          recorded = refl;
          answered = (record { limited = ltb-false limit (length bytes) short; held = rw same held }, tt);
          leads = (refl, refl, rw is refl);
        },
      ),
    )
    judged-by bytes held short (Err fault) is = inr (
      answer_over files (bad_file name fault),
      λ next. held-so bytes held short next ∙ ap (λ (r : Reading A). answer_over files (judged name r next)) is,
    )

    long-by : (bytes : List ℕ) → bytes_of files name ≡ Some bytes → (long : Bool) →
        nat_lt limit (length bytes) ≡ long →
        Decides (reads name limit grammar)
    long-by bytes held true is = inr (
      answer_over files (bad_file name too_long),
      λ next. ap (answer_with name limit (after next)) held
          ∙ ap (λ (b : Bool). if b then answer_over files (bad_file name too_long) else after next bytes) is,
    )
    long-by bytes held false is = judged-by bytes held is (grammar bytes) refl

    held-by : (held : Option (List ℕ)) → bytes_of files name ≡ held → Decides (reads name limit grammar)
    held-by None is =
        inr (answer_over files (unread name), λ next. ap (answer_with name limit (after next)) is)
    held-by (Some bytes) is = long-by bytes is (nat_lt limit (length bytes)) refl

    pub reads-decides : Decides (reads name limit grammar)
    reads-decides = held-by (bytes_of files name) refl

  -- a step that reads to a value does not end
  never-halts : {A : Type 0} (step : Step A) (value : A) → ReadsTo files step value → Halts step → ⊥
  never-halts step value read (answer, halts) =
      let one : text_answer Done [] ≡ answer = sym (read (λ v. answers Done [])) ∙ halts (λ v. answers Done []) in
      let other : text_answer Done (0 ∷ []) ≡ answer =
      sym (read (λ v. answers Done (0 ∷ []))) ∙ halts (λ v. answers Done (0 ∷ [])) in
      let same : 0 ≡ 1 = ap (λ (x : Answer). length x.text) (one ∙ sym other) in
      absurd (omega (arith, same))

  -- so a shelf of the files answers what leads through it
  pub passes-to : {A : Type 0} (step : Step A) (value : A) → Decides step → ReadsTo files step value →
      ((other : A) → ReadsTo files step other → other ≡ value) → Passes step value
  passes-to step value (inl (other, read', passes)) read only = subst (Passes step) (only other read') passes
  passes-to step value (inr halts) read only = absurd (never-halts step value read halts)
