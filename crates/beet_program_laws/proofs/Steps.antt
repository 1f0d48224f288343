-- What files are read as, step by step, where the job that reads them is done.
use Rattle.std.proofs.Common.{◌≡◌, ℕ, List, Bool, true, false, Option, Some, None, Ok, Err, length, nat_lt}
use Rattle.std.proofs.Common.{if◌then◌else◌, refl, subst, ◌∙◌}
use Rattle.beet_store.specs.Files.{File, bytes_of}
use Rattle.beet_forms.specs.FaultLines.{fault_line_of}
use Rattle.beet_forms.specs.Faults.{Reading}
use Rattle.beet_errand.specs.Errands.{Answer, Errand, Step, ◌>>=◌, gives, judged, reads, refuses, text_answer, too_long}
use Rattle.beet_errand.specs.Fetches.{IsDone}
use Rattle.beet_errand.specs.declared.answer.Refusal.{Refusal}
use Rattle.beet_errand.specs.declared.answer.Refusal.TheVariants.{ReadFault, BadFile}
use Rattle.beet_errand.specs.declared.answer.Status.TheVariants.{Refused}
use Rattle.beet_errand.proofs.Statuses.{not_done}
use Rattle.beet_errand.specs.Overs.{ReadsTo, answer_over, answer_with}

-- where a job that goes on from a step is done, the files give the step a value of which P holds
abbrev pub Yields : {A : Type 0} → List File → Step A → (A → Type 0) → Type 0
Yields {A = A} files step P =
    (next : A → Errand) → IsDone (answer_over files (step next)).status → (a : A) × ReadsTo files step a × P a

-- a value that is there
pub gives-yield : {A : Type 0} (files : List File) (P : A → Type 0) (a : A) → P a → Yields files (gives a) P
gives-yield files P a p next done = (a, λ next. refl, p)

-- a step, and then the one that the value to which it reads leads to
pub then-told : {A B : Type 0} (files : List File) (step : Step A) (rest : A → Step B) (P : A → Type 0)
    (Q : B → Type 0) → Yields files step P →
    ((a : A) → ReadsTo files step a → P a → Yields files (rest a) Q) → Yields files (step >>= rest) Q
then-told files step rest P Q y z next done =
    let (a, r, h) = y (λ a. rest a next) done in
    let (b, s, k) = z a r h next (subst (λ (x : Answer). IsDone x.status) (r (λ a. rest a next)) done) in
    (b, λ next. r (λ a. rest a next) ∙ s next, k)

-- the same, where nothing more is wanted of the value than P
pub then-yields : {A B : Type 0} (files : List File) (step : Step A) (rest : A → Step B) (P : A → Type 0)
    (Q : B → Type 0) → Yields files step P →
    ((a : A) → P a → Yields files (rest a) Q) → Yields files (step >>= rest) Q
then-yields files step rest P Q y z = then-told files step rest P Q y (λ a r h. z a h)

-- what is known of the first of two values, and of the second
pub record AreBoth {A B : Type 0} (P : A → Type 0) (Q : B → Type 0) (one : A) (other : B) : Type 0 where
  pub first : P one
  pub second : Q other

-- a step, and then the one that its value leads to: of what is made of both values R holds
pub then-both : {A B C : Type 0} (files : List File) (step : Step A) (rest : A → Step B) (both : A → B → C)
    (P : A → Type 0) (Q : A → B → Type 0) (R : C → Type 0) → Yields files step P → ((a : A) → Yields files (rest a) (Q a)) →
    ((a : A) (b : B) → P a → Q a b → R (both a b)) → Yields files (step >>= λ a. rest a >>= λ b. gives (both a b)) R
then-both files step rest both P Q R y z w =
    then-yields files step (λ a. rest a >>= λ b. gives (both a b)) P R y (λ a p.
    then-yields files (rest a) (λ b. gives (both a b)) (Q a) R (z a) (λ b q.
    gives-yield files R (both a b) (w a b p q)))

-- a step that yields what has P yields what has Q
pub weaker-yield : {A : Type 0} (files : List File) (step : Step A) (P Q : A → Type 0) → ((a : A) → P a → Q a) →
    Yields files step P → Yields files step Q
weaker-yield files step P Q f y next done = (let (a, r, h) = y next done in (a, r, f a h))

-- a test that is passed, and then a step
pub passes-yield : {A : Type 0} (files : List File) (b : Bool) (refusal : Refusal) (line : List ℕ) (step : Step A)
    (P : A → Type 0) →
    ((b ≡ false) → Yields files step P) → Yields {A = A} files (λ next. if b then refuses refusal line else step next) P
passes-yield files true refusal line step P y next done = absurd (not_done refusal done)
passes-yield files false refusal line step P y next done = y refl next done

-- a test that has to hold, and then a step
pub holds-yield : {A : Type 0} (files : List File) (b : Bool) (refusal : Refusal) (line : List ℕ) (step : Step A)
    (P : A → Type 0) → ((b ≡ true) → Yields files step P) →
    Yields {A = A} files (λ next. if b then step next else refuses refusal line) P
holds-yield files true refusal line step P y next done = y refl next done
holds-yield files false refusal line step P y next done = absurd (not_done refusal done)

-- the value of a file
module _ (files : List File) {A : Type 0} (name : List ℕ) (limit : ℕ) (grammar : List ℕ → Reading A) (P : A → Type 0)
    (fact : (bytes : List ℕ) (a : A) → grammar bytes ≡ Ok a → P a) where
  judged-yields : (bytes : List ℕ) (reading : Reading A) → grammar bytes ≡ reading → (next : A → Errand) →
      IsDone (answer_over files (judged name reading next)).status →
      (a : A) × ((next : A → Errand) → answer_over files (judged name reading next) ≡ answer_over files (next a)) × P a
  judged-yields bytes (Ok a) e next done = (a, λ next. refl, fact bytes a e)
  judged-yields bytes (Err fault) e next done = absurd (not_done BadFile done)

  abbrev refusal : Answer
  refusal = text_answer (Refused BadFile) (fault_line_of name too_long.place too_long.reason)

  within-yields : (b : Bool) (bytes : List ℕ) (next : A → Errand) →
      IsDone (if b then refusal else answer_over files (judged name (grammar bytes) next)).status →
      (a : A) × ((next : A → Errand) →
      (if b then refusal else answer_over files (judged name (grammar bytes) next)) ≡ answer_over files (next a)) × P a
  within-yields true bytes next done = absurd (not_done BadFile done)
  within-yields false bytes next done = judged-yields bytes (grammar bytes) refl next done

  held-yields : (held : Option (List ℕ)) (next : A → Errand) →
      IsDone (answer_with name limit (λ bytes. answer_over files (judged name (grammar bytes) next)) held).status →
      (a : A) × ((next : A → Errand) → answer_with name limit
      (λ bytes. answer_over files (judged name (grammar bytes) next)) held ≡ answer_over files (next a)) × P a
  held-yields None next done = absurd (not_done ReadFault done)
  held-yields (Some bytes) next done = within-yields (nat_lt limit (length bytes)) bytes next done

  pub reads-yield : Yields files (reads name limit grammar) P
  reads-yield next done = held-yields (bytes_of files name) next done

-- a value of which nothing is wanted
pub any-yield : {A : Type 0} (files : List File) (name : List ℕ) (limit : ℕ) (grammar : List ℕ → Reading A) →
    Yields files (reads name limit grammar) (λ a. Unit {0})
any-yield {A = A} files name limit grammar =
    reads-yield files name limit grammar (λ (a : A). Unit {0}) (λ bytes a e. tt)
