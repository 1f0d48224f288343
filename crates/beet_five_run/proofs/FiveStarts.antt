-- Five servers begin a script with their shares and words.
use Rattle.std.proofs.Common.{◌≡◌, ◌≤◌, ◌<◌, ◌+◌, ◌-◌, ◌∷◌, ◌++◌, [], ℕ}
use Rattle.std.proofs.Common.{suc, false, List, length, Some, slice_get, drop, get_or, Result, Ok, Err, IfErr}
use Rattle.std.proofs.Common.{sym, refl, ap, subst, ◌∙◌, inl, inr, arith, nat_lt}
use Rattle.std.specs.Prelude.{IsErrOf, slice_index_or}
use Rattle.std.specs.List.{remove}
use Rattle.std.proofs.Math.Seq.{drop-cons}
use Rattle.std.proofs.lemmas.Bool.{and_right, cases_eq}
use Rattle.std.proofs.lemmas.Bool.Decides.{nat_tests}
use Rattle.std.proofs.lemmas.List.{get_or_default}
use Rattle.std.proofs.lemmas.Option.{same_Some}
use Rattle.beet_gates.specs.declared.Batch.{Batch}
use Rattle.beet_gates.proofs.EachFacts.{get-append, get-append_right}
use Rattle.beet_delivery.specs.Networks.{all_delivered, nothing}
use Rattle.beet_linear_sharing.specs.Runs.{Setup}
use Rattle.beet_weights.specs.Quadratics.{IsServer}
use Rattle.beet_coalition.specs.Lists.{at_server}
use Rattle.beet_server.specs.declared.server.StartFault.{StartFault}
use Rattle.beet_server.specs.declared.server.StartFault.TheVariants.{OutOfMemory, TooFewMasks, TooFewWords}
use Rattle.beet_five_server.specs.Answers.{Core, fresh_core}
use Rattle.beet_five_server.specs.Network.{five, sends_to}
use Rattle.beet_five_server.proofs.Beginning.{begins}
use Rattle.beet_five_lockstep.specs.FiveLockstep.{AreAtRound, IsAtRound}
use Rattle.beet_five_server.proofs.Passing.{same-to}
use Rattle.beet_five_run.specs.FiveRuns.{OpensWith, Starts, setup_with, unpassed}

-- the list of the next server is taken from the front of those that are left
pub taken-first : (lists now : List (List ℕ)) (k : ℕ) (r : List ℕ) → now ≡ drop k lists → k < length lists →
    r ≡ slice_index_or now 0 r → (r ≡ at_server lists (k + 1)) × (remove now 0 ≡ drop (k + 1) lists)
taken-first lists now k r left lt is =
    let front : now ≡ get_or lists k r ∷ drop (suc k) lists = left ∙ drop-cons lists k r lt in
    let back : k + 1 - 1 ≡ k = omega arith in
    let next : suc k ≡ k + 1 = omega arith in (
      is ∙ ap (λ (l : List (List ℕ)). slice_index_or l 0 r) front ∙ get_or_default lists k r [] lt
          ∙ ap (λ n. slice_index_or lists n []) (sym back),
      ap (λ (l : List (List ℕ)). remove l 0) front ∙ ap (λ n. drop n lists) next,
    )

-- a server that has words enough starts, if there is memory
pub only-memory : {A : Type 0} → (r : Result A StartFault) → ((have : ℕ) → IsErrOf r (TooFewWords have) → ⊥) →
    ((have : ℕ) → IsErrOf r (TooFewMasks have) → ⊥) → IfErr r (λ fault. fault ≡ OutOfMemory)
only-memory (Ok core) words masks = tt
only-memory (Err (TooFewWords have)) words masks = absurd (words have refl)
only-memory (Err (TooFewMasks have)) words masks = absurd (masks have refl)
only-memory (Err OutOfMemory) words masks = refl

module _ {S : Type 0} (next : S → ℕ → List ℕ → Batch) (most : S → ℕ) (script : S) (inputs masks coefficients : List (List ℕ)) where
  -- a server that begins
  abbrev pub beginner : ℕ → Core S
  beginner j =
      fresh_core next j script (at_server inputs j) (unpassed (at_server masks j)) (unpassed (at_server coefficients j)) (most script)

  -- so many servers have begun
  pub record HaveBegun (k : ℕ) (cores : List (Core S)) : Type 0 where
    pub count : length cores ≡ k
    pub are : (j : ℕ) → IsServer j → j ≤ k → slice_get cores (j - 1) ≡ Some (beginner j)

  pub none-begun : HaveBegun 0 []
  none-begun = record { count = refl; are = λ j server le. absurd (omega (arith, server.0, le)) }

  -- one more
  pub more-begun : (k : ℕ) (cores after : List (Core S)) (core : Core S) → HaveBegun k cores → core ≡ beginner (k + 1) →
      after ≡ cores ++ core ∷ [] → HaveBegun (k + 1) after
  more-begun k cores after core begun is pushed = record {
    count = ap length pushed ∙ long cores ∙ ap (λ n. n + 1) begun.count;
    are = λ j server le. ap (λ (l : List (Core S)). slice_get l (j - 1)) pushed ∙ elim (cases_eq j (k + 1)) [
      | inl last ↦
          let place : j - 1 ≡ length cores + 0 = omega (arith, last, begun.count) in
          ap (slice_get (cores ++ core ∷ [])) place ∙ get-append_right cores (core ∷ []) 0 ∙ ap (λ (c : Core S). Some c) is
          ∙ ap (λ n. Some (beginner n)) (sym last)
      | inr other ↦
          get-append cores (core ∷ []) (j - 1) (omega (arith, server.0, le, other, begun.count))
          ∙ begun.are j server (omega (arith, le, other))
    ];
  }
    where
      long : (xs : List (Core S)) → length (xs ++ core ∷ []) ≡ length xs + 1
      long [] = refl
      long (x ∷ xs) = let rest = long xs in omega (arith, rest)

  pub all-begun : (cores : List (Core S)) → HaveBegun 5 cores → Starts next most script inputs masks coefficients cores
  all-begun cores begun = record { count = begun.count; are = λ j server. begun.are j server server.1 }

  none-before : (r : ℕ) → nat_lt r 0 ≡ false
  none-before r = grind (arith, nat_tests)

  -- the run of these inputs and words opens so
  pub opens-itself : OpensWith next (setup_with next script inputs masks coefficients) script inputs masks coefficients
  opens-itself j server = record { has_script = refl; has_inputs = refl; has_words = refl; has_numbers = refl }

  -- they are at round 0 of every run that opens so
  pub at-start : (o : Setup) → OpensWith next o script inputs masks coefficients → (cores : List (Core S)) →
      Starts next most script inputs masks coefficients cores → AreAtRound next o script 0 cores
  at-start o opens cores starts = record {
    count = starts.count;
    stand = λ j server c at.
        let is : beginner j ≡ c = same_Some (beginner j) c (sym (starts.are j server) ∙ at) in
        let b = beginner j in
        subst (IsAtRound next o script 0 j) is (record {
          name = refl;
          has_script = refl;
          fits = same-to next o nothing (all_delivered five 0) b.work b.mail
              (λ i t may. and_right (sends_to i j) (nat_lt t 0) (none-before t))
              (begins next j script (at_server inputs j) (unpassed (at_server masks j)) (unpassed (at_server coefficients j)) (most script)
              refl refl o (opens j server));
          round = refl;
          handed = refl;
        });
  }
