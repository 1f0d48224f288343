-- The seeds of five servers, of one row after another.
use Rattle.std.proofs.Common.{◌≡◌, ◌<◌, ℕ, ◌+◌, ◌-◌, zero, suc, false, List, [], ◌∷◌, length, Ok, Err}
use Rattle.std.proofs.Common.{arith, inl, inr, refl, subst, sym, ◌∙◌}
use Rattle.std.specs.Prelude.{slice_get, slice_index_or, slice_set}
use Rattle.std.proofs.lemmas.Bool.{cases_eq}
use Rattle.std.proofs.lemmas.List.{get_or-set_other, get_or-set_same}
use Rattle.beet_forms.specs.Faults.{Answers, Reading}
use Rattle.beet_forms.specs.declared.faults.ReadFault.{ReadFault}
use Rattle.beet_forms.specs.declared.faults.ReadFault.TheVariants.{Bad, OutOfMemory}
use Rattle.beet_forms.specs.declared.row.Row.{Row}
use Rattle.beet_book.specs.NamedRows.{reading_at}
use Rattle.beet_gates.proofs.EachFacts.{each-cons, each-zero}
use Rattle.beet_gates.specs.Each.{each}
use Rattle.beet_five_load.specs.FiveServerFiles.{all_seeds, is_bundle, seed_at, seeds_in}

module _ (reading : Reading (List ℕ)) (rest : List (Reading (List ℕ))) where
  -- a seed is refused
  seed-refused : (fault : ReadFault) → Answers (λ (seed : List ℕ). seed) reading (Err fault) →
      Answers (λ (seeds : List (List ℕ)). seeds) (all_seeds (reading ∷ rest)) (Err fault)
  seed-refused (Bad place reason) a = rw a refl
  seed-refused OutOfMemory a = tt

  -- or one behind it
  seed-passed : (seed : List ℕ) (fault : ReadFault) → reading ≡ Ok seed →
      Answers (λ (seeds : List (List ℕ)). seeds) (all_seeds rest) (Err fault) →
      Answers (λ (seeds : List (List ℕ)). seeds) (all_seeds (reading ∷ rest)) (Err fault)
  seed-passed seed (Bad place reason) a r = rw (a, r) refl
  seed-passed seed OutOfMemory a r = tt

-- what is read of the row of a server, which is counted from 0
abbrev pub reading_of : List Row → ℕ → Reading (List ℕ)
reading_of rows i = reading_at (i + 2) (seed_at ((49 + i) ∷ []) (slice_get rows (i + 2 - 1)))

-- all rows, if row 2 is that of no bundle
as-each : (rows : List Row) → is_bundle (slice_get rows 1) ≡ false → seeds_in rows ≡ all_seeds (each (reading_of rows) 5)
unfolding each
as-each rows e = rw e refl

-- the seed of a server is refused, and those before it are read
refused-at : (f : ℕ → Reading (List ℕ)) (s : ℕ → List ℕ) (n i : ℕ) (fault : ReadFault) → i < n →
    ((k : ℕ) → k < i → f k ≡ Ok (s k)) → Answers (λ (seed : List ℕ). seed) (f i) (Err fault) →
    Answers (λ (seeds : List (List ℕ)). seeds) (all_seeds (each f n)) (Err fault)
refused-at f s zero i fault lt passed a = absurd (omega (arith, lt))
refused-at f s (suc n) zero fault lt passed a =
    subst (λ (l : List (Reading (List ℕ))). Answers (λ (seeds : List (List ℕ)). seeds) (all_seeds l) (Err fault)) (sym (each-cons f n))
    (seed-refused (f 0) (each (λ k. f (suc k)) n) fault a)
refused-at f s (suc n) (suc i) fault lt passed a =
    subst (λ (l : List (Reading (List ℕ))). Answers (λ (seeds : List (List ℕ)). seeds) (all_seeds l) (Err fault)) (sym (each-cons f n))
    (seed-passed (f 0) (each (λ k. f (suc k)) n) (s 0) fault (passed 0 (omega arith))
    (refused-at (λ k. f (suc k)) (λ k. s (suc k)) n i fault (omega (arith, lt)) (λ k l. passed (suc k) (omega (arith, l))) a))

-- one more is read
pub passed-more : (f : ℕ → Reading (List ℕ)) (seeds : List (List ℕ)) (i : ℕ) (seed : List ℕ) → i < length seeds →
    ((k : ℕ) → k < i → f k ≡ Ok (slice_index_or seeds k [])) → f i ≡ Ok seed →
    (k : ℕ) → k < i + 1 → f k ≡ Ok (slice_index_or (slice_set seeds i seed) k [])
passed-more f seeds i seed lt passed e k l = elim (cases_eq k i) [
  | inl same ↦ rw (same, get_or-set_same seeds i seed [] lt) e
  | inr other ↦ rw (get_or-set_other seeds i k seed [] other) (passed k (omega (arith, other, l)))
]

-- all of them are read
all-passed : (f : ℕ → Reading (List ℕ)) (seeds : List (List ℕ)) →
    ((k : ℕ) → k < length seeds → f k ≡ Ok (slice_index_or seeds k [])) → all_seeds (each f (length seeds)) ≡ Ok seeds
all-passed f [] passed = rw (each-zero f) refl
all-passed f (seed ∷ seeds) passed =
    rw (
      each-cons f (length seeds),
      passed 0 (omega arith),
      all-passed (λ k. f (suc k)) seeds (λ k lt. passed (suc k) (omega (arith, lt))),
    ) refl

module _ (rows : List Row) (e : is_bundle (slice_get rows 1) ≡ false) where
  -- of all rows, a server's is the first that is refused
  pub row-refused : (s : ℕ → List ℕ) (i : ℕ) (fault : ReadFault) → i < 5 → ((k : ℕ) → k < i → reading_of rows k ≡ Ok (s k)) →
      Answers (λ (seed : List ℕ). seed) (reading_of rows i) (Err fault) →
      Answers (λ (seeds : List (List ℕ)). seeds) (seeds_in rows) (Err fault)
  row-refused s i fault lt passed a =
      subst (λ (reading : Reading (List (List ℕ))). Answers (λ (seeds : List (List ℕ)). seeds) reading (Err fault)) (sym (as-each rows e))
      (refused-at (reading_of rows) s 5 i fault lt passed a)

  -- or none is
  pub rows-passed : (seeds : List (List ℕ)) → length seeds ≡ 5 →
      ((k : ℕ) → k < 5 → reading_of rows k ≡ Ok (slice_index_or seeds k [])) → seeds_in rows ≡ Ok seeds
  rows-passed seeds many passed =
      as-each rows e
      ∙ subst (λ (n : ℕ). all_seeds (each (reading_of rows) n) ≡ Ok seeds) many
      (all-passed (reading_of rows) seeds (λ k lt. passed k (omega (arith, lt, many))))
