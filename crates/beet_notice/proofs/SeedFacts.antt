-- Seeds that are kept, one after another.
use Rattle.std.proofs.Common.{◌≡◌, ◌<◌, ◌≤◌, ◌+◌, ◌||◌, ◌++◌, ℕ, min, Bool, true, false, List, [], ◌∷◌, length, not}
use Rattle.std.proofs.Common.{Err, arith, refl, sym, ap, ◌∙◌}
use Rattle.std.proofs.Common.{append-nil, append_assoc, length-append, subst, inl, inr, if◌then◌else◌}
use Rattle.std.specs.Prelude.{bytes_eq, cond}
use Rattle.std.specs.BTreeSet.{Updates, contains, contains_by}
use Rattle.std.specs.Cmp.Lexicographic.{slice_cmp}
use Rattle.std.specs.Ordering.{nat_cmp}
use Rattle.std.proofs.lemmas.Cmp.{nat_list_eq_equiv}
use Rattle.std.proofs.lemmas.List.Folds.{list_any-append}
use Rattle.std.specs.List.{flat_map}
use Rattle.std.proofs.lemmas.Grind.{flat_map-append}
use Rattle.std.proofs.lemmas.List.Concat.{flat_map-cons}
use Rattle.std.proofs.lemmas.Map.Text.{is_eq-slice_cmp}
use Rattle.std.proofs.lemmas.Bool.{cases_Bool, le-ltb}
use Rattle.beet_store.specs.Files.{Bytes, Fetch}
use Rattle.beet_forms.specs.Faults.{Answers, Reading}
use Rattle.beet_forms.specs.declared.faults.FaultPlace.{FaultPlace}
use Rattle.beet_forms.specs.declared.faults.ReadFault.{ReadFault}
use Rattle.beet_forms.specs.declared.faults.ReadFault.TheVariants.{Bad}
use Rattle.beet_forms.specs.declared.faults.TheConstants.{LONGEST_FILE}
use Rattle.beet_book.specs.BookFiles.{book_of}
use Rattle.beet_book.specs.ServerFiles.{servers_of}
use Rattle.beet_notice.specs.Notices.{come_twice, if_read, is_among, seeds_fetched, seeds_in}
use Rattle.beet_notice.specs.Notices.{seeds_of_entries, seeds_of_servers, seeds_seen}
use Rattle.beet_notice.specs.Noting.{HasNoted, HasSeeds}
use Rattle.beet_notice.specs.declared.seeds.Seeds.{Seeds}
use Rattle.beet_notice.specs.declared.watch.TheConstants.{BOOK}
use Rattle.beet_notice.specs.declared.watch.Watch.{Watch}

either-false : (b : Bool) → (b || false) ≡ b
either-false true = refl
either-false false = refl

-- one seed more
among-more : (other seed : List ℕ) (seeds : List (List ℕ)) →
    is_among other (seeds ++ seed ∷ []) ≡ (is_among other seeds || bytes_eq other seed)
among-more other seed seeds =
    list_any-append (bytes_eq other) seeds (seed ∷ [])
    ∙ ap (λ b. is_among other seeds || b) (either-false (bytes_eq other seed))

exchanged : (a b c d : Bool) → ((a || b) || (c || d)) ≡ ((a || c) || (b || d))
exchanged true b c d = refl
exchanged false true true d = refl
exchanged false true false d = refl
exchanged false false true d = refl
exchanged false false false d = refl

-- it comes twice, if it is among those before
twice-more : (seed : List ℕ) (seeds : List (List ℕ)) → come_twice (seeds ++ seed ∷ []) ≡ (come_twice seeds || is_among seed seeds)
twice-more seed [] = refl
twice-more seed (first ∷ seeds) =
    (λ j. among-more first seed seeds j || twice-more seed seeds j)
    ∙ exchanged (is_among first seeds) (bytes_eq first seed) (come_twice seeds) (is_among seed seeds)
    ∙ ap (λ b. (is_among first seeds || come_twice seeds) || (b || is_among seed seeds)) (nat_list_eq_equiv.symm first seed)

either-way : (a b : Bool) → cond a true b ≡ (b || a)
either-way true true = refl
either-way true false = refl
either-way false true = refl
either-way false false = refl

not-not : (a : Bool) → not (not a) ≡ a
not-not true = refl
not-not false = refl

module _ (seeds : List (List ℕ)) (seed : List ℕ) (before after : Seeds) (new : Bool) (keeps : HasSeeds seeds before)
    (updates : Updates (slice_cmp nat_cmp) before.set after.set seed true)
    (added : new ≡ not (contains (slice_cmp nat_cmp) before.set seed)) where
  set-more : (other : List ℕ) → contains_by (slice_cmp nat_cmp other) after.set ≡ is_among other (seeds ++ seed ∷ [])
  set-more other =
      updates.0 other
      ∙ (λ j. cond (is_eq-slice_cmp seed other j) true (keeps.set other j))
      ∙ ap (λ b. cond b true (is_among other seeds)) (nat_list_eq_equiv.symm seed other)
      ∙ either-way (bytes_eq other seed) (is_among other seeds)
      ∙ sym (among-more other seed seeds)

  pub keeps-more : after.twice ≡ (before.twice || not new) → HasSeeds (seeds ++ seed ∷ []) after
  keeps-more twice = record {
    set = set-more;
    twice = twice
        ∙ (λ j. keeps.twice j || (ap not added ∙ not-not (contains (slice_cmp nat_cmp) before.set seed) ∙ keeps.set seed) j)
        ∙ sym (twice-more seed seeds);
  }

-- ---- the fetches that count

single : {A B : Type 0} (f : A → List B) (x : A) → flat_map f (x ∷ []) ≡ f x
single f x = flat_map-cons f x [] ∙ append-nil (f x)

abbrev seeds_at : Fetch → List (List ℕ)
seeds_at fetch = seeds_fetched fetch.answer

-- the second and the third file count
pub counted-more : (fetches : List Fetch) (fetch : Fetch) → 0 < length fetches → length fetches < 3 →
    seeds_seen (fetches ++ fetch ∷ []) ≡ seeds_seen fetches ++ seeds_fetched fetch.answer
counted-more [] fetch some few = absurd (omega (arith, some))
counted-more (auction ∷ []) fetch some few = single seeds_at fetch
counted-more (auction ∷ servers ∷ []) fetch some few =
    flat_map-append seeds_at (servers ∷ []) (fetch ∷ []) ∙ ap (λ seeds. flat_map seeds_at (servers ∷ []) ++ seeds) (single seeds_at fetch)
counted-more (auction ∷ servers ∷ book ∷ others) fetch some few = absurd (omega (arith, few))

-- and no other
pub uncounted-more : (fetches : List Fetch) (fetch : Fetch) → (0 < length fetches → length fetches < 3 → ⊥) →
    seeds_seen (fetches ++ fetch ∷ []) ≡ seeds_seen fetches
uncounted-more [] fetch none = refl
uncounted-more (auction ∷ []) fetch none = absurd (none (omega arith) (omega arith))
uncounted-more (auction ∷ servers ∷ []) fetch none = absurd (none (omega arith) (omega arith))
uncounted-more (auction ∷ servers ∷ book ∷ others) fetch none = refl

-- ---- what is kept after a file

-- nothing more
pub keeps-same : (seeds more : List (List ℕ)) (kept : Seeds) → more ≡ [] → HasSeeds seeds kept → HasSeeds (seeds ++ more) kept
keeps-same seeds more kept none keeps =
    subst (λ l. HasSeeds l kept) (sym (ap (λ l. seeds ++ l) none ∙ append-nil seeds)) keeps

pub fetched-short : (bytes : List ℕ) → length bytes ≤ LONGEST_FILE → seeds_fetched (Bytes bytes) ≡ seeds_in bytes
fetched-short bytes short = rw (le-ltb LONGEST_FILE (length bytes) short) refl

-- a file that is refused has none
pub none-read : {A T : Type 0} (view : T → A) (seeds : A → List (List ℕ)) (reading : Reading A) (fault : ReadFault)
    (place : FaultPlace) (reason : ℕ) → fault ≡ Bad place reason → Answers view reading (Err fault) → if_read seeds reading ≡ []
none-read view seeds reading fault place reason e answers =
    let is : reading ≡ Err (record { place = place; reason = reason }) = subst (λ f. Answers view reading (Err f)) e answers in
    ap (if_read seeds) is

-- those of a file of servers, and then those of a book
pub keeps-file : (before : List (List ℕ)) (bytes : List ℕ) (kept : Seeds) (servers bidders : List (List ℕ)) →
    length bytes ≤ LONGEST_FILE → if_read seeds_of_servers (servers_of bytes) ≡ servers →
    if_read seeds_of_entries (book_of bytes) ≡ bidders →
    HasSeeds ((before ++ servers) ++ bidders) kept → HasSeeds (before ++ seeds_fetched (Bytes bytes)) kept
keeps-file before bytes kept servers bidders short s b keeps =
    subst (λ l. HasSeeds (before ++ l) kept) (sym (fetched-short bytes short ∙ (λ j. s j ++ b j)))
    (subst (λ l. HasSeeds l kept) (append_assoc before servers bidders) keeps)

-- ---- what is kept after an answer

module _ (fetches : List Fetch) (fetch : Fetch) (before after : Watch) (noted : HasNoted fetches before)
    (count : after.count ≡ min BOOK (before.count + 1)) where
  counted : after.count ≡ min BOOK (length (fetches ++ fetch ∷ []))
  counted = omega (arith, count, noted.counted, length-append fetches (fetch ∷ []))

  -- that does not count
  pub passes : (0 < before.count → before.count < BOOK → ⊥) → after.lost ≡ before.lost → after.seeds ≡ before.seeds →
      HasNoted (fetches ++ fetch ∷ []) after
  passes none l s = record {
    counted = counted;
    noted = λ kept.
        let same = uncounted-more fetches fetch
        (λ some few. none (omega (arith, noted.counted, some, few)) (omega (arith, noted.counted, some, few))) in
        subst (λ l. HasSeeds l after.seeds) (sym same)
        (subst (HasSeeds (seeds_seen fetches)) (sym s) (noted.noted (sym l ∙ kept)));
  }

  -- that counts
  pub notes : 0 < before.count → before.count < BOOK →
      (after.lost ≡ false → HasSeeds (seeds_seen fetches ++ seeds_fetched fetch.answer) after.seeds) →
      HasNoted (fetches ++ fetch ∷ []) after
  notes some few keeps = record {
    counted = counted;
    noted = λ kept.
        subst (λ l. HasSeeds l after.seeds)
        (sym (counted-more fetches fetch (omega (arith, noted.counted, some, few)) (omega (arith, noted.counted, some, few))))
        (keeps kept);
  }

-- what is told, unless a seed was lost
pub told-twice : (fetches : List Fetch) (watch : Watch) → HasNoted fetches watch →
    (if watch.lost then false else watch.seeds.twice) ≡ (if watch.lost then false else come_twice (seeds_seen fetches))
told-twice fetches watch noted = elim (cases_Bool watch.lost) [
  | inl lost ↦ rw lost refl
  | inr kept ↦ rw kept (noted.noted kept).twice
]
