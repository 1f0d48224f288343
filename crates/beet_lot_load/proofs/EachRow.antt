-- The lots of a session, which a step reads one after another.
use Rattle.std.proofs.Common.{◌≡◌, ◌<◌, ◌+◌, ℕ, List, [], ◌∷◌, ◌++◌, length, drop, get_or, Ok, Err, refl, sym, ap, ◌∙◌, arith, subst}
use Rattle.std.proofs.Common.{length-append}
use Rattle.std.proofs.lemmas.List.{drop_all, drop_more}
use Rattle.beet_store.specs.Files.{Seen}
use Rattle.beet_errand.specs.Errands.{Step}
use Rattle.beet_errand.specs.Fetches.{ReadsFor}
use Rattle.beet_errand.specs.declared.answer.Stop.{Stop}
use Rattle.beet_errand.proofs.Frame.{Reached, reached_none, reached_more, reached_last, stopped}
use Rattle.beet_lot_files.specs.declared.session_file.LotRow.{LotRow}
use Rattle.beet_lot_load.specs.Lots.{each_row}

module _ {A T : Type 0} (shows : T → List A → Type 0) (step : List A → LotRow → Step A) (rows : List LotRow) where
  -- so many rows are read, of which something is kept, and the others are left
  pub record ReadsRows (rest : List LotRow) (old now : Seen) (kept : T) (count : ℕ) : Type 0 where
    pub values : List A
    pub read : Reached old now (each_row step [] rows) (each_row step values rest)
    pub many : length values ≡ count
    pub shown : shows kept values

  -- no row is read yet
  pub rows-none : (seen : Seen) (kept : T) → shows kept [] → ReadsRows rows seen seen kept 0
  rows-none seen kept s = record { values = []; read = reached_none; many = refl; shown = s }

  -- all are read, and of them this is kept
  pub rows-all : {last : T → List A → Type 0} (old now : Seen) (kept : T) (count : ℕ) → length rows ≡ count →
      ((values : List A) → length values ≡ length rows → shows kept values → last kept values) →
      ReadsRows (drop count rows) old now kept count → ReadsFor last old now (each_row step [] rows) (Ok kept)
  rows-all old now kept count all fits h =
      let read : Reached old now (each_row step [] rows) (each_row step h.values []) =
      subst (λ (rest : List LotRow). Reached old now (each_row step [] rows) (each_row step h.values rest))
      (drop_all count rows (omega (arith, all))) h.read in
      let same = read.kept in
      record {
        gives = (h.values, fits h.values (h.many ∙ sym all) h.shown, λ next. read.went next);
        cause = same;
        later = omega (arith, same);
      }

  module _ (i : ℕ) (row : LotRow) (old middle now : Seen) (before : T) (lt : i < length rows) (e : row ≡ get_or rows i row)
      (h : ReadsRows (drop i rows) old middle before i) where
    next_row : drop i rows ≡ row ∷ drop (i + 1) rows
    next_row = drop_more rows i row lt ∙ ap (λ x. x ∷ drop (i + 1) rows) (sym e)

    here : Reached old middle (each_row step [] rows) (each_row step h.values (row ∷ drop (i + 1) rows))
    here = subst (λ (rest : List LotRow). Reached old middle (each_row step [] rows) (each_row step h.values rest)) next_row h.read

    -- the row at a place is read
    pub rows-more : {U : Type 0} {one : U → A → Type 0} (after : T) {done : U} →
        (r : ReadsFor one middle now (step h.values row) (Ok done)) → shows after (h.values ++ r.gives.0 ∷ []) →
        ReadsRows (drop (i + 1) rows) old now after (i + 1)
    rows-more after r s = record {
      values = h.values ++ r.gives.0 ∷ [];
      read = reached_more (λ value. each_row step (h.values ++ value ∷ []) (drop (i + 1) rows)) here r;
      many = length-append h.values (r.gives.0 ∷ []) ∙ ap (λ n. n + 1) h.many;
      shown = s;
    }

    -- the row at a place stops the job
    pub rows-stopped : {U V : Type 0} {one : U → A → Type 0} {last : V → List A → Type 0} (stop : Stop) →
        ReadsFor one middle now (step h.values row) (Err stop) → ReadsFor last old now (each_row step [] rows) (Err stop)
    rows-stopped stop r =
        reached_last here (stopped {rest = λ value. each_row step (h.values ++ value ∷ []) (drop (i + 1) rows)} r)
