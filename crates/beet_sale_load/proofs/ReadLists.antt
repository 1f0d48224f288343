-- The words of the bidders of a sale, which are read one after another.
use Rattle.std.proofs.Common.{◌≡◌, ◌≤◌, ◌<◌, ℕ, ◌+◌, List, [], ◌∷◌, ◌++◌, length, drop, get_or, Option, Ok, Err, arith, sym, ap}
use Rattle.std.proofs.Common.{◌∙◌, length-append, length-drop, refl, subst}
use Rattle.std.specs.Prelude.{All}
use Rattle.std.proofs.lemmas.List.{drop_all, drop_more}
use Rattle.std.proofs.lemmas.List.Elements.{All-append, All-nil, All-cons}
use Rattle.beet_store.specs.Files.{Seen}
use Rattle.beet_errand.specs.Fetches.{Reads, ReadsFor}
use Rattle.beet_errand.specs.declared.answer.Stop.{Stop}
use Rattle.beet_errand.proofs.Frame.{Reached, reached_none, reached_more, reached_last, stopped}
use Rattle.beet_load.specs.declared.wanted.Wanted.{Wanted}
use Rattle.beet_load.specs.Farmers.{bidder_errand, list_at}
use Rattle.beet_load.specs.Wholes.{CanDeal}
use Rattle.beet_sale_file.specs.declared.rows.SaleRow.{SaleRow}
use Rattle.beet_sale_load.specs.SaleLoading.{lists_errand}

-- these lists are read, and the bidders of the other rows are left
pub record ReadsLists (wanted : Wanted) (given : Option (List (List ℕ))) (rows rest : List SaleRow) (old now : Seen)
    (lists : List (List ℕ)) : Type 0 where
  pub read : Reached old now (lists_errand wanted given [] rows) (lists_errand wanted given lists rest)
  pub count : length lists + length rest ≡ length rows
  pub each : All (CanDeal wanted.counts) lists

-- no list is read yet
pub lists-none : (wanted : Wanted) (given : Option (List (List ℕ))) (rows : List SaleRow) (seen : Seen) →
    ReadsLists wanted given rows rows seen seen []
lists-none wanted given rows seen = record { read = reached_none; count = omega arith; each = All-nil _ }

module _ (wanted : Wanted) (given : Option (List (List ℕ))) (rows : List SaleRow) (i : ℕ) (row : SaleRow) (words : Option (List ℕ))
    (old middle now : Seen) (before : List (List ℕ)) (lt : i < length rows) (e : row ≡ get_or rows i row)
    (same : words ≡ list_at given i) (h : ReadsLists wanted given rows (drop i rows) old middle before) where
  next_row : drop i rows ≡ row ∷ drop (i + 1) rows
  next_row = drop_more rows i row lt ∙ ap (λ x. x ∷ drop (i + 1) rows) (sym e)

  here : ReadsLists wanted given rows (row ∷ drop (i + 1) rows) old middle before
  here = subst (λ (rest : List SaleRow). ReadsLists wanted given rows rest old middle before) next_row h

  many : length before ≡ i
  many = let c = h.count in omega (arith, c, length-drop i rows, lt)

  -- the words of the bidder at a place are read
  pub lists-more : (list : List ℕ) (after : List (List ℕ)) → CanDeal wanted.counts list → after ≡ before ++ list ∷ [] →
      Reads (λ (words : List ℕ). words) middle now (bidder_errand wanted words (i + 1) row.source) (Ok list) →
      ReadsLists wanted given rows (drop (i + 1) rows) old now after
  unfolding here many
  lists-more list after can kept r =
      let r' = rw (sym many) at (rw same at r) in
      let long : length after ≡ length before + 1 = ap length kept ∙ length-append before (list ∷ []) in
      record {
        read = rw kept (subst (λ (l : List ℕ). Reached old now (lists_errand wanted given [] rows)
            (lists_errand wanted given (before ++ l ∷ []) (drop (i + 1) rows)))
            r'.gives.1 (reached_more (λ l. lists_errand wanted given (before ++ l ∷ []) (drop (i + 1) rows)) here.read r'));
        count = let c = here.count in omega (arith, long, c);
        each = let P = CanDeal wanted.counts in
            rw kept (All-append P before (list ∷ []) here.each (All-cons P list [] can (All-nil P)));
      }

  -- that bidder stops the job
  pub lists-stopped : {T U : Type 0} {shows : T → List ℕ → Type 0} {last : U → List (List ℕ) → Type 0} (stop : Stop) →
      ReadsFor shows middle now (bidder_errand wanted words (i + 1) row.source) (Err stop) →
      ReadsFor last old now (lists_errand wanted given [] rows) (Err stop)
  unfolding here many
  lists-stopped stop r =
      reached_last here.read (stopped {
      rest = λ l. lists_errand wanted given (before ++ l ∷ []) (drop (i + 1) rows)} (rw (sym many) at (rw same at r)))

-- all lists are read
module _ (wanted : Wanted) (given : Option (List (List ℕ))) (rows : List SaleRow) (i : ℕ) (old now : Seen)
    (lists : List (List ℕ)) (ge : length rows ≤ i) (h : ReadsLists wanted given rows (drop i rows) old now lists) where
  all-here : ReadsLists wanted given rows [] old now lists
  all-here = subst (λ (rest : List SaleRow). ReadsLists wanted given rows rest old now lists) (drop_all i rows ge) h

  pub lists-many : length lists ≡ length rows
  lists-many = let c = all-here.count in omega (arith, c)

  pub lists-all : {T : Type 0} (view : T → List (List ℕ)) (kept : T) → view kept ≡ lists →
      Reads view old now (lists_errand wanted given [] rows) (Ok kept)
  lists-all view kept e =
      let read = all-here.read in
      record {
        gives = (view kept, refl, rw e read.went);
        cause = read.kept;
        later = omega (arith, read.kept);
      }
