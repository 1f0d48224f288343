-- Rows with names, one after another.
use Rattle.std.proofs.Common.{◌≡◌, ℕ, ◌+◌, ◌-◌, ◌≤◌, List, [], ◌∷◌, ◌++◌, Bool, true, false, ◌||◌, ◌==◌, if◌then◌else◌}
use Rattle.std.proofs.Common.{length, take, Option, None, Ok, Err, Result, refl, sym, ◌∙◌, ap, arith, append_assoc}
use Rattle.std.proofs.Common.{length-append}
use Rattle.std.specs.Prelude.{bytes_eq}
use Rattle.std.specs.List.{filter_map}
use Rattle.std.specs.Result.{result_ok, result_err}
use Rattle.std.proofs.Math.Seq.{take-append_seam}
use Rattle.std.proofs.lemmas.Bool.{eqb-false}
use Rattle.std.proofs.lemmas.List.Folds.{list_any-append}
use Rattle.beet_forms.specs.declared.row.Row.{Row}
use Rattle.beet_forms.specs.Faults.{first_row_fault}
use Rattle.beet_book.specs.declared.named_file.TheConstants.{TOO_MANY}
use Rattle.beet_book.specs.NamedRows.{reading_at, first_field, has_name, untaken, named_in, reason_against}

-- what a row reads as is its value, or its reason
reading-ok : {A : Type 0} (number : ℕ) (r : Result A ℕ) (x : A) → reading_at number r ≡ Ok x → r ≡ Ok x
reading-ok number (Ok y) x e = let same : y ≡ x = cc e in ap Ok same
reading-ok number (Err reason) x e = cc e

-- an accepted row has a value, and is not one too many
accepted : (A : Type 0) (value_in : Row → Result A ℕ) (one_too_many : ℕ) (taken : Bool) (number : ℕ) (row : Row) (value : A) →
    named_in value_in one_too_many taken number row ≡ Ok value →
    (value_in row ≡ Ok value) × ((number == one_too_many) ≡ false)
accepted A value_in one_too_many taken number row value e = cases (number == one_too_many) taken (value_in row) e where
  cases : (last taken : Bool) (r : Result A ℕ) → (if last then Err TOO_MANY else untaken taken r) ≡ Ok value →
      (r ≡ Ok value) × (last ≡ false)
  cases true taken r e = cc e
  cases false taken (Err reason) e = cc e
  cases false true (Ok x) e = cc e
  cases false false (Ok x) e = (e, refl)

-- the reason against the row behind those that were read
reason-at : (A : Type 0) (value_in : Row → Result A ℕ) (first one_too_many : ℕ) (done more : List Row) (row : Row) (number : ℕ) →
    number ≡ length done + first →
    reason_against value_in first one_too_many (done ++ row ∷ more) number row
    ≡ result_err (named_in value_in one_too_many (has_name (first_field row) done) number row)
reason-at A value_in first one_too_many done more row number is =
    let before : number - first ≡ length done = omega arith in
    let of_names : List Row → Option ℕ =
    λ xs. result_err (named_in value_in one_too_many (has_name (first_field row) xs) number row) in
    ap (λ n. of_names (take n (done ++ row ∷ more))) before ∙ ap of_names (take-append_seam done (row ∷ more))

-- the names with that of one more row
name-more : (done : List Row) (row : Row) (text : List ℕ) →
    has_name text (done ++ row ∷ []) ≡ (bytes_eq (first_field row) text || has_name text done)
name-more done row text =
    list_any-append (λ row. bytes_eq (first_field row) text) done (row ∷ [])
    ∙ turned (has_name text done) (bytes_eq (first_field row) text) where
      turned : (a b : Bool) → (a || (b || false)) ≡ (b || a)
      turned true true = refl
      turned true false = refl
      turned false true = refl
      turned false false = refl

-- all rows but those that are left were read as these values, and these names are known
pub record ReadSoFar (A : Type 0) (value_in : Row → Result A ℕ) (first one_too_many : ℕ) (all left : List Row) (values : List A)
    (known : List ℕ → Bool) : Type 0 where
  pub done : List Row
  pub whole : done ++ left ≡ all
  pub count : length done ≡ length values
  pub few : length values + first ≤ one_too_many
  pub fault : first_row_fault (reason_against value_in first one_too_many all) (length values + first) left
      ≡ first_row_fault (reason_against value_in first one_too_many all) first all
  pub read : values ++ filter_map (λ row. result_ok (value_in row)) left ≡ filter_map (λ row. result_ok (value_in row)) all
  pub names : (text : List ℕ) → known text ≡ has_name text done

-- no row was read, and no name is known
pub none_read : (A : Type 0) (value_in : Row → Result A ℕ) (first one_too_many : ℕ) (all : List Row) (known : List ℕ → Bool) →
    first ≤ one_too_many → ((text : List ℕ) → known text ≡ false) →
    ReadSoFar A value_in first one_too_many all all [] known
none_read A value_in first one_too_many all known few none =
    let start : 0 + first ≡ first = omega arith in
    record {
      done = [];
      whole = refl;
      count = refl;
      few = rw start few;
      fault = ap (λ n. first_row_fault (reason_against value_in first one_too_many all) n all) start;
      read = refl;
      names = none;
    }

-- what the next row reads as
abbrev next_in : (A : Type 0) → (Row → Result A ℕ) → ℕ → ℕ → List A → (List ℕ → Bool) → Row → Result A ℕ
next_in A value_in first one_too_many values known row =
    named_in value_in one_too_many (known (first_field row)) (length values + first) row

-- the reason against the next row
reason-next : (A : Type 0) (value_in : Row → Result A ℕ) (first one_too_many : ℕ) (all left : List Row) (values : List A)
    (known : List ℕ → Bool) (row : Row) (more : List Row) →
    (so_far : ReadSoFar A value_in first one_too_many all left values known) → left ≡ row ∷ more →
    reason_against value_in first one_too_many all (length values + first) row
    ≡ result_err (next_in A value_in first one_too_many values known row)
reason-next A value_in first one_too_many all left values known row more so_far is =
    let number : ℕ = length values + first in
    let whole : so_far.done ++ row ∷ more ≡ all = ap (λ xs. so_far.done ++ xs) (sym is) ∙ so_far.whole in
    ap (λ xs. reason_against value_in first one_too_many xs number row) (sym whole)
    ∙ reason-at A value_in first one_too_many so_far.done more row number (ap (λ n. n + first) (sym so_far.count))
    ∙ ap (λ taken. result_err (named_in value_in one_too_many taken number row)) (sym (so_far.names (first_field row)))

-- an accepted row was read
pub row_read : (A : Type 0) (value_in : Row → Result A ℕ) (first one_too_many : ℕ) (all left : List Row) (values : List A)
    (known after : List ℕ → Bool) (row : Row) (more : List Row) (value : A) →
    ReadSoFar A value_in first one_too_many all left values known → left ≡ row ∷ more →
    reading_at (length values + first) (next_in A value_in first one_too_many values known row) ≡ Ok value →
    ((text : List ℕ) → after text ≡ (bytes_eq (first_field row) text || known text)) →
    ReadSoFar A value_in first one_too_many all more (values ++ value ∷ []) after
row_read A value_in first one_too_many all left values known after row more value so_far is reads names =
    let reason : ℕ → Row → Option ℕ = reason_against value_in first one_too_many all in
    let next = reading-ok (length values + first) (next_in A value_in first one_too_many values known row) value reads in
    let parts = accepted A value_in one_too_many (known (first_field row)) (length values + first) row value next in
    let none : reason (length values + first) row ≡ None =
    reason-next A value_in first one_too_many all left values known row more so_far is ∙ ap result_err next in
    let longer : length (values ++ value ∷ []) ≡ length values + 1 = length-append values (value ∷ []) in
    let number : length (values ++ value ∷ []) + first ≡ length values + first + 1 = omega (arith, longer) in
    let passed : first_row_fault reason (length values + first) left
    ≡ first_row_fault reason (length values + first + 1) more = rw (is, none) refl in
    let here : filter_map (λ row. result_ok (value_in row)) left
    ≡ value ∷ filter_map (λ row. result_ok (value_in row)) more = rw (is, parts.0) refl in
    record {
      done = so_far.done ++ row ∷ [];
      whole = append_assoc so_far.done (row ∷ []) more ∙ ap (λ xs. so_far.done ++ xs) (sym is) ∙ so_far.whole;
      count = omega (arith, length-append so_far.done (row ∷ []), so_far.count, longer);
      few = omega (arith, so_far.few, longer, eqb-false _ _ parts.1);
      fault = rw number (sym passed ∙ so_far.fault);
      read = append_assoc values (value ∷ []) (filter_map (λ row. result_ok (value_in row)) more)
          ∙ ap (λ xs. values ++ xs) (sym here) ∙ so_far.read;
      names = λ text. names text ∙ ap (λ b. bytes_eq (first_field row) text || b) (so_far.names text)
          ∙ sym (name-more so_far.done row text);
    }
