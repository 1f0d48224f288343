-- The lots of a session are told, one after another.
use Rattle.std.proofs.Common.{◌≡◌, ◌<◌, Bool, true, false, ◌||◌, List, [], ◌∷◌, ◌++◌, length, get_or, refl, sym, ap, ◌∙◌, arith}
use Rattle.std.proofs.Common.{append_assoc, append-nil}
use Rattle.std.specs.Prelude.{if◌then◌else◌}
use Rattle.std.proofs.lemmas.List.Folds.{list_any-append}
use Rattle.beet_errand.specs.Errands.{Answer, text_answer}
use Rattle.beet_errand.specs.declared.answer.Status.TheVariants.{Done, MasksSpent}
use Rattle.beet_lot_files.specs.declared.session_file.LotRow.{LotRow}
use Rattle.beet_lot_load.specs.Telling.{TellsLot, TellsLots, any_spent, is_spent, lots_status, lots_text, name_line}
use Rattle.beet_lot_load.specs.declared.telling.LotsTold.{LotsTold}

no-text : (rows : List LotRow) → lots_text rows [] ≡ []
no-text [] = refl
no-text (row ∷ rows) = refl

-- one lot more is told behind the others
text-more : (rows : List LotRow) (answers : List Answer) (row : LotRow) (answer : Answer) → length answers < length rows →
    row ≡ get_or rows (length answers) row →
    lots_text rows (answers ++ answer ∷ []) ≡ lots_text rows answers ++ name_line row.name ++ answer.text
text-more [] answers row answer lt e = absurd (omega (arith, lt))
text-more (r ∷ rows) [] row answer lt e =
    ap (λ (x : LotRow). name_line x.name ++ answer.text ++ lots_text rows []) (sym e)
    ∙ ap (λ t. name_line row.name ++ answer.text ++ t) (no-text rows)
    ∙ append-nil (name_line row.name ++ answer.text)
text-more (r ∷ rows) (a ∷ answers) row answer lt e =
    let front = name_line r.name ++ a.text in
    let told = lots_text rows answers in
    ap (λ t. front ++ t) (text-more rows answers row answer (omega (arith, lt)) e)
    ∙ sym (append_assoc front (told ++ name_line row.name) answer.text)
    ∙ ap (λ t. t ++ answer.text) (sym (append_assoc front told (name_line row.name)))

spent-more : (answers : List Answer) (answer : Answer) →
    any_spent (answers ++ answer ∷ []) ≡ (any_spent answers || is_spent answer.status)
spent-more answers answer =
    list_any-append (λ (a : Answer). is_spent a.status) answers (answer ∷ []) ∙ last (any_spent answers) (is_spent answer.status) where
      last : (a b : Bool) → (a || (b || false)) ≡ (a || b)
      last true b = refl
      last false true = refl
      last false false = refl

-- no lot is told yet
pub tells-none : (rows : List LotRow) (told : LotsTold) → told.text.items ≡ [] → told.spent ≡ false → TellsLots rows [] told
tells-none rows told e f = record { text = e ∙ sym (no-text rows); spent = f }

-- one lot more is told
pub tells-more : (rows : List LotRow) (answers : List Answer) (row : LotRow) (answer : Answer) (before after : LotsTold) →
    length answers < length rows → row ≡ get_or rows (length answers) row → TellsLots rows answers before →
    TellsLot row answer before after →
    TellsLots rows (answers ++ answer ∷ []) after
tells-more rows answers row answer before after lt e t more = record {
  text = more.text ∙ ap (λ x. x ++ name_line row.name ++ answer.text) t.text ∙ sym (text-more rows answers row answer lt e);
  spent = more.spent ∙ ap (λ b. b || is_spent answer.status) t.spent ∙ sym (spent-more answers answer);
}

-- all are told, and that is replied
pub told-reply : (rows : List LotRow) (answers : List Answer) (told : LotsTold) (reply : Answer) → TellsLots rows answers told →
    reply ≡ text_answer (if told.spent then MasksSpent else Done) told.text.items →
    text_answer (lots_status answers) (lots_text rows answers) ≡ reply
told-reply rows answers told reply t is =
    sym (is ∙ ap (λ b. text_answer (if b then MasksSpent else Done) told.text.items) t.spent
    ∙ ap (text_answer (lots_status answers)) t.text)
