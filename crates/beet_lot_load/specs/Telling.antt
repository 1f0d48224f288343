-- What is told of the lots of a session.
use Rattle.std.specs.Prelude.{◌≡◌, ℕ, Bool, true, false, List, [], ◌∷◌, ◌++◌, ◌||◌, codes, if◌then◌else◌}
use Rattle.std.specs.List.{list_any}
use Rattle.beet_errand.specs.Errands.{Answer}
use Rattle.beet_errand.specs.Texts.{line_of}
use Rattle.beet_errand.specs.declared.answer.Status.{Status}
use Rattle.beet_errand.specs.declared.answer.Status.TheVariants.{Done, MasksSpent, OutOfMemory, WriteFault, Refused}
use Rattle.beet_lot_files.specs.declared.session_file.LotRow.{LotRow}
use Rattle.beet_lot_load.specs.declared.telling.LotsTold.{LotsTold}

-- whether a status is that of spent masks
abbrev pub is_spent : Status → Bool
is_spent MasksSpent = true
is_spent Done = false
is_spent OutOfMemory = false
is_spent WriteFault = false
is_spent (Refused refusal) = false

-- the line of a lot's name
abbrev pub name_line : List ℕ → List ℕ
name_line name = line_of (codes "lot " ++ name)

-- for each lot in order its name, and then the text of the answer for it alone
abbrev pub lots_text : List LotRow → List Answer → List ℕ
lots_text (row ∷ rows) (answer ∷ answers) = name_line row.name ++ answer.text ++ lots_text rows answers
lots_text _ _ = []

-- whether the masks of a lot are spent, by the answers for each of them alone
abbrev pub any_spent : List Answer → Bool
any_spent answers = list_any (λ answer. is_spent answer.status) answers

-- the status is that of spent masks if they are in a lot
abbrev pub lots_status : List Answer → Status
lots_status answers = if any_spent answers then MasksSpent else Done

-- the first lots are told, with these answers for each of them alone
pub record TellsLots (rows : List LotRow) (answers : List Answer) (told : LotsTold) : Type 0 where
  pub text : told.text.items ≡ lots_text rows answers
  pub spent : told.spent ≡ any_spent answers

-- one lot more is told
pub record TellsLot (row : LotRow) (answer : Answer) (before after : LotsTold) : Type 0 where
  pub text : after.text.items ≡ before.text.items ++ name_line row.name ++ answer.text
  pub spent : after.spent ≡ (before.spent || is_spent answer.status)
