-- A book that is judged has no more bidders than the book that was read.
use Rattle.std.proofs.Common.{◌≡◌, ◌≤◌, ℕ, List, length, Result, Ok, Err, Vec, Global, IfOk}
use Rattle.beet_forms.specs.declared.faults.ReadFault.{ReadFault}
use Rattle.beet_book.specs.declared.entries.Entry.{Entry}
use Rattle.beet_errand.specs.Fetches.{Judges}
use Rattle.beet_errand.specs.declared.answer.Stop.{Stop}
use Rattle.beet_words.specs.declared.bundle.TheConstants.{MOST_BIDDERS}

pub few_judged : (name : List ℕ) (read : Result (Vec Entry Global) ReadFault) (result : Result (Vec Entry Global) Stop) →
    IfOk read (λ entries. length entries.items ≤ MOST_BIDDERS) → Judges name read result →
    IfOk result (λ entries. length entries.items ≤ MOST_BIDDERS)
few_judged name (Ok entries) (Ok same) few j = let e : entries ≡ same = cc in rw e at few
few_judged name (Err fault) (Ok same) few j = absurd cc
few_judged name read (Err stop) few j = tt
