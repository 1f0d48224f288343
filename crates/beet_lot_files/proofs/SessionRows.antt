-- The rows of a session that are read, and its lots.
use Rattle.std.proofs.Common.{◌≡◌, List, Result, Ok, Err, Vec, Global, refl, subst, sym}
use Rattle.beet_forms.specs.Faults.{Answers, Reading}
use Rattle.beet_forms.specs.declared.faults.ReadFault.{ReadFault}
use Rattle.beet_forms.specs.declared.faults.ReadFault.TheVariants.{Bad, OutOfMemory}
use Rattle.beet_lot_files.specs.SessionFiles.{with_lots}
use Rattle.beet_lot_files.specs.declared.session_file.LotRow.{LotRow}

-- rows that are not read are no lots
pub lots-unread : (reading : Reading (List LotRow)) (fault : ReadFault) →
    Answers {T = Vec LotRow Global} (λ rows. rows.items) reading (Err fault) →
    Answers {T = List LotRow} (λ lots. lots) (with_lots reading) (Err fault)
lots-unread reading (Bad place reason) a = rw a refl
lots-unread reading OutOfMemory a = tt

-- rows that are read are lots, if there is one
pub lots-read : (reading : Reading (List LotRow)) (rows : List LotRow) (result : Result (List LotRow) ReadFault) → reading ≡ Ok rows →
    Answers (λ lots. lots) (with_lots (Ok rows)) result → Answers (λ lots. lots) (with_lots reading) result
lots-read reading rows result is a = subst (λ (r : Reading (List LotRow)). Answers (λ lots. lots) (with_lots r) result) (sym is) a
