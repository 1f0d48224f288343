-- One lot more of a session is told.
use Rattle.std.proofs.Common.{List, [], ◌∷◌, ◌++◌, map, get_or, sym, ap, ◌∙◌, arith, subst}
use Rattle.std.proofs.lemmas.List.{length-map, map-append}
use Rattle.beet_errand.specs.Errands.{Answer}
use Rattle.beet_load.specs.Loading.{AuctionWithBidders}
use Rattle.beet_run.specs.Outcomes.{cleared}
use Rattle.beet_lot_files.specs.declared.session_file.LotRow.{LotRow}
use Rattle.beet_lot_load.specs.Taking.{IsNext}
use Rattle.beet_lot_load.specs.Telling.{TellsLot, TellsLots}
use Rattle.beet_lot_load.specs.declared.telling.LotsTold.{LotsTold}
use Rattle.beet_lot_load.proofs.LotsTelling.{tells-more}
use Rattle.beet_job_session.specs.Sessions.{TellsCleared}

-- one lot more is told
pub told-more : (rows : List LotRow) (lots : List AuctionWithBidders) (row : LotRow) (loaded : AuctionWithBidders)
    (before after : LotsTold) → TellsCleared rows before lots → IsNext rows lots row → TellsLot row (cleared loaded) before after →
    TellsCleared rows after (lots ++ loaded ∷ [])
told-more rows lots row loaded before after t next more =
    let many = length-map lots cleared in
    subst (λ (answers : List Answer). TellsLots rows answers after) (sym (map-append cleared lots (loaded ∷ [])))
    (tells-more rows (map cleared lots) row (cleared loaded) before after (omega (arith, many, next.within))
    (next.is ∙ ap (λ n. get_or rows n row) (sym many)) t more)
