-- What a server sees of the lots of two sessions, and what is told of them.
use Rattle.std.specs.Prelude.{◌≡◌, ◌++◌, List, map}
use Rattle.beet_field.specs.declared.point.Point.{Point}
use Rattle.beet_words.specs.Bundles.{Words}
use Rattle.beet_bids.specs.Books.{Book}
use Rattle.beet_run.specs.Outcomes.{cleared}
use Rattle.beet_lot_files.specs.declared.session_file.LotRow.{LotRow}
use Rattle.beet_lot_load.specs.Telling.{TellsLot, TellsLots}
use Rattle.beet_lot_map.specs.LotMaps.{session_transcripts}
use Rattle.beet_lot_view.specs.SessionViews.{lot_part, session_view_bytes, session_words_bytes}
use Rattle.beet_job_worlds.specs.declared.seeing.SeenWorlds.{SeenWorlds}
use Rattle.beet_job_session_pair.specs.Kept.{loaded_each}
use Rattle.beet_job_session_pair.specs.declared.answering.SeenSessions.{SeenSessions}

-- one lot more is put and told
pub record AddsLot (row : LotRow) (lot : SeenWorlds) (before after : SeenSessions) : Type 0 where
  pub first : after.first ≡ before.first ++ lot_part lot.first.items
  pub second : after.second ≡ before.second ++ lot_part lot.second.items
  pub words : after.words ≡ before.words ++ lot_part lot.words.items
  pub told : TellsLot row lot.reply before.told after.told

-- all lots of these rows are
pub record AreSeen (s : Point) (rows : List LotRow) (books : List Book) (words mapped : List Words)
    (seen : SeenSessions) : Type 0 where
  pub first : seen.first ≡ session_view_bytes (session_transcripts s books words)
  pub second : seen.second ≡ session_view_bytes (session_transcripts s books words)
  pub second_words : seen.words ≡ session_words_bytes mapped
  pub told : TellsLots rows (map cleared (loaded_each books words)) seen.told
