-- The bytes of a transcript that is written part by part.
use Rattle.std.proofs.Common.{◌≡◌, ℕ, List, ◌++◌, length, append_assoc}
use Rattle.std.specs.List.{flat_map}
use Rattle.beet_field.specs.Point.{number_of}
use Rattle.beet_words.specs.Fields.{number_bytes}
use Rattle.beet_view.specs.Views.{Viewed, run_in}
use Rattle.beet_view.specs.Transcripts.{magic, tells_policy, grid_bytes, header_bytes}
use Rattle.beet_view.specs.Transcripts.{seen_bytes, run_bytes, view_bytes}

-- texts that were appended one after another
appended : (a m n g c b r : List ℕ) → ((a ++ (m ++ (n ++ (g ++ c)))) ++ b) ++ r ≡ a ++ (m ++ (n ++ (g ++ ((c ++ b) ++ r))))
appended a m n g c b r = simp append_assoc

-- what a transcript begins with, its bidders and its run are the whole
pub whole-view : (before : List ℕ) (view : Viewed) →
    ((before ++ header_bytes view.server view.grid (length view.bidders)) ++ flat_map seen_bytes view.bidders) ++ run_bytes (run_in view)
    ≡ before ++ view_bytes view
whole-view before view =
    appended before (magic (tells_policy view.grid.policy)) (number_bytes (number_of view.server)) (grid_bytes view.grid)
    (number_bytes (length view.bidders)) (flat_map seen_bytes view.bidders) (run_bytes (run_in view))
