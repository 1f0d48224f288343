-- The bidders of a list that are read so far.
use Rattle.std.proofs.Common.{◌≡◌, ◌+◌, ℕ, List, [], length}
use Rattle.beet_field.specs.declared.trio.Trio.{Trio}
use Rattle.beet_store.specs.Files.{Seen}
use Rattle.beet_bids.specs.Grids.{Grid}
use Rattle.beet_farmer.specs.declared.list_file.ListEntry.{ListEntry}
use Rattle.beet_errand.proofs.Frame.{Reached}
use Rattle.beet_gathering.specs.Gather.{bidders_errand}

-- the bidders before the rest are read, and their points are taken
pub record Gathered {T : Type 0} (has_taken : Grid → List (Trio (List ℕ)) → T → Type 0) (grid : Grid)
    (entries rest : List ListEntry) (old now : Seen) (gathered : T) : Type 0 where
  pub bidders : List (Trio (List ℕ))
  pub read : Reached old now (bidders_errand grid [] entries) (bidders_errand grid bidders rest)
  pub taken : has_taken grid bidders gathered
  pub count : length bidders + length rest ≡ length entries
