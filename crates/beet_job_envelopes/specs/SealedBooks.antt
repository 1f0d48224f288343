-- Books whose bids are sealed in envelopes.
use Rattle.std.specs.Prelude.{◌≡◌, ℕ, ◌≤◌, List, [], ◌∷◌, length, All, Some, ⊤}
use Rattle.beet_field.specs.declared.point.Point.{Point}
use Rattle.beet_field.specs.declared.point.Point.TheVariants.{One, Two, Three}
use Rattle.beet_field.specs.declared.trio.Trio.{Trio}
use Rattle.beet_store.specs.Files.{File, bytes_of}
use Rattle.beet_words.specs.Words.{accepted}
use Rattle.beet_bids.specs.Grids.{Grid}
use Rattle.beet_book.specs.Dealing.{dealt_points}
use Rattle.beet_farmer.specs.Sealing.{envelope_for}
use Rattle.beet_farmer.specs.declared.list_file.ListEntry.{ListEntry}
use Rattle.beet_book.specs.Farmers.{BidderWithWords}
use Rattle.beet_load.specs.Counts.{words_wanted}

-- the points that a farmer seals
abbrev pub sealed_points : BidderWithWords → Trio (List ℕ)
sealed_points farmer = dealt_points farmer.bidder.curve (accepted farmer.words)

-- each farmer has enough words for the grid
abbrev pub HaveWords : Grid → List BidderWithWords → Type 0
HaveWords grid farmers = All (λ farmer. words_wanted grid ≤ length (accepted farmer.words)) farmers

-- the bytes of the envelope that a farmer seals for a server
abbrev pub sealed_bytes : Grid → BidderWithWords → Point → List ℕ
sealed_bytes grid farmer s = envelope_for grid farmer.bidder.curve farmer.words s

-- under the names of an entry the files hold the envelopes of a farmer
pub record HoldsSealed (files : List File) (grid : Grid) (entry : ListEntry) (farmer : BidderWithWords) : Type 0 where
  pub one : bytes_of files entry.envelopes.one ≡ Some (sealed_bytes grid farmer One)
  pub two : bytes_of files entry.envelopes.two ≡ Some (sealed_bytes grid farmer Two)
  pub three : bytes_of files entry.envelopes.three ≡ Some (sealed_bytes grid farmer Three)

-- so it is of each entry and the farmer in its place
abbrev pub HoldEachSealed : List File → Grid → List ListEntry → List BidderWithWords → Type 0
HoldEachSealed files grid [] [] = ⊤
HoldEachSealed files grid [] (farmer ∷ farmers) = ⊥
HoldEachSealed files grid (entry ∷ entries) [] = ⊥
HoldEachSealed files grid (entry ∷ entries) (farmer ∷ farmers) =
    HoldsSealed files grid entry farmer × HoldEachSealed files grid entries farmers
