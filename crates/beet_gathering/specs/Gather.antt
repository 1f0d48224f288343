-- What is read of the bidders of a list: three envelopes of each, behind the words of the servers.
use Rattle.std.specs.Prelude.{◌≡◌, ℕ, List, [], ◌∷◌, ◌++◌, None, length}
use Rattle.beet_field.specs.declared.point.Point.TheVariants.{One, Two, Three}
use Rattle.beet_field.specs.declared.trio.Trio.{Trio}
use Rattle.beet_bids.specs.Grids.{Grid}
use Rattle.beet_book.specs.declared.sources.Servers.{Servers}
use Rattle.beet_farmer.specs.Envelopes.{envelope_of}
use Rattle.beet_farmer.specs.Lists.{list_of}
use Rattle.beet_farmer.specs.Sealing.{points_in}
use Rattle.beet_farmer.specs.declared.list_file.ListEntry.{ListEntry}
use Rattle.beet_errand.specs.Errands.{Step, gives, reads, ◌>>=◌}
use Rattle.beet_farmer.specs.declared.envelope.TheConstants.{ENVELOPE_LIMIT}
use Rattle.beet_farmer.specs.declared.list_file.TheConstants.{LIST_LIMIT}
use Rattle.beet_load.specs.Servers.{ServerWords, all_words_errand}
use Rattle.beet_load.specs.Settings.{auction_and_servers}
use Rattle.beet_load.specs.Wanted.{wanted_of}

-- the grid of an auction, where the words of its servers come from, and the entries of its list
abbrev pub listed_errand : List ℕ → List ℕ → List ℕ → Step (Grid × Servers × List ListEntry)
listed_errand auction servers list = do
  read ← auction_and_servers auction servers
  entries ← reads list LIST_LIMIT list_of
  gives (read.0, read.1, entries)

-- the points in the three envelopes of a bidder, for the servers in order
abbrev pub envelopes_errand : Grid → Trio (List ℕ) → Step (Trio (List ℕ))
envelopes_errand grid names = do
  one ← reads names.one ENVELOPE_LIMIT (envelope_of grid One)
  two ← reads names.two ENVELOPE_LIMIT (envelope_of grid Two)
  three ← reads names.three ENVELOPE_LIMIT (envelope_of grid Three)
  gives (points_in (record { one = one; two = two; three = three }))

-- the points of the bidders of a list in order, after those that are read
abbrev pub bidders_errand : Grid → List (Trio (List ℕ)) → List ListEntry → Step (List (Trio (List ℕ)))
bidders_errand grid read [] = gives read
bidders_errand grid read (entry ∷ entries) = do
  points ← envelopes_errand grid entry.envelopes
  bidders_errand grid (read ++ points ∷ []) entries

-- the words of the servers, and then the points of the bidders; a bundle may have any number of bidders
abbrev pub sealed_errand : Grid → Servers → List ListEntry → Step (Trio ServerWords × List (Trio (List ℕ)))
sealed_errand grid sources entries = do
  words ← all_words_errand (wanted_of None grid) None sources
  bidders ← bidders_errand grid [] entries
  gives (words.servers, bidders)

-- the points of bidders, one for each of these entries, are taken
pub record HasGathered {T : Type 0} (has_taken : Grid → List (Trio (List ℕ)) → T → Type 0) (grid : Grid)
    (entries : List ListEntry) (gathered : T) (bidders : List (Trio (List ℕ))) : Type 0 where
  pub taken : has_taken grid bidders gathered
  pub count : length bidders ≡ length entries
