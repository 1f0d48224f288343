-- Runs for which a law would be false without one of its premises.
use Rattle.std.specs.Prelude.{ℕ, ◌+◌, List, [], ◌∷◌, codes, None, Ok, Err}
use Rattle.beet_store.specs.Desks.{DeskCall, DeskTold, Say}
use Rattle.beet_store.specs.Files.{Fetch, Longer, Told, fetch_of}
use Rattle.beet_store.specs.declared.desk.PutFault.TheVariants.{Failed}
use Rattle.beet_forms.specs.FaultLines.{fault_line_of}
use Rattle.beet_bids.specs.declared.auction_file.TheConstants.{AUCTION_LIMIT}
use Rattle.beet_errand.specs.Errands.{too_long}
use Rattle.beet_errand.specs.Texts.{usage_text}
use Rattle.beet_app_laws.specs.Calls.{Call}

abbrev pub tally_words : List ℕ → List ℕ → List (List ℕ)
tally_words auction book = codes "tally" ∷ auction ∷ book ∷ []

-- a shelf that was asked this, and does not tell its files
abbrev pub asked : List Fetch → Told
asked fetches = record { files = None; fetches = fetches }

-- a desk that got these calls, and does not tell what it was given
abbrev pub called : List DeskCall → DeskTold
called calls = record { given = None; calls = calls }

-- the file of this name was longer than the limit of an auction's, and that was said
abbrev pub longer_call : List ℕ → Call
longer_call name = record {
  shelf = asked [];
  shelf_now = asked (fetch_of name AUCTION_LIMIT (Longer (AUCTION_LIMIT + 1)) ∷ []);
  desk = called [];
  desk_now = called (Say (fault_line_of name too_long.place too_long.reason) (Ok tt) ∷ []);
  status = 5;
}

-- memory ran out before anything was done
abbrev pub short_call : Told → DeskTold → Call
short_call told desk = record { shelf = told; shelf_now = told; desk = desk; desk_now = desk; status = 1 }

-- the usage line was not taken
abbrev pub untold_call : Told → Call
untold_call told = record {
  shelf = told;
  shelf_now = told;
  desk = called [];
  desk_now = called (Say usage_text (Err Failed) ∷ []);
  status = 4;
}
