-- The book of a trial, by a rule: its grid, the seeds of its servers, and of each bidder the seed and the curve.
use Rattle.std.specs.Prelude.{ℕ, ◌+◌, ◌*◌, ◌-◌, ◌%◌, ◌==◌, if◌then◌else◌, List, ◌++◌, map, replicate, None}
use Rattle.std.specs.List.{range_with_len}
use Rattle.beet_field.specs.declared.trio.Trio.{Trio}
use Rattle.beet_words.specs.Fields.{number_bytes}
use Rattle.beet_words.specs.Seeds.{seed_words}
use Rattle.beet_gates.specs.declared.Gates.TheVariants.{Chain}
use Rattle.beet_bids.specs.Books.{Book}
use Rattle.beet_bids.specs.Curves.{Curve}
use Rattle.beet_bids.specs.Grids.{Grid}
use Rattle.beet_bids.specs.declared.outcomes.Policy.TheVariants.{Volume}
use Rattle.beet_book.specs.Farmers.{BidderWithWords, book_with}
use Rattle.beet_plan.specs.Kept.{words_kept}
use Rattle.beet_load.specs.Wanted.{wanted_of}
use Rattle.beet_load.specs.Servers.{ServerWords, seeded}
use Rattle.beet_job_trial.specs.declared.rules.TheConstants.{BASE, TICK, FIRST_SEED, PERIOD}

-- the grid with so many prices; the price and the volume are opened
abbrev pub trial_grid : ℕ → Grid
trial_grid prices = record { base = BASE; tick = TICK; prices = prices; gates = Chain; policy = Volume }

-- the seed of a server: 32 bytes, each the server's number
abbrev pub server_seed : ℕ → List ℕ
server_seed server = replicate 32 server

-- the words of the three servers
abbrev pub trial_servers : Grid → Trio ServerWords
trial_servers grid = record {
  one = seeded (wanted_of None grid) (server_seed 1);
  two = seeded (wanted_of None grid) (server_seed 2);
  three = seeded (wanted_of None grid) (server_seed 3);
}

-- the seed of bidder i, from 0: 24 zero bytes, and then its number, from the first on, in 8 bytes
abbrev pub bidder_seed : ℕ → List ℕ
bidder_seed i = replicate 24 0 ++ number_bytes (FIRST_SEED + i)

-- its weight, 1 to 7
abbrev pub weight : ℕ → ℕ
weight i = 1 + i % 7

-- the weight with which it buys: none if i is odd
abbrev pub buying : ℕ → ℕ
buying i = if i % 2 == 0 then weight i else 0

-- the weight with which it sells: none if i is even
abbrev pub selling : ℕ → ℕ
selling i = if i % 2 == 0 then 0 else weight i

-- what is bought at each of so many places: the weight times the number of places from there on
abbrev pub bought : ℕ → ℕ → List ℕ
bought prices weight = map (λ k. weight * (prices - k)) (range_with_len 0 prices)

-- what is sold at each of so many places: the weight times the number of places before
abbrev pub sold : ℕ → ℕ → List ℕ
sold prices weight = map (λ k. weight * k) (range_with_len 0 prices)

-- the curve of bidder i
abbrev pub trial_curve : Grid → ℕ → Curve
trial_curve grid i = record { buy = bought grid.prices (buying i); sell = sold grid.prices (selling i) }

-- those of the first bidders, up to where they come again
unfoldable pub trial_curves : Grid → List Curve
trial_curves grid = map (trial_curve grid) (range_with_len 0 PERIOD)

-- bidder i: known to no server, with the words of its seed
abbrev pub trial_farmer : Grid → ℕ → BidderWithWords
trial_farmer grid i = record {
  bidder = record { known = None; curve = trial_curve grid i };
  words = seed_words (bidder_seed i) 0 (words_kept grid.prices);
}

-- so many bidders, from bidder `from` on
abbrev pub trial_part : Grid → ℕ → ℕ → List BidderWithWords
trial_part grid from count = map (trial_farmer grid) (range_with_len from count)

abbrev pub trial_farmers : Grid → ℕ → List BidderWithWords
trial_farmers grid bidders = trial_part grid 0 bidders

-- their book
abbrev pub trial_book : Grid → ℕ → Book
trial_book grid bidders = book_with grid (trial_farmers grid bidders)
