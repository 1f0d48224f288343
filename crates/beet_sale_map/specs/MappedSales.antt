-- All that is said of the words of the second of two sales.
use Rattle.std.specs.Prelude.{◌≡◌, ℕ, List, map}
use Rattle.beet_field.specs.Trio.{member}
use Rattle.beet_field.specs.declared.point.Point.{Point}
use Rattle.beet_gates.specs.declared.Gates.{Gates}
use Rattle.beet_words.specs.Bundles.{Words}
use Rattle.beet_sharing.specs.Runs.{HasRounds}
use Rattle.beet_sharing.specs.Seen.{SeenRun, run_seen}
use Rattle.beet_mapped.specs.Trades.{Trade, rounds_in, setup_in}
use Rattle.beet_trades.specs.ListsMapped.{ListsMapped}
use Rattle.beet_sale_file.specs.declared.rows.SaleBid.{SaleBid}
use Rattle.beet_sale_map.specs.Bids.{AreTwoSales}
use Rattle.beet_sale_map.specs.Enough.{AreEnough, cut_words}
use Rattle.beet_sale_map.specs.Worlds.{IsOnlyFirst, IsOnlySecond, Mapped, party_of, trade_of}

-- the run of a sale with these words has its rounds: its end comes after them, and not before
abbrev pub Ends : Gates → List SaleBid → Words → Type 0
Ends gates bids words = HasRounds (setup_in (trade_of gates bids) words) (rounds_in (trade_of gates bids) words)

-- what a server sees of the run, with the words that are read
abbrev pub run_seen_in : Trade → Words → Point → SeenRun
run_seen_in trade words s =
    run_seen (setup_in trade words) s (rounds_in trade words) (member words.masks s) (member words.coefficients s)

abbrev pub run_seen_of : Gates → List SaleBid → Words → Point → SeenRun
run_seen_of gates bids words s = run_seen_in (trade_of gates bids) (cut_words bids words) s

-- words that are enough for the first of two sales that agree for server s, and words of the second sale's bidders that
-- are mapped from those of the first; all words are below 2^61
pub record HasBidders (s : Point) (first : List SaleBid) (words : Words) (second : List SaleBid)
    (bidders : List (List ℕ))
    : Type 0 where
  pub sales : AreTwoSales s first second
  pub enough : AreEnough first words
  pub bidders_mapped : ListsMapped s (map party_of first) (map party_of second) words.bidders bidders

-- words of two sales: mapped in the one way there is, enough for the second, and server s sees the same of both runs
pub record SalesMapped (s : Point) (gates : Gates) (first : List SaleBid) (words : Words) (second : List SaleBid)
    (words' : Words)
    : Type 0 where
  pub mapped : Mapped s gates first words second words'
  pub enough : AreEnough second words'
  pub ends : Ends gates first words
  pub ends' : Ends gates second words'
  pub looks : run_seen_of gates second words' s ≡ run_seen_of gates first words s
  pub only : IsOnlySecond s gates first words second words'
  pub back : IsOnlyFirst s gates first words second words'
