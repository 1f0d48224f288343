-- The lines on which the inputs of a sale lie.
use Rattle.std.specs.Prelude.{ℕ, List, map}
use Rattle.beet_shamir.specs.declared.Line.{Line}
use Rattle.beet_mapped.specs.Dealers.{Dealer, dealers_of}
use Rattle.beet_sale_file.specs.declared.rows.SaleBid.{SaleBid}
use Rattle.beet_sale_map.specs.Worlds.{bid_in, party_of, slope_in}

-- the bid, with the number that is drawn for it as the slope
abbrev pub dealer_line : Dealer → Line
dealer_line dealer = record { value = bid_in dealer; slope = slope_in dealer }

abbrev pub dealer_lines : List SaleBid → List (List ℕ) → List Line
dealer_lines bids words = map dealer_line (dealers_of (map party_of bids) words)
