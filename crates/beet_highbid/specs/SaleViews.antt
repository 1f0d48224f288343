-- What one server sees of a sale, and its transcript.
use Rattle.std.specs.Prelude.{ℕ, List, [], map, ◌++◌, codes, Bool, if◌then◌else◌, Option, Some, None}
use Rattle.beet_field.specs.Point.{number_of}
use Rattle.beet_field.specs.declared.point.Point.{Point}
use Rattle.beet_gates.specs.declared.Gates.{Gates}
use Rattle.beet_words.specs.Bundles.{Words}
use Rattle.beet_words.specs.Fields.{number_bytes}
use Rattle.beet_sharing.specs.Seen.{SeenRun}
use Rattle.beet_view.specs.BookViews.{names}
use Rattle.beet_view.specs.Transcripts.{counted_bytes, mark_of, number_of_gates, run_bytes}
use Rattle.beet_mapped.specs.Dealers.{Dealer, dealers_of}
use Rattle.beet_sale_file.specs.declared.rows.SaleBid.{SaleBid}
use Rattle.beet_sale_map.specs.Enough.{cut_words}
use Rattle.beet_sale_map.specs.MappedSales.{run_seen_of}
use Rattle.beet_sale_map.specs.Worlds.{bid_in, party_of, point_in}

-- a bid at a server: which server knows it, if one does, its point, and the bid and its words, if this server knows
-- them
pub record SeenBid : Type 0 where
  pub known : Option Point
  pub point : ℕ
  pub own : Option (ℕ × List ℕ)

abbrev pub kept_if : Bool → ℕ → List ℕ → Option (ℕ × List ℕ)
kept_if known bid words = if known then Some (bid, words) else None

abbrev pub seen_bid : Point → Dealer → SeenBid
seen_bid s dealer = record {
  known = dealer.party.known;
  point = point_in dealer s;
  own = kept_if (names dealer.party.known s) (bid_in dealer) dealer.words;
}

-- the server, the kind of gates, the bids, and what is seen of the run
pub record SaleView : Type 0 where
  pub server : Point
  pub gates : Gates
  pub bids : List SeenBid
  pub run : SeenRun

-- the bids that a server sees, with the words that are read
abbrev pub bids_seen : List SaleBid → Words → Point → List SeenBid
bids_seen bids words s = map (seen_bid s) (dealers_of (map party_of bids) (cut_words bids words).bidders)

-- what a server sees of a sale with these words, of which as many are kept as a run reads
abbrev pub view_of_sale : Gates → List SaleBid → Words → Point → SaleView
view_of_sale gates bids words s =
    record { server = s; gates = gates; bids = bids_seen bids words s; run = run_seen_of gates bids words s }

-- the bytes of a bid, and of the bid and words that a server knows
abbrev pub own_bytes : Option (ℕ × List ℕ) → List ℕ
own_bytes None = []
own_bytes (Some own) = number_bytes own.0 ++ counted_bytes number_bytes own.1

abbrev pub seen_bytes : SeenBid → List ℕ
seen_bytes seen = number_bytes (mark_of seen.known) ++ (number_bytes seen.point ++ own_bytes seen.own)

-- the transcript of a view
abbrev pub sale_bytes : SaleView → List ℕ
sale_bytes view =
    codes "BEETHB01" ++ (number_bytes (number_of view.server)
    ++ (number_bytes (number_of_gates view.gates)
    ++ (counted_bytes seen_bytes view.bids
    ++ run_bytes view.run)))

-- the transcript of a server of a sale
abbrev pub sale_transcript : Gates → List SaleBid → Words → Point → List ℕ
sale_transcript gates bids words s = sale_bytes (view_of_sale gates bids words s)
