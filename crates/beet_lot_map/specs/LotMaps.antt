-- Two sessions of lots that one server cannot tell apart, and the words of the second.
use Rattle.std.specs.Prelude.{◌≡◌, ◌≢◌, ◌<◌, ◌+◌, ◌⊎◌, ℕ, List, [], ◌∷◌, length, slice_get, Some}
use Rattle.beet_field.specs.declared.point.Point.{Point}
use Rattle.beet_words.specs.Bundles.{Words}
use Rattle.beet_bids.specs.Books.{Book}
use Rattle.beet_two_books.specs.Agreement.{Agree}
use Rattle.beet_auction_map.specs.Disagreement.{RefusesMap}
use Rattle.beet_auction_map.specs.Enough.{AreEnough}
use Rattle.beet_auction_map.specs.ViewsWith.{transcript_with}
use Rattle.beet_auction_map.specs.Worlds.{WorldsMapped}
use Rattle.beet_two_books.specs.declared.agreeing.MapFault.{MapFault}
use Rattle.beet_two_books.specs.declared.agreeing.MapFault.TheVariants.{ShapeDiffers, OwnBidsDiffer, OutcomesDiffer}
use Rattle.beet_two_books.specs.declared.agreeing.MapFault.TheVariants.{OutOfMemory}
use Rattle.beet_lot_map.specs.declared.mapping.SessionFault.{SessionFault}
use Rattle.beet_lot_map.specs.declared.mapping.SessionFault.TheVariants.{LotsDiffer, GridDiffers}
use Rattle.beet_lot_map.specs.declared.mapping.SessionFault.TheVariants.{ShapeDiffers as ShapeOf}
use Rattle.beet_lot_map.specs.declared.mapping.SessionFault.TheVariants.{OwnBidsDiffer as OwnBidsOf}
use Rattle.beet_lot_map.specs.declared.mapping.SessionFault.TheVariants.{OutcomesDiffer as OutcomesOf}
use Rattle.beet_lot_map.specs.declared.mapping.SessionFault.TheVariants.{OutOfMemory as NoMemory}

-- the words of each lot are enough for its book
abbrev pub AreEnoughEach : List Book → List Words → Type 0
AreEnoughEach firsts words =
    (k : ℕ) (book : Book) (held : Words) → slice_get firsts k ≡ Some book → slice_get words k ≡ Some held →
    AreEnough book held

-- the books of a lot agree for a server, and these are the words of the second: the only ones that go with the words of
-- the first, and with them the server has the same transcript
pub record LotMapped (s : Point) (first : Book) (words : Words) (second : Book) (mapped : Words) : Type 0 where
  pub agree : Agree s first second
  pub worlds : WorldsMapped s first words second mapped
  pub bytes : transcript_with second mapped s ≡ transcript_with first words s

-- the fault of a session whose lot has this fault
abbrev pub fault_in : ℕ → MapFault → SessionFault
fault_in lot (ShapeDiffers bidder) = ShapeOf lot bidder
fault_in lot (OwnBidsDiffer bidder) = OwnBidsOf lot bidder
fault_in lot (OutcomesDiffer one other) = OutcomesOf lot one other
fault_in lot OutOfMemory = NoMemory

-- why the words of a lot are not mapped: its grids differ, or its books over one grid do not agree
abbrev pub RefusesLot : Point → ℕ → Book → Book → SessionFault → Type 0
RefusesLot s lot first second fault =
    ((second.grid ≢ first.grid) × (fault ≡ GridDiffers lot))
    ⊎ ((second.grid ≡ first.grid)
    × ((of_lot : MapFault) × (fault ≡ fault_in lot of_lot) × RefusesMap s first second of_lot))

-- the lots before a place agree
abbrev pub AgreeBefore : Point → List Book → List Book → ℕ → Type 0
AgreeBefore s firsts seconds n =
    (k : ℕ) (first second : Book) → k < n → slice_get firsts k ≡ Some first → slice_get seconds k ≡ Some second →
    Agree s first second

-- the lot at a place is refused by this fault, and no lot before it; lots are counted from 1
pub record RefusesAt (s : Point) (firsts seconds : List Book) (fault : SessionFault) (n : ℕ) : Type 0 where
  pub first : Book
  pub second : Book
  pub is_first : slice_get firsts n ≡ Some first
  pub is_second : slice_get seconds n ≡ Some second
  pub before : AgreeBefore s firsts seconds n
  pub here : RefusesLot s (n + 1) first second fault

-- why the words of a session are not mapped: there are other numbers of lots, or else a first lot that does not agree;
-- or memory ran out at a lot that agrees, as all before it do
abbrev pub RefusesSession : Point → List Book → List Book → SessionFault → Type 0
RefusesSession s firsts seconds fault =
    ((length seconds ≢ length firsts) × (fault ≡ LotsDiffer (length firsts) (length seconds)))
    ⊎ ((length seconds ≡ length firsts) × ((n : ℕ) × RefusesAt s firsts seconds fault n))

-- the words of so many lots are mapped, each in the one way there is
abbrev pub MappedBefore : Point → List Book → List Words → List Book → List Words → ℕ → Type 0
MappedBefore s firsts words seconds mapped n =
    (k : ℕ) (first : Book) (held : Words) (second : Book) (other : Words) → k < n →
    slice_get firsts k ≡ Some first → slice_get words k ≡ Some held → slice_get seconds k ≡ Some second →
    slice_get mapped k ≡ Some other →
    LotMapped s first held second other

-- there are as many lots, and the words of each are mapped
pub record SessionMapped (s : Point) (firsts : List Book) (words : List Words) (seconds : List Book)
    (mapped : List Words) : Type 0 where
  pub lots : length seconds ≡ length firsts
  pub count : length mapped ≡ length firsts
  pub each : MappedBefore s firsts words seconds mapped (length firsts)

-- what a server sees of a session: its transcript of each lot, in order
abbrev pub session_transcripts : Point → List Book → List Words → List (List ℕ)
session_transcripts s (book ∷ books) (words ∷ lots) = transcript_with book words s ∷ session_transcripts s books lots
session_transcripts s _ _ = []
