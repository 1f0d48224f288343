-- Transcripts: a view in one binary file.
use Rattle.std.specs.Prelude.{ℕ, zero, suc, ◌-◌, ◌*◌, ◌/◌, ◌≤◌, ◌++◌, min, nat_eq, Bool, true, false, if◌then◌else◌}
use Rattle.std.specs.Prelude.{List, [], ◌∷◌, length, codes, Option, None, Some, Ok, Err, All, IfSome}
use Rattle.std.specs.List.{flat_map, starts_with}
use Rattle.beet_field.specs.Field.{p, IsElement}
use Rattle.beet_field.specs.Point.{number_of}
use Rattle.beet_field.specs.declared.point.Point.{Point}
use Rattle.beet_field.specs.declared.point.Point.TheVariants.{One, Two, Three}
use Rattle.beet_field.specs.declared.TheConstants.{MOST_NUMBERS}
use Rattle.beet_forms.specs.Faults.{Reading}
use Rattle.beet_words.specs.declared.bundle.TheConstants.{MOST_BIDDERS, BAD_MAGIC, TRUNCATED, BAD_NUMBER, TRAILING}
use Rattle.beet_words.specs.declared.fields.Allowed.{Allowed}
use Rattle.beet_words.specs.Words.{IsWord}
use Rattle.beet_words.specs.Bundles.{words_at}
use Rattle.beet_words.specs.Fields.{◌>>=◌, Part, at_offset, number_bytes, number_at, times, counted_at, ended}
use Rattle.beet_gates.specs.declared.Gates.{Gates}
use Rattle.beet_gates.specs.declared.Gates.TheVariants.{Chain, Tree}
use Rattle.beet_bids.specs.Grids.{Grid, IsGrid}
use Rattle.beet_bids.specs.Curves.{Curve, IsCurve}
use Rattle.beet_bids.specs.declared.curve.TheConstants.{LARGEST_QUANTITY}
use Rattle.beet_bids.specs.declared.grid.TheConstants.{LARGEST_BASE, LARGEST_TICK, MOST_PRICES}
use Rattle.beet_bids.specs.declared.outcomes.Policy.{Policy}
use Rattle.beet_bids.specs.declared.outcomes.Policy.TheVariants.{Price, Volume, Full}
use Rattle.beet_book.specs.declared.book_file.TheConstants.{MOST_PRODUCT}
use Rattle.beet_plan.specs.Kept.{words_kept, masks_kept, coefficients_kept}
use Rattle.beet_sharing.specs.Seen.{SeenRun}
use Rattle.beet_view.specs.declared.reading.TheConstants.{MOST_ROUNDS}
use Rattle.beet_view.specs.declared.quantities.Course.{Course}
use Rattle.beet_view.specs.declared.quantities.Course.TheVariants.{Falling, Rising}
use Rattle.beet_view.specs.declared.view.Seen.{Seen}
use Rattle.beet_view.specs.Views.{Viewed, run_in}

-- whether a transcript tells the policy of the auction: it tells all but Volume
abbrev pub tells_policy : Policy → Bool
tells_policy Price = true
tells_policy Volume = false
tells_policy Full = true

-- the text that a transcript begins with, by whether it tells the policy
abbrev pub magic : Bool → List ℕ
magic tells = if tells then codes "BEETVW02" else codes "BEETVW01"

-- a number of a transcript, from the lowest to the highest
abbrev pub from_to : ℕ → ℕ → Allowed
from_to lowest highest = record { low = lowest; high = highest; truncated = TRUNCATED; outside = BAD_NUMBER }

-- the most bidders, also if each is counted once for each price
abbrev pub most_bidders : ℕ → ℕ
most_bidders prices = min MOST_BIDDERS (MOST_PRODUCT / prices)

-- the server of a number from 1 to 3
abbrev pub server_of : ℕ → Point
server_of n = if nat_eq n 1 then One else if nat_eq n 2 then Two else Three

-- the server that a mark names, or none for the mark 0
abbrev pub known_of : ℕ → Option Point
known_of mark = if nat_eq mark 0 then None else Some (server_of mark)

-- the mark that names a server, or 0 for none
abbrev pub mark_of : Option Point → ℕ
mark_of None = 0
mark_of (Some at) = number_of at

-- the kind of gates of a number
abbrev pub gates_of : ℕ → Gates
gates_of n = if nat_eq n 0 then Chain else Tree

-- the number of a kind of gates
abbrev pub number_of_gates : Gates → ℕ
number_of_gates Chain = 0
number_of_gates Tree = 1

-- the policy of a number, which is 0 or 2
abbrev pub policy_of : ℕ → Policy
policy_of n = if nat_eq n 0 then Price else Full

-- the number of a policy, if a transcript tells it
abbrev pub policy_field : Policy → List ℕ
policy_field Price = 0 ∷ []
policy_field Volume = []
policy_field Full = 2 ∷ []

-- whether a file tells the policy, by the text that it begins with, and the offset after that text
abbrev pub form_in : List ℕ → Reading (Bool × ℕ)
form_in bytes =
    if starts_with nat_eq bytes (magic false) then Ok (false, 8)
    else if starts_with nat_eq bytes (magic true) then Ok (true, 8)
    else Err (at_offset 0 BAD_MAGIC)

unfoldable pub server_at : List ℕ → Part Point
server_at bytes at = do
  number ← number_at bytes (from_to 1 3) at
  Ok (server_of number.0, number.1)

-- the policy, which is told by 0 or 2, or Volume if none is told
unfoldable pub policy_at : List ℕ → Bool → Part Policy
policy_at bytes false at = Ok (Volume, at)
policy_at bytes true at = do
  number ← number_at bytes (from_to 0 2) at
  if nat_eq number.0 1 then Err (at_offset at BAD_NUMBER) else Ok (policy_of number.0, number.1)

-- a grid within its limits
unfoldable pub grid_at : List ℕ → Bool → Part Grid
grid_at bytes tells at = do
  base ← number_at bytes (from_to 0 LARGEST_BASE) at
  tick ← number_at bytes (from_to 1 LARGEST_TICK) base.1
  prices ← number_at bytes (from_to 1 MOST_PRICES) tick.1
  gates ← number_at bytes (from_to 0 1) prices.1
  policy ← policy_at bytes tells gates.1
  Ok (record { base = base.0; tick = tick.0; prices = prices.0; gates = gates_of gates.0; policy = policy.0 }, policy.1)

-- a number of the field
abbrev pub point_at : List ℕ → Part ℕ
point_at bytes = number_at bytes (from_to 0 (p - 1))

-- what a quantity may be after the one before it
abbrev pub allowed_after : Course → ℕ → Allowed
allowed_after Falling before = from_to 0 before
allowed_after Rising before = from_to before LARGEST_QUANTITY

-- what stands before the first quantity
abbrev pub start_of : Course → ℕ
start_of Falling = LARGEST_QUANTITY
start_of Rising = 0

-- so many quantities, each allowed after the one before it
unfoldable pub quantities_at : List ℕ → Course → ℕ → ℕ → Part (List ℕ)
quantities_at bytes course zero before at = Ok ([], at)
quantities_at bytes course (suc count) before at = do
  first ← number_at bytes (allowed_after course before) at
  others ← quantities_at bytes course count first.0 first.1
  Ok (first.0 ∷ others.0, others.1)

-- the curve and the words of a known bidder
unfoldable pub own_at : List ℕ → ℕ → Part (Curve × List ℕ)
own_at bytes prices at = do
  buy ← quantities_at bytes Falling prices (start_of Falling) at
  sell ← quantities_at bytes Rising prices (start_of Rising) buy.1
  words ← words_at bytes (words_kept prices) sell.1
  Ok ((record { buy = buy.0; sell = sell.0 }, words.0), words.1)

-- the curve and the words, if the mark is the server's number
unfoldable pub own_where_known : List ℕ → Point → ℕ → ℕ → Part (Option (Curve × List ℕ))
own_where_known bytes server prices mark at =
    if nat_eq mark (number_of server) then (own_at bytes prices at >>= λ own. Ok (Some own.0, own.1)) else Ok (None, at)

-- a bidder: the mark, two points for each price, and the curve and the words if this server knows them
unfoldable pub seen_at : List ℕ → Point → ℕ → Part Seen
seen_at bytes server prices at = do
  mark ← number_at bytes (from_to 0 3) at
  points ← times (2 * prices) (point_at bytes) mark.1
  own ← own_where_known bytes server prices mark.0 points.1
  Ok (record { known = known_of mark.0; points = points.0; own = own.0 }, own.1)

-- a message: one number of the field or more, after their count
abbrev pub message_at : List ℕ → Part (List ℕ)
message_at bytes = counted_at bytes (from_to 1 MOST_NUMBERS) (point_at bytes)

-- the messages of a round, first the lower peer's
unfoldable pub round_at : List ℕ → Part (List ℕ × List ℕ)
round_at bytes at = do
  lower ← message_at bytes at
  higher ← message_at bytes lower.1
  Ok ((lower.0, higher.0), higher.1)

-- what a transcript reads as
unfoldable pub view_in : List ℕ → Reading Viewed
view_in bytes = do
  form ← form_in bytes
  server ← server_at bytes form.1
  grid ← grid_at bytes form.0 server.1
  bidders ← counted_at bytes (from_to 0 (most_bidders grid.0.prices)) (seen_at bytes server.0 grid.0.prices) grid.1
  masks ← words_at bytes (masks_kept grid.0) bidders.1
  coefficients ← words_at bytes (coefficients_kept grid.0) masks.1
  rounds ← counted_at bytes (from_to 0 MOST_ROUNDS) (round_at bytes) coefficients.1
  done ← ended bytes TRAILING rounds.1
  Ok (record {
    server = server.0;
    grid = grid.0;
    bidders = bidders.0;
    masks = masks.0;
    coefficients = coefficients.0;
    rounds = rounds.0;
  })

-- the bytes of numbers, one after another
abbrev pub numbers_bytes : List ℕ → List ℕ
numbers_bytes numbers = flat_map number_bytes numbers

-- the bytes of a list, after its count
abbrev pub counted_bytes : {A : Type 0} → (A → List ℕ) → List A → List ℕ
counted_bytes item_bytes items = number_bytes (length items) ++ flat_map item_bytes items

abbrev pub grid_bytes : Grid → List ℕ
grid_bytes grid =
    numbers_bytes (grid.base ∷ grid.tick ∷ grid.prices ∷ number_of_gates grid.gates ∷ policy_field grid.policy)

-- what a transcript begins with: its text, the server, the grid, and the number of the bidders
abbrev pub header_bytes : Point → Grid → ℕ → List ℕ
header_bytes server grid bidders =
    magic (tells_policy grid.policy) ++ (number_bytes (number_of server) ++ (grid_bytes grid ++ number_bytes bidders))

-- the bytes of the mark and of the points of a bidder
abbrev pub sealed_bytes : Option Point → List ℕ → List ℕ
sealed_bytes known points = number_bytes (mark_of known) ++ numbers_bytes points

-- the bytes of the curve and the words of a known bidder
abbrev pub own_bytes : Option (Curve × List ℕ) → List ℕ
own_bytes None = []
own_bytes (Some own) = numbers_bytes own.0.buy ++ (numbers_bytes own.0.sell ++ counted_bytes number_bytes own.1)

-- the bytes of a bidder
abbrev pub seen_bytes : Seen → List ℕ
seen_bytes seen = number_bytes (mark_of seen.known) ++ (numbers_bytes seen.points ++ own_bytes seen.own)

-- the bytes of the messages of a round
abbrev pub round_bytes : List ℕ × List ℕ → List ℕ
round_bytes round = counted_bytes number_bytes round.0 ++ counted_bytes number_bytes round.1

-- the bytes of what a server sees of a run: its words of both kinds, and the rounds
abbrev pub run_bytes : SeenRun → List ℕ
run_bytes run =
    counted_bytes number_bytes run.masks
    ++ (counted_bytes number_bytes run.coefficients ++ counted_bytes round_bytes run.rounds)

abbrev pub view_bytes : Viewed → List ℕ
view_bytes view =
    magic (tells_policy view.grid.policy) ++ (number_bytes (number_of view.server)
    ++ (grid_bytes view.grid
    ++ (counted_bytes seen_bytes view.bidders
    ++ run_bytes (run_in view))))

-- one number or more, as many as a message may have
abbrev pub IsMessage : List ℕ → Type 0
IsMessage numbers = (1 ≤ length numbers) × (length numbers ≤ MOST_NUMBERS)

-- the view may stand in a transcript
pub record FitsFile (view : Viewed) : Type 0 where
  pub product : length view.bidders * view.grid.prices ≤ MOST_PRODUCT
  pub words : All (λ seen. IfSome seen.own (λ own. length own.1 ≤ words_kept view.grid.prices)) view.bidders
  pub masks : length view.masks ≤ masks_kept view.grid
  pub coefficients : length view.coefficients ≤ coefficients_kept view.grid
  pub rounds : length view.rounds ≤ MOST_ROUNDS
  pub messages : All (λ round. IsMessage round.0 × IsMessage round.1) view.rounds

-- the numbers of a bidder are points, quantities and words
pub record HasNumbers (seen : Seen) : Type 0 where
  pub points : All IsElement seen.points
  pub own : IfSome seen.own (λ own. IsCurve own.0 × All IsWord own.1)

-- the numbers of a round are numbers of the field
pub record HasElements (round : List ℕ × List ℕ) : Type 0 where
  pub lower : All IsElement round.0
  pub higher : All IsElement round.1

-- all numbers are within the limits of their types
pub record AreNumbers (view : Viewed) : Type 0 where
  pub grid : IsGrid view.grid
  pub bidders : All HasNumbers view.bidders
  pub masks : All IsWord view.masks
  pub coefficients : All IsWord view.coefficients
  pub rounds : All HasElements view.rounds
