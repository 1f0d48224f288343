-- What is wanted of three views, in the order in which it is looked for: that they are of servers 1, 2 and 3 of one
-- auction, that the bidders' points are lines of curves, that the tapes have the words of a run, and that the rounds
-- and messages are those of the run.
use Rattle.std.specs.Prelude.{◌≡◌, ◌+◌, ◌*◌, ◌^◌, ◌≤◌, ◌<◌, ℕ, List, [], length, map, slice_index, slice_index_or}
use Rattle.std.specs.Prelude.{Option, Some, None, unwrap_or, IfSome}
use Rattle.beet_field.specs.Trio.{member, of_each}
use Rattle.beet_field.specs.declared.point.Point.{Point}
use Rattle.beet_field.specs.declared.trio.Trio.{Trio}
use Rattle.beet_shamir.specs.Line.{recombined, AreElements, IsLine}
use Rattle.beet_words.specs.Words.{accepted}
use Rattle.beet_gates.specs.Each.{each}
use Rattle.beet_bids.specs.Curves.{Curve}
use Rattle.beet_bids.specs.Grids.{Grid}
use Rattle.beet_bids.specs.Books.{Book}
use Rattle.beet_bids.specs.declared.book.Bidder.{Bidder}
use Rattle.beet_bids.specs.declared.curve.TheConstants.{LARGEST_QUANTITY}
use Rattle.beet_gates.specs.Plans.{plan_finish}
use Rattle.beet_plan.specs.Auction.{Auction, auction_batch, auction_over, auction_plan, most_rounds}
use Rattle.beet_plan.specs.declared.Finish.{Finish}
use Rattle.beet_server.specs.Cores.{Core}
use Rattle.beet_server.specs.Lockstep.{IsAtRound}
use Rattle.beet_book.specs.Dealing.{HasLengths, dealt_points}
use Rattle.beet_book.specs.PointSums.{inputs_at}
use Rattle.beet_book.specs.Totals.{points_on}
use Rattle.beet_round.specs.Sides.{peer}
use Rattle.beet_round.specs.declared.sides.Side.TheVariants.{Low, High}
use Rattle.beet_sharing.specs.Runs.{Setup, message, rounds_among}
use Rattle.beet_load.specs.Counts.{counts_of}
use Rattle.beet_load.specs.Servers.{ServerWords, HasEnough}
use Rattle.beet_run.specs.Runs.{EndsAuction, HasEndedRun, setup_with}
use Rattle.beet_view.specs.declared.view.Seen.{Seen}
use Rattle.beet_view.specs.Views.{Viewed, numbers_of}
use Rattle.beet_audit.specs.Verdicts.{EachBelow, EachServer, InTurn, Wants}
use Rattle.beet_audit.specs.declared.fault.AuditFault.{AuditFault}
use Rattle.beet_audit.specs.declared.fault.AuditFault.TheVariants.{HeaderDiffers, NotALine, NotMonotone, KnownDiffers}
use Rattle.beet_audit.specs.declared.fault.AuditFault.TheVariants.{TooFewWords, RoundsDiffer, LengthDiffers}
use Rattle.beet_audit.specs.declared.fault.AuditFault.TheVariants.{MessageDiffers}
use Rattle.beet_audit.specs.declared.fault.Side.{Side}
use Rattle.beet_audit.specs.declared.fault.Side.TheVariants.{Buy, Sell}

-- the marks of the bidders of a view
abbrev pub marks_in : Viewed → List (Option Point)
marks_in view = map (λ seen. seen.known) view.bidders

-- a view in the place of a server: it is of this server, over this grid, and has the bidders of the first view, with
-- their marks
pub record HeaderFits (grid : Grid) (first : Viewed) (s : Point) (view : Viewed) : Type 0 where
  pub server : view.server ≡ s
  pub over : view.grid ≡ grid
  pub marks : marks_in view ≡ marks_in first

abbrev pub Header : Grid → Trio Viewed → Point → Option AuditFault → Type 0
Header grid views s = Wants (HeaderFits grid views.one s (member views s)) (HeaderDiffers s)

-- the bidder at a place of a view, if there is one, and else one without points
abbrev pub bidder_at : Viewed → ℕ → Seen
bidder_at view i = slice_index_or view.bidders i (record { known = None; points = []; own = None })

-- its points at the three servers
abbrev pub points_of_bidder : Trio Viewed → ℕ → Trio (List ℕ)
points_of_bidder views i = of_each (λ view. (bidder_at view i).points) views

-- the bidder at this place has two points for each price at each server
abbrev pub HasPoints : ℕ → Trio Viewed → ℕ → Type 0
HasPoints prices views i = HasLengths (points_of_bidder views i) (2 * prices)

-- each view is over this number of prices, and has the bidder at this place with its points
pub record IsBidderOf (prices : ℕ) (views : Trio Viewed) (i : ℕ) : Type 0 where
  pub lengths : HasPoints prices views i
  pub there : (s : Point) → i < length (member views s).bidders
  pub over : (s : Point) → (member views s).grid.prices ≡ prices

-- each server has an n-th point
pub record HavePlace (points : Trio (List ℕ)) (n : ℕ) : Type 0 where
  pub one : n < length points.one
  pub two : n < length points.two
  pub three : n < length points.three

-- what the n-th points at the three servers recombine to
abbrev pub value_at : Trio (List ℕ) → ℕ → ℕ
value_at points n = recombined (points_on points n)

-- the quantities that the points recombine to: buy at each place, and then sell
abbrev pub curve_of : ℕ → Trio (List ℕ) → Curve
curve_of prices points =
    record { buy = each (value_at points) prices; sell = each (λ k. value_at points (prices + k)) prices }

-- where the points of a side begin
abbrev pub first_of : ℕ → Side → ℕ
first_of prices Buy = 0
first_of prices Sell = prices

-- the three points at each place of a side lie on a line; bidders count from 1
abbrev pub Lines : ℕ → ℕ → Trio (List ℕ) → Side → Option AuditFault → Type 0
Lines prices i points side =
    EachBelow prices (λ k. Wants (IsLine (points_on points (first_of prices side + k))) (NotALine (i + 1) k side))

-- what is bought and sold at a place, if these are the quantities: both are within the limit, buy does not rise from
-- the place before, and sell does not fall
pub record IsStep (prices : ℕ) (values : ℕ → ℕ) (k : ℕ) : Type 0 where
  pub buy_limit : values k ≤ LARGEST_QUANTITY
  pub sell_limit : values (prices + k) ≤ LARGEST_QUANTITY
  pub buy_never_rises : (j : ℕ) → k ≡ j + 1 → values k ≤ values j
  pub sell_never_falls : (j : ℕ) → k ≡ j + 1 → values (prices + j) ≤ values (prices + k)

abbrev pub Monotone : ℕ → ℕ → Trio (List ℕ) → Option AuditFault → Type 0
Monotone prices i points = EachBelow prices (λ k. Wants (IsStep prices (value_at points) k) (NotMonotone (i + 1) k))

-- a curve and words that a server keeps of a bidder: the curve is what the points recombine to, and they are what it
-- deals with the words, of which there are enough
pub record IsKnown (prices : ℕ) (points : Trio (List ℕ)) (own : Curve × List ℕ) : Type 0 where
  pub curve : own.0 ≡ curve_of prices points
  pub words : 2 * prices ≤ length (accepted own.1)
  pub deals : points ≡ dealt_points own.0 (accepted own.1)

abbrev pub Known : ℕ → Trio Viewed → ℕ → Option AuditFault → Type 0
Known prices views i =
    Wants ((s : Point) → IfSome (bidder_at (member views s) i).own (IsKnown prices (points_of_bidder views i)))
    (KnownDiffers (i + 1))

-- one bidder after another: its lines, its curve, and what a server knows of it
abbrev pub OneBidder : ℕ → Trio Viewed → ℕ → Option AuditFault → Type 0
OneBidder prices views i =
    let points = points_of_bidder views i in
    InTurn (Lines prices i points Buy)
    (InTurn (Lines prices i points Sell) (InTurn (Monotone prices i points) (Known prices views i)))

-- the points of all bidders are numbers of the field
abbrev pub HaveElements : Grid → Trio Viewed → Type 0
HaveElements grid views =
    (i : ℕ) → i < length views.one.bidders → (n : ℕ) → n < 2 * grid.prices →
    AreElements (points_on (points_of_bidder views i) n)

abbrev pub words_in : Viewed → ServerWords
words_in view = record { masks = view.masks; coefficients = view.coefficients }

abbrev pub Tapes : Grid → Trio Viewed → Point → Option AuditFault → Type 0
Tapes grid views s = Wants (HasEnough (counts_of grid) (words_in (member views s))) (TooFewWords s)

-- the points of so many bidders from one on
abbrev pub points_from : Trio Viewed → ℕ → ℕ → List (Trio (List ℕ))
points_from views from count = each (λ k. points_of_bidder views (from + k)) count

-- the points of all bidders
abbrev pub all_points : Trio Viewed → List (Trio (List ℕ))
all_points views = each (points_of_bidder views) (length views.one.bidders)

-- the run of three servers on these points, added up, and the words of the tapes; the messages of the views are no part
-- of it
abbrev pub run_of : Grid → Trio Viewed → Setup
run_of grid views = setup_with grid (inputs_at grid.prices (all_points views)) (of_each words_in views)

abbrev pub rounds_of : Grid → Trio Viewed → ℕ
rounds_of grid views = rounds_among (run_of grid views) (most_rounds (auction_over grid))

-- three cores have run to its end
pub record RunsAgain (grid : Grid) (views : Trio Viewed) (cores : Trio (Core Auction)) : Type 0 where
  pub stands : (s : Point) → IsAtRound auction_batch (run_of grid views) (rounds_of grid views) s (member cores s)
  pub ended : HasEndedRun cores.one
  pub ends : (finish : Finish) → plan_finish (auction_plan cores.one.script) cores.one.opened ≡ Some finish →
      EndsAuction grid (inputs_at grid.prices (all_points views)) (of_each words_in views) finish (rounds_of grid views)

abbrev pub Rounds : Trio Viewed → ℕ → Point → Option AuditFault → Type 0
Rounds views rounds s = let held = length (member views s).rounds in Wants (held ≡ rounds) (RoundsDiffer s held rounds)

-- the numbers of a sender that a view holds for a round
abbrev pub held_from : Viewed → ℕ → Point → List ℕ
held_from view t sender = unwrap_or (numbers_of view t sender) []

-- a view holds a message of so many numbers as no memory holds
abbrev pub HoldsTooMany : Trio Viewed → Type 0
HoldsTooMany views = (s : Point) × (t : ℕ) × (sender : Point) × (2 ^ 32 ≤ length (held_from (member views s) t sender))

-- a message that is held is the one that is sent: it has as many numbers, and then each is the same
abbrev pub Message : Point → Point → ℕ → List ℕ → List ℕ → Option AuditFault → Type 0
Message sender receiver t held sent =
    InTurn (Wants (length held ≡ length sent) (LengthDiffers sender receiver t (length held) (length sent)))
    (EachBelow (length sent) (λ k.
    Wants (slice_index held k ≡ slice_index sent k)
    (MessageDiffers sender receiver t k (slice_index held k) (slice_index sent k))))

-- that of a sender in a view
abbrev pub MessageFrom : Setup → Trio Viewed → ℕ → Point → Point → Option AuditFault → Type 0
MessageFrom o views t receiver sender =
    Message sender receiver t (held_from (member views receiver) t sender) (message o sender receiver t)

-- both messages to each server in a round, the lower sender's first
abbrev pub RoundMessages : Setup → Trio Viewed → ℕ → Option AuditFault → Type 0
RoundMessages o views t =
    EachServer (λ receiver. InTurn (MessageFrom o views t receiver (peer receiver Low))
    (MessageFrom o views t receiver (peer receiver High)))

-- the first thing that is wrong with three views over a grid, or that nothing is
abbrev pub Finds : Grid → Trio Viewed → Option AuditFault → Type 0
Finds grid views =
    let o = run_of grid views in
    let rounds = rounds_of grid views in
    InTurn (EachServer (Header grid views))
    (InTurn (EachBelow (length views.one.bidders) (OneBidder grid.prices views))
    (InTurn (EachServer (Tapes grid views))
    (InTurn (EachServer (Rounds views rounds)) (EachBelow rounds (RoundMessages o views)))))

-- the book of the curves that the points recombine to, with the marks of the first view
abbrev pub recombined_bidder : Grid → Trio Viewed → ℕ → Bidder
recombined_bidder grid views i = record {
  known = (bidder_at views.one i).known;
  curve = curve_of grid.prices (points_of_bidder views i);
}

abbrev pub recombined_book : Grid → Trio Viewed → Book
recombined_book grid views =
    record { grid = grid; bidders = each (recombined_bidder grid views) (length views.one.bidders) }
