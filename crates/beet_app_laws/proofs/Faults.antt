-- What two books differ in, and what an audit finds, is no want of memory.
use Rattle.std.proofs.Common.{◌≡◌, inl, inr, ℕ, Bool, Option, Some, IfSome, refl}
use Rattle.std.specs.Prelude.{◌+◌, List, length, slice_index}
use Rattle.beet_field.specs.Trio.{member}
use Rattle.beet_field.specs.declared.point.Point.{Point}
use Rattle.beet_field.specs.declared.point.Point.TheVariants.{One, Two, Three}
use Rattle.beet_field.specs.declared.trio.Trio.{Trio}
use Rattle.beet_bids.specs.Books.{Book}
use Rattle.beet_bids.specs.Grids.{Grid}
use Rattle.beet_bids.specs.Outcomes.{outcome_of}
use Rattle.beet_round.specs.Sides.{peer}
use Rattle.beet_round.specs.declared.sides.Side.TheVariants.{Low, High}
use Rattle.beet_sharing.specs.Runs.{Setup, message}
use Rattle.beet_view.specs.Views.{Viewed}
use Rattle.beet_two_books.specs.declared.agreeing.MapFault.{MapFault}
use Rattle.beet_two_books.specs.declared.agreeing.MapFault.TheVariants.{ShapeDiffers, OwnBidsDiffer, OutcomesDiffer}
use Rattle.beet_differences.proofs.Told.{ends-have, first-has}
use Rattle.beet_book_differences.specs.Differences.{difference_for, refused_text, same_outcome}
use Rattle.beet_book_differences.specs.Refusals.{IsLineOf}
use Rattle.beet_audit.specs.Audits.{Finds, Header, Known, Lines, Message, MessageFrom, Monotone, OneBidder}
use Rattle.beet_audit.specs.Audits.{RoundMessages, Rounds, Tapes, held_from, points_of_bidder, rounds_of, run_of}
use Rattle.beet_audit.specs.Verdicts.{EachBelow, EachServer, InTurn}
use Rattle.beet_audit.specs.declared.fault.AuditFault.{AuditFault}
use Rattle.beet_audit.specs.declared.fault.AuditFault.TheVariants.{HeaderDiffers, NotALine, NotMonotone, KnownDiffers}
use Rattle.beet_audit.specs.declared.fault.AuditFault.TheVariants.{TooFewWords, RoundsDiffer, MessageDiffers}
use Rattle.beet_audit.specs.declared.fault.AuditFault.TheVariants.{LengthDiffers, OutOfMemory}
use Rattle.beet_audit.specs.declared.fault.Side.{Side}
use Rattle.beet_audit.specs.declared.fault.Side.TheVariants.{Buy, Sell}

-- a difference of two books has a line
abbrev pub HasLine : MapFault → Type 0
HasLine fault = IsLineOf fault (refused_text fault)

pub difference-line : (knows : Option Point → Bool) (first second : Book) → IfSome (difference_for knows first second) HasLine
difference-line knows first second =
    first-has ShapeDiffers OwnBidsDiffer HasLine _ _ _ (λ n. refl) (λ n. refl)
    (ends-have HasLine same_outcome OutcomesDiffer (outcome_of first) (outcome_of second) refl)

-- want of memory is not found
abbrev Never : (Option AuditFault → Type 0) → Type 0
Never finds = finds (Some OutOfMemory) → ⊥

below-never : (n : ℕ) (at : ℕ → Option AuditFault → Type 0) → ((k : ℕ) → Never (at k)) → Never (EachBelow n at)
below-never n at never (k, lt, before, h) = never k h

servers-never : (at : Point → Option AuditFault → Type 0) → ((s : Point) → Never (at s)) → Never (EachServer at)
servers-never at never (inl h) = never One h
servers-never at never (inr (before, inl h)) = never Two h
servers-never at never (inr (before, inr (next, h))) = never Three h

header-never : (grid : Grid) (views : Trio Viewed) (s : Point) → Never (Header grid views s)
header-never grid views s h = let e : OutOfMemory ≡ HeaderDiffers s = h.1 in absurd cc

line-never : (prices i : ℕ) (points : Trio (List ℕ)) (side : Side) → Never (Lines prices i points side)
line-never prices i points side (k, lt, before, h) = let e : OutOfMemory ≡ NotALine (i + 1) k side = h.1 in absurd cc

step-never : (prices i : ℕ) (points : Trio (List ℕ)) → Never (Monotone prices i points)
step-never prices i points (k, lt, before, h) = let e : OutOfMemory ≡ NotMonotone (i + 1) k = h.1 in absurd cc

known-never : (prices : ℕ) (views : Trio Viewed) (i : ℕ) → Never (Known prices views i)
known-never prices views i h = let e : OutOfMemory ≡ KnownDiffers (i + 1) = h.1 in absurd cc

bidder-never : (prices : ℕ) (views : Trio Viewed) (i : ℕ) → Never (OneBidder prices views i)
bidder-never prices views i (inl h) = line-never prices i (points_of_bidder views i) Buy h
bidder-never prices views i (inr (buy, inl h)) = line-never prices i (points_of_bidder views i) Sell h
bidder-never prices views i (inr (buy, inr (sell, inl h))) = step-never prices i (points_of_bidder views i) h
bidder-never prices views i (inr (buy, inr (sell, inr (steps, h)))) = known-never prices views i h

tapes-never : (grid : Grid) (views : Trio Viewed) (s : Point) → Never (Tapes grid views s)
tapes-never grid views s h = let e : OutOfMemory ≡ TooFewWords s = h.1 in absurd cc

rounds-never : (views : Trio Viewed) (rounds : ℕ) (s : Point) → Never (Rounds views rounds s)
rounds-never views rounds s h = let e : OutOfMemory ≡ RoundsDiffer s (length (member views s).rounds) rounds = h.1 in
    absurd cc

message-never : (sender receiver : Point) (t : ℕ) (held sent : List ℕ) → Never (Message sender receiver t held sent)
message-never sender receiver t held sent (inl h) =
    let e : OutOfMemory ≡ LengthDiffers sender receiver t (length held) (length sent) = h.1 in absurd cc
message-never sender receiver t held sent (inr (long, (k, lt, before, h))) =
    let e : OutOfMemory ≡ MessageDiffers sender receiver t k (slice_index held k) (slice_index sent k) = h.1 in
    absurd cc

from-never : (o : Setup) (views : Trio Viewed) (t : ℕ) (receiver sender : Point) →
    Never (MessageFrom o views t receiver sender)
from-never o views t receiver sender =
    message-never sender receiver t (held_from (member views receiver) t sender) (message o sender receiver t)

both-never : (o : Setup) (views : Trio Viewed) (t : ℕ) (receiver : Point) →
    Never
    (InTurn (MessageFrom o views t receiver (peer receiver Low)) (MessageFrom o views t receiver (peer receiver High)))
both-never o views t receiver (inl h) = from-never o views t receiver (peer receiver Low) h
both-never o views t receiver (inr (low, h)) = from-never o views t receiver (peer receiver High) h

round-never : (o : Setup) (views : Trio Viewed) (t : ℕ) → Never (RoundMessages o views t)
round-never o views t =
    servers-never (λ receiver. InTurn (MessageFrom o views t receiver (peer receiver Low))
    (MessageFrom o views t receiver (peer receiver High)))
    (both-never o views t)

pub finds-never : (grid : Grid) (views : Trio Viewed) → Never (Finds grid views)
finds-never grid views (inl h) = servers-never (Header grid views) (header-never grid views) h
finds-never grid views (inr (headers, inl h)) =
    below-never (length views.one.bidders) (OneBidder grid.prices views) (bidder-never grid.prices views) h
finds-never grid views (inr (headers, inr (bidders, inl h))) =
    servers-never (Tapes grid views) (tapes-never grid views) h
finds-never grid views (inr (headers, inr (bidders, inr (tapes, inl h)))) =
    servers-never (Rounds views (rounds_of grid views)) (rounds-never views (rounds_of grid views)) h
finds-never grid views (inr (headers, inr (bidders, inr (tapes, inr (rounds, h))))) =
    below-never (rounds_of grid views) (RoundMessages (run_of grid views) views)
    (round-never (run_of grid views) views) h
