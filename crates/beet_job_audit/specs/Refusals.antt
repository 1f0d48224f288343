-- The lines that refuse three transcripts.
use Rattle.std.specs.Prelude.{ℕ, List, [], ◌++◌, codes, decimal}
use Rattle.beet_field.specs.Point.{number_of}
use Rattle.beet_field.specs.declared.point.Point.{Point}
use Rattle.beet_errand.specs.Texts.{line_of}
use Rattle.beet_audit.specs.declared.fault.AuditFault.{AuditFault}
use Rattle.beet_audit.specs.declared.fault.AuditFault.TheVariants.{HeaderDiffers, NotALine, NotMonotone, KnownDiffers}
use Rattle.beet_audit.specs.declared.fault.AuditFault.TheVariants.{TooFewWords, RoundsDiffer, LengthDiffers}
use Rattle.beet_audit.specs.declared.fault.AuditFault.TheVariants.{MessageDiffers, OutOfMemory}
use Rattle.beet_audit.specs.declared.fault.Side.{Side}
use Rattle.beet_audit.specs.declared.fault.Side.TheVariants.{Buy, Sell}

-- each kind of refusal has its number
abbrev pub refused_text : ℕ → List ℕ
refused_text number = codes "audit refused " ++ decimal number

abbrev pub of_server : Point → List ℕ
of_server s = codes " server " ++ decimal (number_of s)

-- a bidder, which is counted from 1
abbrev pub of_bidder : ℕ → List ℕ
of_bidder bidder = codes " bidder " ++ decimal bidder

abbrev pub at_place : ℕ → List ℕ
at_place place = codes " place " ++ decimal place

abbrev pub on_side : Side → List ℕ
on_side Buy = codes " side buy"
on_side Sell = codes " side sell"

-- a message of a round, by its sender and its receiver
abbrev pub of_message : Point → Point → ℕ → List ℕ
of_message sender receiver round =
    codes " from " ++ decimal (number_of sender) ++ codes " to " ++ decimal (number_of receiver)
    ++ codes " round " ++ decimal round

-- what is held, and what was expected
abbrev pub held_for : ℕ → ℕ → List ℕ
held_for held expected = codes " held " ++ decimal held ++ codes " expected " ++ decimal expected

-- the line of a fault; if memory ran out nothing is said
abbrev pub fault_text : AuditFault → List ℕ
fault_text (HeaderDiffers s) = line_of (refused_text 1 ++ of_server s)
fault_text (NotALine bidder place side) = line_of (refused_text 2 ++ of_bidder bidder ++ at_place place ++ on_side side)
fault_text (NotMonotone bidder place) = line_of (refused_text 3 ++ of_bidder bidder ++ at_place place)
fault_text (KnownDiffers bidder) = line_of (refused_text 4 ++ of_bidder bidder)
fault_text (TooFewWords s) = line_of (refused_text 5 ++ of_server s)
fault_text (RoundsDiffer s held expected) = line_of (refused_text 6 ++ of_server s ++ held_for held expected)
fault_text (MessageDiffers sender receiver round place held expected) =
    line_of (refused_text 7 ++ of_message sender receiver round ++ at_place place ++ held_for held expected)
fault_text (LengthDiffers sender receiver round held expected) =
    line_of (refused_text 8 ++ of_message sender receiver round ++ held_for held expected)
fault_text OutOfMemory = []
