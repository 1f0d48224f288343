-- The messages that are kept by their numbers: those of one round more, and the numbers of one.
use Rattle.std.proofs.Common.{◌≡◌, ◌≤◌, ◌+◌, ℕ, zero, suc, List, [], ◌∷◌, ◌++◌, length, slice_get, Some, refl, sym, ap, arith, subst}
use Rattle.beet_field.specs.declared.point.Point.{Point}
use Rattle.beet_field.specs.declared.TheConstants.{MOST_NUMBERS}
use Rattle.beet_round.specs.declared.message.RoundMessage.{RoundMessage}
use Rattle.beet_round.specs.declared.sides.Side.{Side}
use Rattle.beet_round.specs.declared.sides.Side.TheVariants.{Low, High}
use Rattle.beet_round.specs.Sides.{side_of}
use Rattle.beet_server.specs.Cores.{Core}
use Rattle.beet_server.specs.Steps.{received_from}
use Rattle.beet_server.specs.Kept.{messages_of, message_with, numbers_kept, AreShort}

pub messages-more : (me : Point) (t : ℕ) (lows highs : List (List ℕ)) (l h : List ℕ) → length highs ≡ length lows →
    messages_of me t (lows ++ l ∷ []) (highs ++ h ∷ []) ≡
    messages_of me t lows highs ++ (message_with me (t + length lows) Low l ∷ message_with me (t + length lows) High h ∷ []) ∷ []
messages-more me t [] [] l h e = let z : t + 0 ≡ t = omega arith in rw z refl
messages-more me t [] (y ∷ ys) l h e = absurd (omega (arith, e))
messages-more me t (x ∷ xs) [] l h e = absurd (omega (arith, e))
messages-more me t (x ∷ xs) (y ∷ ys) l h e =
    let n : t + suc (length xs) ≡ t + 1 + length xs = omega arith in
    rw n (ap (λ (ms : List (List RoundMessage)). (message_with me t Low x ∷ message_with me t High y ∷ []) ∷ ms)
    (messages-more me (t + 1) xs ys l h (omega (arith, e))))

pub length-messages : (me : Point) (t : ℕ) (lows highs : List (List ℕ)) → length highs ≡ length lows →
    length (messages_of me t lows highs) ≡ length lows
length-messages me t [] highs e = refl
length-messages me t (x ∷ xs) [] e = absurd (omega (arith, e))
length-messages me t (x ∷ xs) (y ∷ ys) e = ap suc (length-messages me (t + 1) xs ys (omega (arith, e)))

pub numbers-low : (me : Point) (t : ℕ) (lows highs : List (List ℕ)) (k : ℕ) → length highs ≡ length lows →
    numbers_kept (messages_of me t lows highs) k Low ≡ slice_get lows k
numbers-low me t [] highs k e = refl
numbers-low me t (x ∷ xs) [] k e = absurd (omega (arith, e))
numbers-low me t (x ∷ xs) (y ∷ ys) zero e = refl
numbers-low me t (x ∷ xs) (y ∷ ys) (suc k) e = numbers-low me (t + 1) xs ys k (omega (arith, e))

pub numbers-high : (me : Point) (t : ℕ) (lows highs : List (List ℕ)) (k : ℕ) → length highs ≡ length lows →
    numbers_kept (messages_of me t lows highs) k High ≡ slice_get highs k
numbers-high me t [] [] k e = refl
numbers-high me t [] (y ∷ ys) k e = absurd (omega (arith, e))
numbers-high me t (x ∷ xs) [] k e = absurd (omega (arith, e))
numbers-high me t (x ∷ xs) (y ∷ ys) zero e = refl
numbers-high me t (x ∷ xs) (y ∷ ys) (suc k) e = numbers-high me (t + 1) xs ys k (omega (arith, e))

pub short-more : (rs : List (List ℕ)) (r : List ℕ) → AreShort rs → length r ≤ MOST_NUMBERS → AreShort (rs ++ r ∷ [])
short-more [] r h few = (few, tt)
short-more (x ∷ rs) r h few = (h.0, short-more rs r h.1 few)

pub short-at : (rs : List (List ℕ)) (k : ℕ) (r : List ℕ) → AreShort rs → Some r ≡ slice_get rs k → length r ≤ MOST_NUMBERS
short-at [] k r h e = absurd (cc e)
short-at (x ∷ rs) zero r h e = let is : r ≡ x = cc e in subst (λ (l : List ℕ). length l ≤ MOST_NUMBERS) (sym is) h.0
short-at (x ∷ rs) (suc k) r h e = short-at rs k r h.1 e

-- the numbers from a side are those from its server
pub from-kept : {S : Type 0} (c : Core S) (round : ℕ) (sender : Point) (side : Side) → side_of c.me sender ≡ Some side →
    numbers_kept c.received round side ≡ received_from c round sender
from-kept c round sender Low e = rw e refl
from-kept c round sender High e = rw e refl
