-- What was read of a transcript is what stands in it.
use Rattle.std.proofs.Common.{◌≡◌, ◌⊎◌, ℕ, zero, suc, ◌+◌, ◌*◌, ◌<◌, ◌≤◌, Bool, true, false, ◌||◌, if◌then◌else◌, eqb}
use Rattle.std.proofs.Common.{ltb, List, [], ◌∷◌, ◌++◌, length, get_or, take, drop, Option, None, Some, Ok, Err, refl}
use Rattle.std.proofs.Common.{sym, ap, subst, ◌∙◌, append_assoc, arith, inl, inr}
use Rattle.std.specs.List.{flat_map, starts_with}
use Rattle.std.proofs.lemmas.Bool.{true≢false, cases_lt, ltb-false}
use Rattle.std.proofs.lemmas.Bool.Decides.{Decides-eqb}
use Rattle.std.proofs.lemmas.List.{append-nil, take-append-drop, length-take, length-drop, get_or-drop, get_or-take}
use Rattle.std.proofs.lemmas.List.{get_or_past, drop-drop, drop_all}
use Rattle.std.proofs.lemmas.Nat.{be_bytes_8}
use Rattle.std.proofs.lemmas.Slice.Eq.{starts_is}
use Rattle.beet_field.specs.Point.{number_of}
use Rattle.beet_field.specs.declared.point.Point.{Point}
use Rattle.beet_field.specs.declared.TheConstants.{MOST_NUMBERS}
use Rattle.beet_forms.specs.Faults.{Fault, Reading}
use Rattle.beet_words.specs.declared.fields.Allowed.{Allowed}
use Rattle.beet_words.specs.Bundles.{up_to, word_at, words_at}
use Rattle.beet_words.specs.Fields.{◌>>=◌, Part, number_bytes, eight_bytes_at, at_offset, number_at, times, counted_at, ended}
use Rattle.beet_bids.specs.Grids.{Grid}
use Rattle.beet_bids.specs.Curves.{Curve}
use Rattle.beet_bids.specs.declared.grid.TheConstants.{LARGEST_BASE, LARGEST_TICK, MOST_PRICES}
use Rattle.beet_bids.specs.declared.outcomes.Policy.{Policy}
use Rattle.beet_bids.specs.declared.outcomes.Policy.TheVariants.{Price, Volume, Full}
use Rattle.beet_words.specs.declared.bundle.TheConstants.{BAD_MAGIC, BAD_NUMBER, TRAILING}
use Rattle.beet_view.specs.declared.reading.TheConstants.{MOST_ROUNDS}
use Rattle.beet_view.specs.declared.quantities.Course.{Course}
use Rattle.beet_view.specs.declared.quantities.Course.TheVariants.{Falling, Rising}
use Rattle.beet_view.specs.declared.view.Seen.{Seen}
use Rattle.beet_view.specs.Views.{Viewed}
use Rattle.beet_plan.specs.Kept.{words_kept, masks_kept, coefficients_kept}
use Rattle.beet_view.specs.Transcripts.{tells_policy, magic, from_to, most_bidders, server_of, known_of, mark_of}
use Rattle.beet_view.specs.Transcripts.{gates_of, number_of_gates, policy_of, policy_field, form_in, server_at}
use Rattle.beet_view.specs.Transcripts.{policy_at, grid_at, point_at, allowed_after, start_of, quantities_at, own_at}
use Rattle.beet_view.specs.Transcripts.{own_where_known, seen_at, message_at, round_at, view_in, numbers_bytes}
use Rattle.beet_view.specs.Transcripts.{counted_bytes, grid_bytes, own_bytes, seen_bytes, round_bytes, view_bytes}
use Rattle.beet_view.proofs.ReadFacts.{same_value, value_has, no_value, number_at-within, times-all}
use Rattle.beet_view.proofs.SeenFacts.{mark_of-known}

-- the text stands in the bytes from one offset to another
pub record Spans (bytes : List ℕ) (at : ℕ) (text : List ℕ) (after : ℕ) : Type 0 where
  pub stands : drop at bytes ≡ text ++ drop after bytes

-- a text and the text after it
Spans-then : (bytes : List ℕ) (at : ℕ) (a : List ℕ) (between : ℕ) (b : List ℕ) (after : ℕ) →
    Spans bytes at a between → Spans bytes between b after → Spans bytes at (a ++ b) after
Spans-then bytes at a between b after s t =
    record { stands = s.stands ∙ ap (λ rest. a ++ rest) t.stands ∙ sym (append_assoc a b (drop after bytes)) }

-- all items are bytes
abbrev pub AreBytes : List ℕ → Type 0
AreBytes bytes = (i : ℕ) → get_or bytes i 0 < 256

AreBytes-part : (bytes : List ℕ) (at : ℕ) → AreBytes bytes → AreBytes (take 8 (drop at bytes))
AreBytes-part bytes at small i =
    elim (cases_lt i 8) [
      | inl lt ↦ rw (get_or-take 8 (drop at bytes) i 0 lt, get_or-drop at bytes i 0) (small (at + i))
      | inr le ↦ rw (get_or_past (take 8 (drop at bytes)) i 0 (omega (arith, length-take 8 (drop at bytes), le))) (omega arith)
    ]

-- what follows from each value between two steps
through : {A B : Type 0} (P : Type 0) (first : Reading A) (next : A → Reading B) (value : B) → (first >>= next) ≡ Ok value →
    ((between : A) → first ≡ Ok between → next between ≡ Ok value → P) → P
through P (Ok x) next value e follows = follows x refl e
through P (Err fault) next value e follows = absurd (no_value fault value e)

-- a number that was read is not cut off
whole : (short outside : Bool) (a b : Fault) (v r : ℕ × ℕ) →
    (if short then Err a else if outside then Err b else Ok v) ≡ Ok r →
    (short ≡ false) × (v ≡ r)
whole true outside a b v r e = absurd (no_value a r e)
whole false true a b v r e = absurd (no_value b r e)
whole false false a b v r e = (refl, same_value v r e)

-- a number stands where it was read
number_at-spans : (bytes : List ℕ) (allowed : Allowed) (at : ℕ) (read : ℕ × ℕ) → AreBytes bytes →
    number_at bytes allowed at ≡ Ok read →
    Spans bytes at (number_bytes read.0) read.1
number_at-spans bytes allowed at read small e =
    let n = eight_bytes_at bytes at in
    let is = whole (ltb (length bytes) (at + 8)) (ltb n allowed.low || ltb allowed.high n)
    (at_offset at allowed.truncated) (at_offset at allowed.outside) (n, at + 8) read e in
    let long : at + 8 ≤ length bytes = ltb-false (length bytes) (at + 8) is.0 in
    let text : number_bytes n ≡ take 8 (drop at bytes) =
    be_bytes_8 (take 8 (drop at bytes)) n (omega (arith, length-take 8 (drop at bytes), length-drop at bytes, long))
    (AreBytes-part bytes at small) refl in
    let stands : drop at bytes ≡ number_bytes n ++ drop (at + 8) bytes =
    sym (take-append-drop 8 (drop at bytes)) ∙ ap (λ front. front ++ drop 8 (drop at bytes)) (sym text)
    ∙ ap (λ rest. number_bytes n ++ rest) (drop-drop 8 at bytes) in
    subst (λ (r : ℕ × ℕ). Spans bytes at (number_bytes r.0) r.1) is.1 (record { stands = stands })

-- parts stand one after another where they were read
times-spans : {A : Type 0} (bytes : List ℕ) (part : Part A) (text : A → List ℕ) (count at : ℕ) (read : List A × ℕ) →
    ((offset : ℕ) (one : A × ℕ) → part offset ≡ Ok one → Spans bytes offset (text one.0) one.1) →
    times count part at ≡ Ok read →
    Spans bytes at (flat_map text read.0) read.1
unfolding times
times-spans {A} bytes part text zero at read each e =
    value_has (λ (r : List A × ℕ). Spans bytes at (flat_map text r.0) r.1) ([], at) read e (record { stands = refl })
times-spans {A} bytes part text (suc count) at read each e =
    let Is : Type 0 = Spans bytes at (flat_map text read.0) read.1 in
    through Is (part at) _ read e (λ first e0 e.
    through Is (times count part first.1) _ read e (λ others e1 e.
    value_has (λ (r : List A × ℕ). Spans bytes at (flat_map text r.0) r.1) (first.0 ∷ others.0, others.1) read e
    (Spans-then bytes at (text first.0) first.1 (flat_map text others.0) others.1 (each at first e0)
    (times-spans bytes part text count first.1 others each e1))))

-- any item
any : {A : Type 0} → A → Type 0
any x = Unit {0}

-- a counted list stands where it was read
counted_at-spans : {A : Type 0} (bytes : List ℕ) (allowed : Allowed) (part : Part A) (text : A → List ℕ) (at : ℕ)
    (read : List A × ℕ) → AreBytes bytes →
    ((offset : ℕ) (one : A × ℕ) → part offset ≡ Ok one → Spans bytes offset (text one.0) one.1) →
    counted_at bytes allowed part at ≡ Ok read →
    Spans bytes at (counted_bytes text read.0) read.1
unfolding counted_at any
counted_at-spans bytes allowed part text at read small each e =
    through (Spans bytes at (counted_bytes text read.0) read.1) (number_at bytes allowed at) _ read e (λ count e0 e.
    let many = times-all part any count.0 count.1 read (λ offset one is. tt) e in
    let first = subst (λ n. Spans bytes at (number_bytes n) count.1) (sym many.many) (number_at-spans bytes allowed at count small e0) in
    Spans-then bytes at (number_bytes (length read.0)) count.1 (flat_map text read.0) read.1 first
    (times-spans bytes part text count.0 count.1 read each e))

-- words stand where they were read
words_at-spans : (bytes : List ℕ) (most at : ℕ) (read : List ℕ × ℕ) → AreBytes bytes →
    words_at bytes most at ≡ Ok read →
    Spans bytes at (counted_bytes number_bytes read.0) read.1
words_at-spans bytes most at read small e =
    counted_at-spans bytes (up_to most) (word_at bytes) number_bytes at read small
    (λ offset one is. number_at-spans bytes _ offset one small is) e

-- a message stands where it was read
message_at-spans : (bytes : List ℕ) (at : ℕ) (read : List ℕ × ℕ) → AreBytes bytes →
    message_at bytes at ≡ Ok read →
    Spans bytes at (counted_bytes number_bytes read.0) read.1
message_at-spans bytes at read small e =
    counted_at-spans bytes (from_to 1 MOST_NUMBERS) (point_at bytes) number_bytes at read small
    (λ offset one is. number_at-spans bytes _ offset one small is) e

-- the messages of a round stand where they were read
round_at-spans : (bytes : List ℕ) (at : ℕ) (read : (List ℕ × List ℕ) × ℕ) → AreBytes bytes →
    round_at bytes at ≡ Ok read →
    Spans bytes at (round_bytes read.0) read.1
unfolding round_at
round_at-spans bytes at read small e =
    let Is : Type 0 = Spans bytes at (round_bytes read.0) read.1 in
    through Is (message_at bytes at) _ read e (λ lower e0 e.
    through Is (message_at bytes lower.1) _ read e (λ higher e1 e.
    value_has (λ (r : (List ℕ × List ℕ) × ℕ). Spans bytes at (round_bytes r.0) r.1) ((lower.0, higher.0), higher.1) read e
    (Spans-then bytes at (counted_bytes number_bytes lower.0) lower.1 (counted_bytes number_bytes higher.0) higher.1
    (message_at-spans bytes at lower small e0) (message_at-spans bytes lower.1 higher small e1))))

-- quantities stand where they were read
quantities_at-spans : (bytes : List ℕ) (course : Course) (count before at : ℕ) (read : List ℕ × ℕ) → AreBytes bytes →
    quantities_at bytes course count before at ≡ Ok read →
    Spans bytes at (numbers_bytes read.0) read.1
unfolding quantities_at
quantities_at-spans bytes course zero before at read small e =
    value_has (λ (r : List ℕ × ℕ). Spans bytes at (numbers_bytes r.0) r.1) ([], at) read e (record { stands = refl })
quantities_at-spans bytes course (suc count) before at read small e =
    let Is : Type 0 = Spans bytes at (numbers_bytes read.0) read.1 in
    through Is (number_at bytes (allowed_after course before) at) _ read e (λ first e0 e.
    through Is (quantities_at bytes course count first.0 first.1) _ read e (λ others e1 e.
    value_has (λ (r : List ℕ × ℕ). Spans bytes at (numbers_bytes r.0) r.1) (first.0 ∷ others.0, others.1) read e
    (Spans-then bytes at (number_bytes first.0) first.1 (numbers_bytes others.0) others.1
    (number_at-spans bytes (allowed_after course before) at first small e0)
    (quantities_at-spans bytes course count first.0 first.1 others small e1))))

-- the curve and the words of a known bidder stand where they were read
own_at-spans : (bytes : List ℕ) (prices at : ℕ) (read : (Curve × List ℕ) × ℕ) → AreBytes bytes →
    own_at bytes prices at ≡ Ok read →
    Spans bytes at (own_bytes (Some read.0)) read.1
unfolding own_at
own_at-spans bytes prices at read small e =
    let Is : Type 0 = Spans bytes at (own_bytes (Some read.0)) read.1 in
    let curve : List ℕ → List ℕ → Curve = λ buy sell. record { buy = buy; sell = sell } in
    through Is (quantities_at bytes Falling prices (start_of Falling) at) _ read e (λ buy e0 e.
    through Is (quantities_at bytes Rising prices (start_of Rising) buy.1) _ read e (λ sell e1 e.
    through Is (words_at bytes (words_kept prices) sell.1) _ read e (λ words e2 e.
    let a = numbers_bytes buy.0 in
    let b = numbers_bytes sell.0 in
    let c = counted_bytes number_bytes words.0 in
    value_has (λ (r : (Curve × List ℕ) × ℕ). Spans bytes at (own_bytes (Some r.0)) r.1) ((curve buy.0 sell.0, words.0), words.1) read e
    (Spans-then bytes at a buy.1 (b ++ c) words.1 (quantities_at-spans bytes Falling prices (start_of Falling) at buy small e0)
    (Spans-then bytes buy.1 b sell.1 c words.1 (quantities_at-spans bytes Rising prices (start_of Rising) buy.1 sell small e1)
    (words_at-spans bytes (words_kept prices) sell.1 words small e2))))))

-- what is kept of a bidder stands where it was read
own_where_known-spans : (bytes : List ℕ) (prices at : ℕ) (read : Option (Curve × List ℕ) × ℕ) (same : Bool) → AreBytes bytes →
    (if same then (own_at bytes prices at >>= λ own. Ok (Some own.0, own.1)) else Ok (None, at)) ≡ Ok read →
    Spans bytes at (own_bytes read.0) read.1
own_where_known-spans bytes prices at read true small e =
    through (Spans bytes at (own_bytes read.0) read.1) (own_at bytes prices at) _ read e (λ own e0 e.
    value_has (λ (r : Option (Curve × List ℕ) × ℕ). Spans bytes at (own_bytes r.0) r.1) (Some own.0, own.1) read e
    (own_at-spans bytes prices at own small e0))
own_where_known-spans bytes prices at read false small e =
    value_has (λ (r : Option (Curve × List ℕ) × ℕ). Spans bytes at (own_bytes r.0) r.1) (None, at) read e (record { stands = refl })

-- a bidder stands where it was read
seen_at-spans : (bytes : List ℕ) (server : Point) (prices at : ℕ) (read : Seen × ℕ) → AreBytes bytes →
    seen_at bytes server prices at ≡ Ok read →
    Spans bytes at (seen_bytes read.0) read.1
unfolding seen_at own_where_known
seen_at-spans bytes server prices at read small e =
    let Is : Type 0 = Spans bytes at (seen_bytes read.0) read.1 in
    let made : ℕ → List ℕ → Option (Curve × List ℕ) → Seen =
    λ mark points own. record { known = known_of mark; points = points; own = own } in
    through Is (number_at bytes (from_to 0 3) at) _ read e (λ mark e0 e.
    through Is (times (2 * prices) (point_at bytes) mark.1) _ read e (λ points e1 e.
    through Is (own_where_known bytes server prices mark.0 points.1) _ read e (λ own e2 e.
    let is = mark_of-known mark.0 (number_at-within bytes (from_to 0 3) at mark e0).1 in
    let a = number_bytes (mark_of (known_of mark.0)) in
    let b = numbers_bytes points.0 in
    let c = own_bytes own.0 in
    let first = subst (λ n. Spans bytes at (number_bytes n) mark.1) (sym is) (number_at-spans bytes (from_to 0 3) at mark small e0) in
    let second = times-spans bytes (point_at bytes) number_bytes (2 * prices) mark.1 points
    (λ offset one here. number_at-spans bytes _ offset one small here) e1 in
    let third = own_where_known-spans bytes prices points.1 own (eqb mark.0 (number_of server)) small e2 in
    value_has (λ (r : Seen × ℕ). Spans bytes at (seen_bytes r.0) r.1) (made mark.0 points.0 own.0, own.1) read e
    (Spans-then bytes at a mark.1 (b ++ c) own.1 first (Spans-then bytes mark.1 b points.1 c own.1 second third)))))

-- the number that was read is the number of the server that it names
number_of-server : (n : ℕ) → 1 ≤ n → n ≤ 3 → number_of (server_of n) ≡ n
number_of-server zero l h = absurd (omega arith)
number_of-server (suc zero) l h = refl
number_of-server (suc (suc zero)) l h = refl
number_of-server (suc (suc (suc zero))) l h = refl
number_of-server (suc (suc (suc (suc n)))) l h = absurd (omega arith)

-- the number that was read is the number of the kind of gates that it names
number_of_gates-gates : (n : ℕ) → n ≤ 1 → number_of_gates (gates_of n) ≡ n
number_of_gates-gates zero h = refl
number_of_gates-gates (suc zero) h = refl
number_of_gates-gates (suc (suc n)) h = absurd (omega arith)

-- the server stands where it was read
server_at-spans : (bytes : List ℕ) (at : ℕ) (read : Point × ℕ) → AreBytes bytes →
    server_at bytes at ≡ Ok read →
    Spans bytes at (number_bytes (number_of read.0)) read.1
unfolding server_at
server_at-spans bytes at read small e =
    through (Spans bytes at (number_bytes (number_of read.0)) read.1) (number_at bytes (from_to 1 3) at) _ read e (λ number e0 e.
    let within = number_at-within bytes (from_to 1 3) at number e0 in
    value_has (λ (r : Point × ℕ). Spans bytes at (number_bytes (number_of r.0)) r.1) (server_of number.0, number.1) read e
    (subst (λ n. Spans bytes at (number_bytes n) number.1) (sym (number_of-server number.0 within.0 within.1))
    (number_at-spans bytes (from_to 1 3) at number small e0)))

-- the number that was read is the number of the policy that it tells
policy_field-policy : (n : ℕ) → n ≤ 2 → eqb n 1 ≡ false → policy_field (policy_of n) ≡ n ∷ []
policy_field-policy zero h other = refl
policy_field-policy (suc zero) h other = absurd (true≢false other)
policy_field-policy (suc (suc zero)) h other = refl
policy_field-policy (suc (suc (suc n))) h other = absurd (omega arith)

-- each number tells a policy that is told
tells_policy-policy : (price : Bool) → tells_policy (if price then Price else Full) ≡ true
tells_policy-policy true = refl
tells_policy-policy false = refl

-- a policy stands where it was read, if it is one that is told
record IsPolicy (bytes : List ℕ) (tells : Bool) (at : ℕ) (policy : Policy) (after : ℕ) : Type 0 where
  pub told : tells_policy policy ≡ tells
  pub spans : Spans bytes at (numbers_bytes (policy_field policy)) after

other_than_one : (one : Bool) (fault : Fault) (v r : Policy × ℕ) → (if one then Err fault else Ok v) ≡ Ok r → (one ≡ false) × (v ≡ r)
other_than_one true fault v r e = absurd (no_value fault r e)
other_than_one false fault v r e = (refl, same_value v r e)

policy_at-is : (bytes : List ℕ) (tells : Bool) (at : ℕ) (read : Policy × ℕ) → AreBytes bytes →
    policy_at bytes tells at ≡ Ok read →
    IsPolicy bytes tells at read.0 read.1
unfolding policy_at
policy_at-is bytes false at read small e =
    value_has (λ (r : Policy × ℕ). IsPolicy bytes false at r.0 r.1) (Volume, at) read e
    (record { told = refl; spans = record { stands = refl } })
policy_at-is bytes true at read small e =
    through (IsPolicy bytes true at read.0 read.1) (number_at bytes (from_to 0 2) at) _ read e (λ number e0 e.
    let is = other_than_one (eqb number.0 1) (at_offset at BAD_NUMBER) (policy_of number.0, number.1) read e in
    let field = policy_field-policy number.0 (number_at-within bytes (from_to 0 2) at number e0).1 is.0 in
    let stands = Spans-then bytes at (number_bytes number.0) number.1 [] number.1
    (number_at-spans bytes (from_to 0 2) at number small e0) (record { stands = refl }) in
    subst (λ (r : Policy × ℕ). IsPolicy bytes true at r.0 r.1) is.1 (record {
      told = tells_policy-policy (eqb number.0 0);
      spans = subst (λ field. Spans bytes at (numbers_bytes field) number.1) (sym field) stands;
    }))

-- a grid stands where it was read, and its policy is one that is told
record IsToldGrid (bytes : List ℕ) (tells : Bool) (at : ℕ) (grid : Grid) (after : ℕ) : Type 0 where
  pub told : tells_policy grid.policy ≡ tells
  pub spans : Spans bytes at (grid_bytes grid) after

grid_at-is : (bytes : List ℕ) (tells : Bool) (at : ℕ) (read : Grid × ℕ) → AreBytes bytes →
    grid_at bytes tells at ≡ Ok read →
    IsToldGrid bytes tells at read.0 read.1
unfolding grid_at
grid_at-is bytes tells at read small e =
    let Is : Type 0 = IsToldGrid bytes tells at read.0 read.1 in
    let made : ℕ → ℕ → ℕ → ℕ → Policy → Grid = λ base tick prices gates policy.
    record { base = base; tick = tick; prices = prices; gates = gates_of gates; policy = policy } in
    through Is (number_at bytes (from_to 0 LARGEST_BASE) at) _ read e (λ base e0 e.
    through Is (number_at bytes (from_to 1 LARGEST_TICK) base.1) _ read e (λ tick e1 e.
    through Is (number_at bytes (from_to 1 MOST_PRICES) tick.1) _ read e (λ prices e2 e.
    through Is (number_at bytes (from_to 0 1) prices.1) _ read e (λ gates e3 e.
    through Is (policy_at bytes tells gates.1) _ read e (λ policy e4 e.
    let is = number_of_gates-gates gates.0 (number_at-within bytes (from_to 0 1) prices.1 gates e3).1 in
    let last = policy_at-is bytes tells gates.1 policy small e4 in
    let a = number_bytes base.0 in
    let b = number_bytes tick.0 in
    let c = number_bytes prices.0 in
    let d = number_bytes (number_of_gates (gates_of gates.0)) in
    let f = numbers_bytes (policy_field policy.0) in
    let fourth = subst (λ n. Spans bytes prices.1 (number_bytes n) gates.1) (sym is)
    (number_at-spans bytes (from_to 0 1) prices.1 gates small e3) in
    value_has (λ (r : Grid × ℕ). IsToldGrid bytes tells at r.0 r.1) (made base.0 tick.0 prices.0 gates.0 policy.0, policy.1) read e
    (record {
      told = last.told;
      spans =
          Spans-then bytes at a base.1 (b ++ (c ++ (d ++ f))) policy.1 (number_at-spans bytes (from_to 0 LARGEST_BASE) at base small e0)
          (Spans-then bytes base.1 b tick.1 (c ++ (d ++ f)) policy.1 (number_at-spans bytes (from_to 1 LARGEST_TICK) base.1 tick small e1)
          (Spans-then bytes tick.1 c prices.1 (d ++ f) policy.1 (number_at-spans bytes (from_to 1 MOST_PRICES) tick.1 prices small e2)
          (Spans-then bytes prices.1 d gates.1 f policy.1 fourth last.spans)));
    }))))))

-- bytes that begin with one text or the other
begins : (first second : Bool) (form : Bool × ℕ) (fault : Fault) →
    (if first then Ok (false, 8) else if second then Ok (true, 8) else Err fault) ≡ Ok form →
    ((first ≡ true) × ((false, 8) ≡ form)) ⊎ ((second ≡ true) × ((true, 8) ≡ form))
begins true second form fault e = inl (refl, same_value (false, 8) form e)
begins false true form fault e = inr (refl, same_value (true, 8) form e)
begins false false form fault e = absurd (no_value fault form e)

-- the text stands first where the bytes begin with it
magic-stands : (bytes : List ℕ) (tells : Bool) → starts_with eqb bytes (magic tells) ≡ true →
    Spans bytes 0 (magic tells) (length (magic tells))
magic-stands bytes tells begin =
    record { stands = (starts_is Decides-eqb bytes (magic tells) (starts_with eqb bytes (magic tells)) refl).0 begin }

form_in-spans : (bytes : List ℕ) (form : Bool × ℕ) → form_in bytes ≡ Ok form → Spans bytes 0 (magic form.0) form.1
form_in-spans bytes form e =
    let stands : Bool × ℕ → Type 0 = λ (f : Bool × ℕ). Spans bytes 0 (magic f.0) f.1 in
    elim (begins (starts_with eqb bytes (magic false)) (starts_with eqb bytes (magic true)) form (at_offset 0 BAD_MAGIC) e) [
      | inl is ↦ subst stands is.1 (magic-stands bytes false is.0)
      | inr is ↦ subst stands is.1 (magic-stands bytes true is.0)
    ]

-- nothing stands after the end
no_more : (more : Bool) (fault : Fault) (done : Unit {0}) → (if more then Err fault else Ok tt) ≡ Ok done → more ≡ false
no_more true fault done e = absurd (no_value fault done e)
no_more false fault done e = refl

ended-nothing : (bytes : List ℕ) (at : ℕ) (done : Unit {0}) → ended bytes TRAILING at ≡ Ok done → drop at bytes ≡ []
ended-nothing bytes at done e =
    drop_all at bytes (ltb-false at (length bytes) (no_more (ltb at (length bytes)) (at_offset at TRAILING) done e))

-- where the parts of a view stand one after another up to the end, the bytes are those of the view
parts-bytes : (bytes : List ℕ) (view : Viewed) (a b c d e f g : ℕ) →
    Spans bytes 0 (magic (tells_policy view.grid.policy)) a →
    Spans bytes a (number_bytes (number_of view.server)) b →
    Spans bytes b (grid_bytes view.grid) c →
    Spans bytes c (counted_bytes seen_bytes view.bidders) d →
    Spans bytes d (counted_bytes number_bytes view.masks) e →
    Spans bytes e (counted_bytes number_bytes view.coefficients) f →
    Spans bytes f (counted_bytes round_bytes view.rounds) g →
    drop g bytes ≡ [] →
    view_bytes view ≡ bytes
parts-bytes bytes view a b c d e f g start server grid bidders masks coefficients rounds nothing =
    let last = Spans-then bytes e (counted_bytes number_bytes view.coefficients) f
    (counted_bytes round_bytes view.rounds) g coefficients rounds in
    let after_bidders = Spans-then bytes d (counted_bytes number_bytes view.masks) e _ g masks last in
    let after_grid = Spans-then bytes c (counted_bytes seen_bytes view.bidders) d _ g bidders after_bidders in
    let after_server = Spans-then bytes b (grid_bytes view.grid) c _ g grid after_grid in
    let after_start = Spans-then bytes a (number_bytes (number_of view.server)) b _ g server after_server in
    let all : bytes ≡ view_bytes view ++ drop g bytes =
    (Spans-then bytes 0 (magic (tells_policy view.grid.policy)) a _ g start after_start).stands in
    sym (all ∙ ap (λ rest. view_bytes view ++ rest) nothing ∙ append-nil (view_bytes view))

-- the bytes that were read as a view are the bytes of the view
pub view_in-bytes : (bytes : List ℕ) (view : Viewed) → AreBytes bytes → view_in bytes ≡ Ok view → view_bytes view ≡ bytes
unfolding view_in
view_in-bytes bytes view small e =
    let Is : Type 0 = view_bytes view ≡ bytes in
    through Is (form_in bytes) _ view e (λ form e0 e.
    through Is (server_at bytes form.1) _ view e (λ server e1 e.
    through Is (grid_at bytes form.0 server.1) _ view e (λ grid e2 e.
    through Is (counted_at bytes (from_to 0 (most_bidders grid.0.prices)) (seen_at bytes server.0 grid.0.prices) grid.1)
    _ view e (λ bidders e3 e.
    through Is (words_at bytes (masks_kept grid.0) bidders.1) _ view e (λ masks e4 e.
    through Is (words_at bytes (coefficients_kept grid.0) masks.1) _ view e (λ coefficients e5 e.
    through Is (counted_at bytes (from_to 0 MOST_ROUNDS) (round_at bytes) coefficients.1) _ view e (λ rounds e6 e.
    through Is (ended bytes TRAILING rounds.1) _ view e (λ done e7 e.
    let made : Viewed = record {
      server = server.0;
      grid = grid.0;
      bidders = bidders.0;
      masks = masks.0;
      coefficients = coefficients.0;
      rounds = rounds.0;
    } in
    let told = grid_at-is bytes form.0 server.1 grid small e2 in
    subst (λ (v : Viewed). view_bytes v ≡ bytes) (same_value made view e)
    (parts-bytes bytes made form.1 server.1 grid.1 bidders.1 masks.1 coefficients.1 rounds.1
    (subst (λ tells. Spans bytes 0 (magic tells) form.1) (sym told.told) (form_in-spans bytes form e0))
    (server_at-spans bytes form.1 server small e1)
    told.spans
    (counted_at-spans bytes (from_to 0 (most_bidders grid.0.prices)) (seen_at bytes server.0 grid.0.prices) seen_bytes
    grid.1 bidders small (λ offset one is. seen_at-spans bytes server.0 grid.0.prices offset one small is) e3)
    (words_at-spans bytes (masks_kept grid.0) bidders.1 masks small e4)
    (words_at-spans bytes (coefficients_kept grid.0) masks.1 coefficients small e5)
    (counted_at-spans bytes (from_to 0 MOST_ROUNDS) (round_at bytes) round_bytes coefficients.1 rounds small
    (λ offset one is. round_at-spans bytes offset one small is) e6)
    (ended-nothing bytes rounds.1 done e7))))))))))
