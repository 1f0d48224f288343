-- A transcript that was written is read again.
use Rattle.std.proofs.Common.{◌≡◌, ℕ, suc, ◌+◌, ◌-◌, ◌/◌, ◌^◌, ◌<◌, ◌≤◌, Bool, true, false, eqb, List, [], ◌∷◌, ◌++◌}
use Rattle.std.proofs.Common.{length, All, AllPairs, Option, None, Some, IfSome, Ok, refl, sym, ap, subst, ◌∙◌, arith}
use Rattle.std.specs.List.{flat_map}
use Rattle.std.proofs.Math.Nat.{le-div_iff_mul-le}
use Rattle.std.proofs.lemmas.Bool.{le-ltb}
use Rattle.std.proofs.lemmas.List.{append-nil, length-append}
use Rattle.std.proofs.lemmas.List.Elements.{All-head, All-tail}
use Rattle.beet_field.specs.Field.{p, IsElement}
use Rattle.beet_field.specs.Point.{number_of}
use Rattle.beet_field.specs.declared.point.Point.{Point}
use Rattle.beet_field.specs.declared.point.Point.TheVariants.{One, Two, Three}
use Rattle.beet_field.specs.declared.TheConstants.{MOST_NUMBERS}
use Rattle.beet_words.specs.Words.{IsWord, ones}
use Rattle.beet_words.specs.Bundles.{up_to, word_at, words_at}
use Rattle.beet_words.specs.Fields.{Part, number_bytes, number_at, times, counted_at, ended}
use Rattle.beet_words.proofs.FieldsAgain.{StandsAt, StandsAt-left, StandsAt-right, number_at-number, times-parts}
use Rattle.beet_gates.specs.declared.Gates.{Gates}
use Rattle.beet_gates.specs.declared.Gates.TheVariants.{Chain, Tree}
use Rattle.beet_bids.specs.Grids.{Grid, IsGrid}
use Rattle.beet_bids.proofs.GridFacts.{few_comparisons}
use Rattle.beet_bids.specs.Curves.{Curve, IsCurve}
use Rattle.beet_bids.specs.declared.curve.TheConstants.{LARGEST_QUANTITY}
use Rattle.beet_bids.specs.declared.grid.TheConstants.{LARGEST_BASE, LARGEST_TICK, MOST_PRICES}
use Rattle.beet_bids.specs.declared.outcomes.Policy.{Policy}
use Rattle.beet_bids.specs.declared.outcomes.Policy.TheVariants.{Price, Volume, Full}
use Rattle.beet_book.specs.declared.book_file.TheConstants.{MOST_PRODUCT}
use Rattle.beet_words.specs.declared.bundle.TheConstants.{TRAILING}
use Rattle.beet_view.specs.declared.reading.TheConstants.{MOST_ROUNDS}
use Rattle.beet_view.specs.declared.quantities.Course.{Course}
use Rattle.beet_view.specs.declared.quantities.Course.TheVariants.{Falling, Rising}
use Rattle.beet_view.specs.declared.view.Seen.{Seen}
use Rattle.beet_view.specs.Views.{Viewed, IsSeenAt, IsView}
use Rattle.beet_plan.specs.Kept.{words_kept, masks_kept, coefficients_kept}
use Rattle.beet_view.specs.Transcripts.{tells_policy, magic, from_to, most_bidders, known_of, mark_of, gates_of}
use Rattle.beet_view.specs.Transcripts.{number_of_gates, policy_field, form_in, server_at, policy_at, grid_at, point_at}
use Rattle.beet_view.specs.Transcripts.{allowed_after, start_of, quantities_at, own_at, own_where_known, seen_at}
use Rattle.beet_view.specs.Transcripts.{message_at, round_at, view_in, numbers_bytes, counted_bytes, grid_bytes}
use Rattle.beet_view.specs.Transcripts.{own_bytes, seen_bytes, round_bytes, view_bytes, IsMessage, FitsFile, HasNumbers}
use Rattle.beet_view.specs.Transcripts.{HasElements, AreNumbers}
use Rattle.beet_view.proofs.ReadFacts.{OnCourse}
use Rattle.beet_view.proofs.SeenFacts.{grid_at-numbers}

-- a number of so many bytes is read where it stands first
number_first : (bytes : List ℕ) (low high at n : ℕ) (rest : List ℕ) →
    low ≤ n → n ≤ high → n < 2 ^ 64 → StandsAt bytes at (number_bytes n ++ rest) → number_at bytes (from_to low high) at ≡ Ok (n, at + 8)
number_first bytes low high at n rest l h f s =
    number_at-number bytes (from_to low high) at n l h f (StandsAt-left bytes at (number_bytes n) rest s)

-- a counted list is read
counted_at-parts : {A : Type 0} (bytes : List ℕ) (low high : ℕ) (part : Part A) (text : A → List ℕ) (Fits : A → Type 0)
    (xs : List A) (at : ℕ) →
    low ≤ length xs →
    length xs ≤ high →
    length xs < 2 ^ 64 →
    ((x : A) (offset : ℕ) → Fits x → StandsAt bytes offset (text x) → part offset ≡ Ok (x, offset + length (text x))) →
    All Fits xs →
    StandsAt bytes at (counted_bytes text xs) →
    counted_at bytes (from_to low high) part at ≡ Ok (xs, at + length (counted_bytes text xs))
unfolding counted_at
counted_at-parts bytes low high part text Fits xs at l h f each all s =
    let count = number_first bytes low high at (length xs) (flat_map text xs) l h f s in
    let items = times-parts bytes part text Fits xs (at + 8) each all
    (StandsAt-right bytes at (number_bytes (length xs)) (flat_map text xs) s) in
    let place : at + 8 + length (flat_map text xs) ≡ at + length (counted_bytes text xs) =
    omega (arith, length-append (number_bytes (length xs)) (flat_map text xs)) in
    rw (count, items) (ap (λ n. Ok (xs, n)) place)

-- a number of the field is read
point_at-point : (bytes : List ℕ) (x offset : ℕ) → IsElement x → StandsAt bytes offset (number_bytes x) →
    point_at bytes offset ≡ Ok (x, offset + length (number_bytes x))
point_at-point bytes x offset below s = number_at-number bytes (from_to 0 (p - 1)) offset x (omega arith) (omega arith) (omega arith) s

-- words are read
words_at-words : (bytes words : List ℕ) (most at : ℕ) → length words ≤ most → length words < 2 ^ 64 → All IsWord words →
    StandsAt bytes at (counted_bytes number_bytes words) →
    words_at bytes most at ≡ Ok (words, at + length (counted_bytes number_bytes words))
words_at-words bytes words most at few fits below s =
    let each : (word offset : ℕ) → IsWord word → StandsAt bytes offset (number_bytes word) →
    word_at bytes offset ≡ Ok (word, offset + length (number_bytes word)) =
    λ word offset small stands. number_at-number bytes (up_to ones) offset word (omega arith) (omega arith) (omega arith) stands in
    counted_at-parts bytes 0 most (word_at bytes) number_bytes IsWord words at (omega arith) few fits each below s

-- a message is read
message_at-message : (bytes numbers : List ℕ) (at : ℕ) → IsMessage numbers → All IsElement numbers →
    StandsAt bytes at (counted_bytes number_bytes numbers) →
    message_at bytes at ≡ Ok (numbers, at + length (counted_bytes number_bytes numbers))
message_at-message bytes numbers at is below s =
    counted_at-parts bytes 1 MOST_NUMBERS (point_at bytes) number_bytes IsElement numbers at is.0 is.1
    (omega (arith, is.1)) (point_at-point bytes) below s

-- the messages of a round may stand in a transcript
record FitsRound (round : List ℕ × List ℕ) : Type 0 where
  pub lower : IsMessage round.0
  pub higher : IsMessage round.1
  pub elements : HasElements round

round_at-round : (bytes : List ℕ) (round : List ℕ × List ℕ) (at : ℕ) → FitsRound round →
    StandsAt bytes at (round_bytes round) →
    round_at bytes at ≡ Ok (round, at + length (round_bytes round))
unfolding round_at
round_at-round bytes round at fits s =
    let a = counted_bytes number_bytes round.0 in
    let b = counted_bytes number_bytes round.1 in
    let first = message_at-message bytes round.0 at fits.lower fits.elements.lower (StandsAt-left bytes at a b s) in
    let second = message_at-message bytes round.1 (at + length a) fits.higher fits.elements.higher (StandsAt-right bytes at a b s) in
    let place : at + length a + length b ≡ at + length (round_bytes round) = omega (arith, length-append a b) in
    rw (first, second) (ap (λ n. Ok (round, n)) place)

-- quantities are read
quantities_at-quantities : (bytes : List ℕ) (course : Course) (before at : ℕ) (xs : List ℕ) →
    OnCourse course before xs →
    All (λ x. x ≤ LARGEST_QUANTITY) xs →
    StandsAt bytes at (numbers_bytes xs) →
    quantities_at bytes course (length xs) before at ≡ Ok (xs, at + length (numbers_bytes xs))
unfolding quantities_at OnCourse
quantities_at-quantities bytes course before at [] on small s =
    let place : at ≡ at + 0 = omega arith in
    ap (λ n. Ok ([], n)) place
quantities_at-quantities bytes course before at (x ∷ xs) on small s =
    let within : x ≤ LARGEST_QUANTITY = All-head (λ x. x ≤ LARGEST_QUANTITY) x xs small in
    let first = number_at-number bytes (allowed_after course before) at x on.0 on.1 (omega (arith, within))
    (StandsAt-left bytes at (number_bytes x) (numbers_bytes xs) s) in
    let others = quantities_at-quantities bytes course x (at + 8) xs on.2
    (All-tail (λ x. x ≤ LARGEST_QUANTITY) x xs small) (StandsAt-right bytes at (number_bytes x) (numbers_bytes xs) s) in
    let place : at + 8 + length (numbers_bytes xs) ≡ at + length (number_bytes x ++ numbers_bytes xs) =
    omega (arith, length-append (number_bytes x) (numbers_bytes xs)) in
    rw (first, others) (ap (λ n. Ok (x ∷ xs, n)) place)

-- later pairs of a list
AllPairs-tail : (R : ℕ → ℕ → Type 0) (x : ℕ) (xs : List ℕ) → AllPairs R (x ∷ xs) → AllPairs R xs
AllPairs-tail R x xs all = λ i j d below inside. all (suc i) (suc j) d (omega arith) (omega arith)

-- quantities that never rise are on a falling course
on_falling : (before : ℕ) (xs : List ℕ) → All (λ x. x ≤ before) xs → AllPairs (λ x y. y ≤ x) xs → OnCourse Falling before xs
unfolding OnCourse
on_falling before [] below pairs = tt
on_falling before (x ∷ xs) below pairs = (
  omega arith,
  All-head (λ y. y ≤ before) x xs below,
  on_falling x xs (λ k d h. pairs 0 (suc k) d (omega arith) (omega arith)) (AllPairs-tail (λ x y. y ≤ x) x xs pairs),
)

-- quantities that never fall are on a rising course
on_rising : (before : ℕ) (xs : List ℕ) → All (λ x. before ≤ x) xs → All (λ x. x ≤ LARGEST_QUANTITY) xs →
    AllPairs (λ x y. x ≤ y) xs → OnCourse Rising before xs
unfolding OnCourse
on_rising before [] above small pairs = tt
on_rising before (x ∷ xs) above small pairs = (
  All-head (λ y. before ≤ y) x xs above,
  All-head (λ y. y ≤ LARGEST_QUANTITY) x xs small,
  on_rising x xs (λ k d h. pairs 0 (suc k) d (omega arith) (omega arith))
      (All-tail (λ y. y ≤ LARGEST_QUANTITY) x xs small) (AllPairs-tail (λ x y. x ≤ y) x xs pairs),
)

-- the curve and the words of a known bidder are read
own_at-own : (bytes : List ℕ) (prices at : ℕ) (own : Curve × List ℕ) →
    prices ≤ MOST_PRICES →
    length own.0.buy ≡ prices →
    length own.0.sell ≡ prices →
    length own.1 ≤ words_kept prices →
    IsCurve own.0 →
    All IsWord own.1 →
    StandsAt bytes at (own_bytes (Some own)) →
    own_at bytes prices at ≡ Ok (own, at + length (own_bytes (Some own)))
unfolding own_at
own_at-own bytes prices at own small buys sells few curve words s =
    let a = numbers_bytes own.0.buy in
    let b = numbers_bytes own.0.sell in
    let c = counted_bytes number_bytes own.1 in
    let after = StandsAt-right bytes at a (b ++ c) s in
    let buy = subst (λ n. quantities_at bytes Falling n (start_of Falling) at ≡ Ok (own.0.buy, at + length a)) buys
    (quantities_at-quantities bytes Falling (start_of Falling) at own.0.buy
    (on_falling (start_of Falling) own.0.buy curve.buy_limit curve.buy_never_rises) curve.buy_limit
    (StandsAt-left bytes at a (b ++ c) s)) in
    let sell = subst (λ n. quantities_at bytes Rising n (start_of Rising) (at + length a) ≡ Ok (own.0.sell, at + length a + length b)) sells
    (quantities_at-quantities bytes Rising (start_of Rising) (at + length a) own.0.sell
    (on_rising (start_of Rising) own.0.sell (λ k d h. omega arith) curve.sell_limit curve.sell_never_falls)
    curve.sell_limit (StandsAt-left bytes (at + length a) b c after)) in
    let last = words_at-words bytes own.1 (words_kept prices) (at + length a + length b) few (omega (arith, few)) words
    (StandsAt-right bytes (at + length a) b c after) in
    let place : at + length a + length b + length c ≡ at + length (own_bytes (Some own)) =
    omega (arith, length-append a (b ++ c), length-append b c) in
    rw (buy, sell, last) (ap (λ n. Ok (own, n)) place)

-- the server that a mark names is the one that it was written for
known_of-mark : (known : Option Point) → known_of (mark_of known) ≡ known
known_of-mark None = refl
known_of-mark (Some One) = refl
known_of-mark (Some Two) = refl
known_of-mark (Some Three) = refl

-- a mark is at most 3
mark_of-small : (known : Option Point) → mark_of known ≤ 3
mark_of-small None = omega arith
mark_of-small (Some One) = omega arith
mark_of-small (Some Two) = omega arith
mark_of-small (Some Three) = omega arith

-- the mark is the number of the server that knows the bidder, and of no other
same_mark : (server : Point) → eqb (number_of server) (number_of server) ≡ true
same_mark One = refl
same_mark Two = refl
same_mark Three = refl

other_mark : (known : Option Point) (server : Point) → (known ≡ Some server → ⊥) → eqb (mark_of known) (number_of server) ≡ false
other_mark None One other = refl
other_mark None Two other = refl
other_mark None Three other = refl
other_mark (Some One) One other = absurd (other refl)
other_mark (Some One) Two other = refl
other_mark (Some One) Three other = refl
other_mark (Some Two) One other = refl
other_mark (Some Two) Two other = absurd (other refl)
other_mark (Some Two) Three other = refl
other_mark (Some Three) One other = refl
other_mark (Some Three) Two other = refl
other_mark (Some Three) Three other = absurd (other refl)

-- a bidder may stand in a transcript
record FitsSeen (server : Point) (grid : Grid) (seen : Seen) : Type 0 where
  pub at_server : IsSeenAt server grid seen
  pub words : IfSome seen.own (λ own. length own.1 ≤ words_kept grid.prices)
  pub numbers : HasNumbers seen

-- what is kept of a bidder is read, or nothing where nothing is kept
own_where_known-own : (bytes : List ℕ) (server : Point) (grid : Grid) (at : ℕ) (known : Option Point) (points : List ℕ)
    (own : Option (Curve × List ℕ)) →
    grid.prices ≤ MOST_PRICES →
    FitsSeen server grid (record { known = known; points = points; own = own }) →
    StandsAt bytes at (own_bytes own) →
    own_where_known bytes server grid.prices (mark_of known) at ≡ Ok (own, at + length (own_bytes own))
unfolding own_where_known
own_where_known-own bytes server grid at known points None small fits s =
    let place : at ≡ at + 0 = omega arith in
    rw (other_mark known server fits.at_server.own) (ap (λ n. Ok (None, n)) place)
own_where_known-own bytes server grid at known points (Some own) small fits s =
    let kept = fits.at_server.own in
    let mark : eqb (mark_of known) (number_of server) ≡ true = rw kept.0 (same_mark server) in
    let read = own_at-own bytes grid.prices at own small kept.1.buy_length kept.1.sell_length fits.words
    fits.numbers.own.0 fits.numbers.own.1 s in
    rw (mark, read) refl

-- a bidder is read
seen_at-seen : (bytes : List ℕ) (server : Point) (grid : Grid) (seen : Seen) (at : ℕ) →
    grid.prices ≤ MOST_PRICES →
    FitsSeen server grid seen →
    StandsAt bytes at (seen_bytes seen) →
    seen_at bytes server grid.prices at ≡ Ok (seen, at + length (seen_bytes seen))
unfolding seen_at
seen_at-seen bytes server grid seen at small fits s =
    let points = numbers_bytes seen.points in
    let own = own_bytes seen.own in
    let mark = number_first bytes 0 3 at (mark_of seen.known) (points ++ own) (omega arith) (mark_of-small seen.known)
    (omega (arith, mark_of-small seen.known)) s in
    let after = StandsAt-right bytes at (number_bytes (mark_of seen.known)) (points ++ own) s in
    let read_points = subst (λ n. times n (point_at bytes) (at + 8) ≡ Ok (seen.points, at + 8 + length points)) fits.at_server.points
    (times-parts bytes (point_at bytes) number_bytes IsElement seen.points (at + 8)
    (point_at-point bytes) fits.numbers.points (StandsAt-left bytes (at + 8) points own after)) in
    let read_own = own_where_known-own bytes server grid (at + 8 + length points) seen.known seen.points seen.own small
    fits (StandsAt-right bytes (at + 8) points own after) in
    let place : at + 8 + length points + length own ≡ at + length (seen_bytes seen) =
    omega (arith, length-append points own, length-append (number_bytes (mark_of seen.known)) (points ++ own)) in
    let made : Option Point → Seen = λ known. record { known = known; points = seen.points; own = seen.own } in
    rw (mark, read_points, read_own) (rw place (ap (λ known. Ok (made known, at + length (seen_bytes seen))) (known_of-mark seen.known)))

-- the server is the one whose number was written
server_at-server : (bytes : List ℕ) (server : Point) (at : ℕ) (rest : List ℕ) →
    StandsAt bytes at (number_bytes (number_of server) ++ rest) →
    server_at bytes at ≡ Ok (server, at + 8)
unfolding server_at
server_at-server bytes One at rest s = rw (number_first bytes 1 3 at 1 rest (omega arith) (omega arith) (omega arith) s) refl
server_at-server bytes Two at rest s = rw (number_first bytes 1 3 at 2 rest (omega arith) (omega arith) (omega arith) s) refl
server_at-server bytes Three at rest s = rw (number_first bytes 1 3 at 3 rest (omega arith) (omega arith) (omega arith) s) refl

-- the kind of gates is the one whose number was written
pub gates_of-number : (gates : Gates) → gates_of (number_of_gates gates) ≡ gates
gates_of-number Chain = refl
gates_of-number Tree = refl

number_of_gates-small : (gates : Gates) → number_of_gates gates ≤ 1
number_of_gates-small Chain = omega arith
number_of_gates-small Tree = omega arith

-- a policy is read, where it is told
policy_at-policy : (bytes : List ℕ) (policy : Policy) (at : ℕ) →
    StandsAt bytes at (numbers_bytes (policy_field policy)) →
    policy_at bytes (tells_policy policy) at ≡ Ok (policy, at + length (numbers_bytes (policy_field policy)))
unfolding policy_at
policy_at-policy bytes Price at s = rw (number_first bytes 0 2 at 0 [] (omega arith) (omega arith) (omega arith) s) refl
policy_at-policy bytes Volume at s =
    let place : at ≡ at + 0 = omega arith in
    ap (λ n. Ok (Volume, n)) place
policy_at-policy bytes Full at s = rw (number_first bytes 0 2 at 2 [] (omega arith) (omega arith) (omega arith) s) refl

-- a grid is read after the server
grid_at-grid : (bytes : List ℕ) (grid : Grid) → IsGrid grid → StandsAt bytes 16 (grid_bytes grid) →
    grid_at bytes (tells_policy grid.policy) 16 ≡ Ok (grid, 16 + length (grid_bytes grid))
grid_at-grid bytes grid is s =
    let base = number_bytes grid.base in
    let tick = number_bytes grid.tick in
    let prices = number_bytes grid.prices in
    let gates = number_bytes (number_of_gates grid.gates) in
    let policy = numbers_bytes (policy_field grid.policy) in
    let at_tick = StandsAt-right bytes 16 base (tick ++ (prices ++ (gates ++ policy))) s in
    let at_prices = StandsAt-right bytes 24 tick (prices ++ (gates ++ policy)) at_tick in
    let at_gates = StandsAt-right bytes 32 prices (gates ++ policy) at_prices in
    let at_policy = StandsAt-right bytes 40 gates policy at_gates in
    let small = number_of_gates-small grid.gates in
    let place : 48 + length policy ≡ 16 + length (grid_bytes grid) = omega arith in
    let made : Gates → Grid =
    λ kind. record { base = grid.base; tick = grid.tick; prices = grid.prices; gates = kind; policy = grid.policy } in
    grid_at-numbers bytes (tells_policy grid.policy) 16 grid.base grid.tick grid.prices (number_of_gates grid.gates) 24 32 40 48
    (number_first bytes 0 LARGEST_BASE 16 grid.base (tick ++ (prices ++ (gates ++ policy))) (omega arith) is.base_limit
    (omega (arith, is.base_limit)) s)
    (number_first bytes 1 LARGEST_TICK 24 grid.tick (prices ++ (gates ++ policy)) is.tick_some is.tick_limit
    (omega (arith, is.tick_limit)) at_tick)
    (number_first bytes 1 MOST_PRICES 32 grid.prices (gates ++ policy) is.prices_some is.prices_limit
    (omega (arith, is.prices_limit)) at_prices)
    (number_first bytes 0 1 40 (number_of_gates grid.gates) policy (omega arith) small (omega (arith, small)) at_gates)
    ∙ rw (policy_at-policy bytes grid.policy 48 at_policy)
    (rw place (ap (λ kind. Ok (made kind, 16 + length (grid_bytes grid))) (gates_of-number grid.gates)))

-- a transcript tells the policy as the text does that it begins with
form_in-magic : (tells : Bool) (rest : List ℕ) → form_in (magic tells ++ rest) ≡ Ok (tells, 8)
form_in-magic true rest = refl
form_in-magic false rest = refl

length-magic : (tells : Bool) → length (magic tells) ≡ 8
length-magic true = refl
length-magic false = refl

-- a view whose parts are read one after another up to its end
view_in-parts : (file : List ℕ) (view : Viewed) (tells : Bool) (grid bidders masks coefficients rounds : ℕ) →
    form_in file ≡ Ok (tells, 8) →
    server_at file 8 ≡ Ok (view.server, 16) →
    grid_at file tells 16 ≡ Ok (view.grid, grid) →
    counted_at file (from_to 0 (most_bidders view.grid.prices)) (seen_at file view.server view.grid.prices) grid
    ≡ Ok (view.bidders, bidders) →
    words_at file (masks_kept view.grid) bidders ≡ Ok (view.masks, masks) →
    words_at file (coefficients_kept view.grid) masks ≡ Ok (view.coefficients, coefficients) →
    counted_at file (from_to 0 MOST_ROUNDS) (round_at file) coefficients ≡ Ok (view.rounds, rounds) →
    ended file TRAILING rounds ≡ Ok tt →
    view_in file ≡ Ok view
unfolding view_in
view_in-parts file view tells grid bidders masks coefficients rounds a b c d e f g h = rw (a, b, c, d, e, f, g, h) refl

-- the bidders may stand in a transcript
bidders_fit : (view : Viewed) → IsView view → FitsFile view → AreNumbers view → All (FitsSeen view.server view.grid) view.bidders
bidders_fit view is fits are k d h = record { at_server = is.seen k d h; words = fits.words k d h; numbers = are.bidders k d h }

-- the rounds may stand in a transcript
rounds_fit : (view : Viewed) → FitsFile view → AreNumbers view → All FitsRound view.rounds
rounds_fit view fits are k d h = record { lower = (fits.messages k d h).0; higher = (fits.messages k d h).1; elements = are.rounds k d h }

-- the bytes of a view are read as the view
pub view_in-view : (view : Viewed) → IsView view → FitsFile view → AreNumbers view → view_in (view_bytes view) ≡ Ok view
view_in-view view is fits are =
    let file = view_bytes view in
    let tells = tells_policy view.grid.policy in
    let prices = view.grid.prices in
    let server = number_bytes (number_of view.server) in
    let grid = grid_bytes view.grid in
    let bidders = counted_bytes seen_bytes view.bidders in
    let masks = counted_bytes number_bytes view.masks in
    let coefficients = counted_bytes number_bytes view.coefficients in
    let rounds = counted_bytes round_bytes view.rounds in
    let after_masks = coefficients ++ rounds in
    let after_bidders = masks ++ after_masks in
    let after_grid = bidders ++ after_bidders in
    let after_server = grid ++ after_grid in
    let place_bidders = 16 + length grid in
    let place_masks = place_bidders + length bidders in
    let place_coefficients = place_masks + length masks in
    let place_rounds = place_coefficients + length coefficients in
    let at_magic : StandsAt file 0 file = record { front = []; rest = []; whole = sym (append-nil file); place = refl } in
    let start : 0 + length (magic tells) ≡ 8 = omega (arith, length-magic tells) in
    let at_server = subst (λ n. StandsAt file n (server ++ after_server)) start
    (StandsAt-right file 0 (magic tells) (server ++ after_server) at_magic) in
    let at_grid = StandsAt-right file 8 server after_server at_server in
    let at_bidders = StandsAt-right file 16 grid after_grid at_grid in
    let at_masks = StandsAt-right file place_bidders bidders after_bidders at_bidders in
    let at_coefficients = StandsAt-right file place_masks masks after_masks at_masks in
    let at_rounds = StandsAt-right file place_coefficients coefficients rounds at_coefficients in
    let comparisons = few_comparisons prices are.grid.prices_limit in
    let many : length view.bidders ≤ MOST_PRODUCT / prices =
    (le-div_iff_mul-le {k = prices} {x = length view.bidders} {y = MOST_PRODUCT}
    (omega (arith, are.grid.prices_some))).1 fits.product in
    let read_bidders = counted_at-parts file 0 (most_bidders prices) (seen_at file view.server prices) seen_bytes
    (FitsSeen view.server view.grid) view.bidders place_bidders
    (omega arith) (omega (arith, many, is.few)) (omega (arith, is.few))
    (λ seen offset can stands. seen_at-seen file view.server view.grid seen offset are.grid.prices_limit can stands)
    (bidders_fit view is fits are) (StandsAt-left file place_bidders bidders after_bidders at_bidders) in
    let read_masks = words_at-words file view.masks (masks_kept view.grid) place_masks fits.masks
    (omega (arith, fits.masks, comparisons)) are.masks
    (StandsAt-left file place_masks masks after_masks at_masks) in
    let read_coefficients = words_at-words file view.coefficients (coefficients_kept view.grid) place_coefficients
    fits.coefficients (omega (arith, fits.coefficients, comparisons)) are.coefficients
    (StandsAt-left file place_coefficients coefficients rounds at_coefficients) in
    let read_rounds = counted_at-parts file 0 MOST_ROUNDS (round_at file) round_bytes FitsRound view.rounds place_rounds
    (omega arith) fits.rounds (omega (arith, fits.rounds)) (λ round offset can stands. round_at-round file round offset can stands)
    (rounds_fit view fits are) at_rounds in
    let all : length file ≡ place_rounds + length rounds =
    omega (
      arith,
      length-magic tells,
      length-append (magic tells) (server ++ after_server),
      length-append grid after_grid,
      length-append bidders after_bidders,
      length-append masks after_masks,
      length-append coefficients rounds,
    ) in
    let end : ended file TRAILING (place_rounds + length rounds) ≡ Ok tt =
    rw (le-ltb (place_rounds + length rounds) (length file) (omega arith)) refl in
    view_in-parts file view tells place_bidders place_masks place_coefficients place_rounds (place_rounds + length rounds)
    (form_in-magic tells (server ++ after_server)) (server_at-server file view.server 8 after_server at_server)
    (grid_at-grid file view.grid are.grid (StandsAt-left file 16 grid after_grid at_grid))
    read_bidders read_masks read_coefficients read_rounds end
