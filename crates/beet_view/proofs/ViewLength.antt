-- The transcript of a view within the limits is not longer than a reader takes.
use Rattle.std.proofs.Common.{◌≡◌, ℕ, ◌+◌, ◌*◌, ◌≤◌, List, [], ◌∷◌, ◌++◌, length, All, Option, None, Some, IfSome, arith, option_map}
use Rattle.std.specs.List.{flat_map}
use Rattle.std.proofs.lemmas.List.{length-append}
use Rattle.std.proofs.lemmas.List.Elements.{All-head, All-tail}
use Rattle.beet_field.specs.Point.{number_of}
use Rattle.beet_field.specs.declared.point.Point.{Point}
use Rattle.beet_forms.specs.declared.faults.TheConstants.{LONGEST_FILE}
use Rattle.beet_words.specs.Fields.{number_bytes}
use Rattle.beet_words.proofs.FieldsAgain.{length-numbers}
use Rattle.beet_bids.specs.Grids.{Grid, IsGrid}
use Rattle.beet_bids.proofs.GridFacts.{few_comparisons}
use Rattle.beet_bids.specs.Curves.{Curve}
use Rattle.beet_bids.specs.declared.outcomes.Policy.{Policy}
use Rattle.beet_bids.specs.declared.outcomes.Policy.TheVariants.{Price, Volume, Full}
use Rattle.beet_view.specs.Views.{Viewed, IsSeenAt, IsView}
use Rattle.beet_plan.specs.Kept.{words_kept}
use Rattle.beet_view.specs.Transcripts.{tells_policy, magic, mark_of, policy_field, numbers_bytes, counted_bytes}
use Rattle.beet_view.specs.Transcripts.{grid_bytes, own_bytes, seen_bytes, round_bytes, view_bytes, IsMessage, FitsFile}

-- texts that are at most so long, one after another
texts-short : {A : Type 0} (text : A → List ℕ) (most : ℕ) (xs : List A) → All (λ x. length (text x) ≤ most) xs →
    length (flat_map text xs) ≤ length xs * most
texts-short text most [] all = omega arith
texts-short text most (x ∷ xs) all =
    let first = All-head (λ y. length (text y) ≤ most) x xs all in
    let others = texts-short text most xs (All-tail (λ y. length (text y) ≤ most) x xs all) in
    omega (arith, first, others, length-append (text x) (flat_map text xs))

counted-long : (numbers : List ℕ) → length (counted_bytes number_bytes numbers) ≡ 8 + 8 * length numbers
counted-long numbers =
    omega (arith, length-numbers numbers, length-append (number_bytes (length numbers)) (numbers_bytes numbers))

-- a message has few numbers
round-short : (round : List ℕ × List ℕ) → IsMessage round.0 × IsMessage round.1 → length (round_bytes round) ≤ 1040
round-short round are =
    omega (
      arith,
      are.0.1,
      are.1.1,
      counted-long round.0,
      counted-long round.1,
      length-append (counted_bytes number_bytes round.0) (counted_bytes number_bytes round.1),
    )

-- how many numbers stand for the curve and the words of a bidder
abbrev pub own-numbers : ℕ → Option (List ℕ) → ℕ
own-numbers prices None = 0
own-numbers prices (Some words) = 2 * prices + 1 + length words

own-long : (prices : ℕ) (own : Curve × List ℕ) → length own.0.buy ≡ prices → length own.0.sell ≡ prices →
    length (own_bytes (Some own)) ≡ 8 * own-numbers prices (Some own.1)
own-long prices own buys sells =
    let a = numbers_bytes own.0.buy in
    let b = numbers_bytes own.0.sell in
    let c = counted_bytes number_bytes own.1 in
    omega (
      arith,
      buys,
      sells,
      length-numbers own.0.buy,
      length-numbers own.0.sell,
      counted-long own.1,
      length-append a (b ++ c),
      length-append b c,
    )

-- a bidder whose parts are as many as the prices tell
pub seen-long : (server : Point) (grid : Grid) (known : Option Point) (points : List ℕ) (own : Option (Curve × List ℕ)) →
    IsSeenAt server grid (record { known = known; points = points; own = own }) →
    length (seen_bytes (record { known = known; points = points; own = own }))
    ≡ 8 * (1 + 2 * grid.prices + own-numbers grid.prices (option_map (λ kept. kept.1) own))
seen-long server grid known points None is =
    omega (
      arith,
      is.points,
      length-numbers points,
      length-append (number_bytes (mark_of known)) (numbers_bytes points ++ []),
      length-append (numbers_bytes points) [],
    )
seen-long server grid known points (Some own) is =
    let kept = own-long grid.prices own is.own.1.buy_length is.own.1.sell_length in
    let a = numbers_bytes points in
    let b = own_bytes (Some own) in
    omega (
      arith,
      is.points,
      kept,
      length-numbers points,
      length-append (number_bytes (mark_of known)) (a ++ b),
      length-append a b,
    )

own-short : (prices : ℕ) (own : Option (Curve × List ℕ)) → IfSome own (λ kept. length kept.1 ≤ words_kept prices) →
    own-numbers prices (option_map (λ kept. kept.1) own) ≤ 9 + 4 * prices
own-short prices None few = omega arith
own-short prices (Some own) few = omega (arith, few)

seen-short : (server : Point) (grid : Grid) (known : Option Point) (points : List ℕ) (own : Option (Curve × List ℕ)) →
    IsSeenAt server grid (record { known = known; points = points; own = own }) →
    IfSome own (λ kept. length kept.1 ≤ words_kept grid.prices) →
    length (seen_bytes (record { known = known; points = points; own = own })) ≤ 80 + 48 * grid.prices
seen-short server grid known points own is few =
    omega (arith, seen-long server grid known points own is, own-short grid.prices own few)

-- all bidders, of which there are no more than the prices allow
bidders-short : (view : Viewed) → IsView view → FitsFile view → length (flat_map seen_bytes view.bidders) ≤ 24160000
bidders-short view is fits =
    let prices = view.grid.prices in
    let each : All (λ seen. length (seen_bytes seen) ≤ 80 + 48 * prices) view.bidders =
    λ k d lt. seen-short view.server view.grid _ _ _ (is.seen k d lt) (fits.words k d lt) in
    let all = texts-short seen_bytes (80 + 48 * prices) view.bidders each in
    omega (arith, all, is.few, fits.product)

rounds-short : (view : Viewed) → FitsFile view → length (flat_map round_bytes view.rounds) ≤ 4259840
rounds-short view fits =
    let all = texts-short round_bytes 1040 view.rounds (λ k d lt. round-short _ (fits.messages k d lt)) in
    omega (arith, all, fits.rounds)

-- the text at the start, and the number of the policy where it is told
policy-short : (policy : Policy) → length (magic (tells_policy policy)) + length (numbers_bytes (policy_field policy)) ≤ 16
policy-short Price = omega arith
policy-short Volume = omega arith
policy-short Full = omega arith

-- the whole transcript
pub view_bytes-short : (view : Viewed) → IsGrid view.grid → IsView view → FitsFile view → length (view_bytes view) ≤ LONGEST_FILE
view_bytes-short view grid is fits =
    let a = counted_bytes seen_bytes view.bidders in
    let b = counted_bytes number_bytes view.masks in
    let c = counted_bytes number_bytes view.coefficients in
    let d = counted_bytes round_bytes view.rounds in
    let comparisons = few_comparisons view.grid.prices grid.prices_limit in
    let bidders : length a ≤ 24160008 = omega (
      arith,
      bidders-short view is fits,
      length-append (number_bytes (length view.bidders)) (flat_map seen_bytes view.bidders),
    ) in
    let masks : length b ≤ 128 = omega (arith, counted-long view.masks, fits.masks, comparisons) in
    let coefficients : length c ≤ 61512 = omega (arith, counted-long view.coefficients, fits.coefficients, comparisons) in
    let rounds : length d ≤ 4259848 = omega (
      arith,
      rounds-short view fits,
      length-append (number_bytes (length view.rounds)) (flat_map round_bytes view.rounds),
    ) in
    let start = magic (tells_policy view.grid.policy) in
    let policy = numbers_bytes (policy_field view.grid.policy) in
    let rest = a ++ (b ++ (c ++ d)) in
    let front : length (view_bytes view) ≤ 56 + length rest =
    omega (
      arith,
      policy-short view.grid.policy,
      length-append start (number_bytes (number_of view.server) ++ (grid_bytes view.grid ++ rest)),
      length-append policy rest,
    ) in
    omega (arith, front, bidders, masks, coefficients, rounds, length-append a (b ++ (c ++ d)), length-append b (c ++ d), length-append c d)
