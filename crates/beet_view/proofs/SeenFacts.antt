-- What a bidder, a round and a whole view that were read are known to be.
use Rattle.std.proofs.Common.{◌≡◌, ◌≢◌, ℕ, zero, suc, ◌*◌, ◌≤◌, Bool, true, false, if◌then◌else◌, eqb, List, length}
use Rattle.std.proofs.Common.{All, Option, None, Some, MatchOption, IfSome, Ok, refl, sym, ap, ◌∙◌, arith}
use Rattle.std.proofs.Math.Nat.{le-div_iff_mul-le}
use Rattle.std.proofs.lemmas.Bool.{eqb-true, eqb-false}
use Rattle.beet_field.specs.Point.{number_of}
use Rattle.beet_field.specs.declared.point.Point.{Point}
use Rattle.beet_field.specs.declared.point.Point.TheVariants.{One, Two, Three}
use Rattle.beet_field.specs.declared.TheConstants.{MOST_NUMBERS}
use Rattle.beet_words.specs.Bundles.{up_to, word_at, words_at}
use Rattle.beet_words.specs.Fields.{◌>>=◌, number_at, times, counted_at, ended}
use Rattle.beet_bids.specs.Grids.{Grid}
use Rattle.beet_bids.specs.Curves.{Curve}
use Rattle.beet_words.specs.declared.bundle.TheConstants.{MOST_BIDDERS, TRAILING}
use Rattle.beet_bids.specs.declared.grid.TheConstants.{LARGEST_BASE, LARGEST_TICK, MOST_PRICES}
use Rattle.beet_book.specs.declared.book_file.TheConstants.{MOST_PRODUCT}
use Rattle.beet_view.specs.declared.reading.TheConstants.{MOST_ROUNDS}
use Rattle.beet_view.specs.declared.quantities.Course.TheVariants.{Falling, Rising}
use Rattle.beet_view.specs.declared.view.Seen.{Seen}
use Rattle.beet_view.specs.Views.{Viewed, IsSeenAt}
use Rattle.beet_plan.specs.Kept.{words_kept, masks_kept, coefficients_kept}
use Rattle.beet_view.specs.Transcripts.{from_to, most_bidders, mark_of, known_of, gates_of, form_in, server_at}
use Rattle.beet_view.specs.Transcripts.{policy_at, grid_at, start_of, point_at, quantities_at, own_at, own_where_known}
use Rattle.beet_view.specs.Transcripts.{seen_at, message_at, round_at, view_in, IsMessage, FitsFile}
use Rattle.beet_view.proofs.ReadFacts.{steps_of, value_has, number_at-within, times-all, counted_at-all, quantities_at-are}

-- a list of any numbers was read
any : ℕ → Type 0
any n = Unit {0}

-- words were read, at most so many
pub words_at-few : (bytes : List ℕ) (most at : ℕ) (read : List ℕ × ℕ) → words_at bytes most at ≡ Ok read → length read.0 ≤ most
unfolding any
words_at-few bytes most at read e = (counted_at-all bytes (up_to most) (word_at bytes) any at read (λ offset one is. tt) e).high

-- a message was read
pub message_at-is : (bytes : List ℕ) (at : ℕ) (read : List ℕ × ℕ) → message_at bytes at ≡ Ok read → IsMessage read.0
unfolding any
message_at-is bytes at read e =
    let are = counted_at-all bytes (from_to 1 MOST_NUMBERS) (point_at bytes) any at read (λ offset one is. tt) e in
    (are.low, are.high)

-- both messages of a round
pub AreMessages : List ℕ × List ℕ → Type 0
AreMessages round = IsMessage round.0 × IsMessage round.1

pub round_at-are : (bytes : List ℕ) (at : ℕ) (read : (List ℕ × List ℕ) × ℕ) → round_at bytes at ≡ Ok read → AreMessages read.0
unfolding round_at AreMessages
round_at-are bytes at read e =
    let lower = steps_of (message_at bytes at)
    (λ lower. message_at bytes lower.1 >>= λ higher. Ok ((lower.0, higher.0), higher.1)) read e in
    let higher = steps_of (message_at bytes lower.between.1) (λ higher. Ok ((lower.between.0, higher.0), higher.1)) read lower.two in
    value_has (λ (r : (List ℕ × List ℕ) × ℕ). IsMessage r.0.0 × IsMessage r.0.1)
    ((lower.between.0, higher.between.0), higher.between.1) read higher.two
    (message_at-is bytes at lower.between lower.one, message_at-is bytes lower.between.1 higher.between higher.one)

-- the curve and the words of a known bidder
pub record IsKept (prices : ℕ) (own : Curve × List ℕ) : Type 0 where
  pub buy : length own.0.buy ≡ prices
  pub sell : length own.0.sell ≡ prices
  pub words : length own.1 ≤ words_kept prices

own_at-is : (bytes : List ℕ) (prices at : ℕ) (read : (Curve × List ℕ) × ℕ) → own_at bytes prices at ≡ Ok read → IsKept prices read.0
unfolding own_at
own_at-is bytes prices at read e =
    let curve : List ℕ → List ℕ → Curve = λ buy sell. record { buy = buy; sell = sell } in
    let buy = steps_of (quantities_at bytes Falling prices (start_of Falling) at) (λ buy. quantities_at bytes Rising
    prices (start_of Rising) buy.1 >>= λ sell. words_at bytes (words_kept prices) sell.1 >>= λ words. Ok (
      (record { buy = buy.0; sell = sell.0 }, words.0),
      words.1,
    )) read e in
    let sell = steps_of (quantities_at bytes Rising prices (start_of Rising) buy.between.1)
    (λ sell. words_at bytes (words_kept prices) sell.1 >>= λ words. Ok (
      (record { buy = buy.between.0; sell = sell.0 }, words.0),
      words.1,
    )) read buy.two in
    let words = steps_of (words_at bytes (words_kept prices) sell.between.1)
    (λ words. Ok ((curve buy.between.0 sell.between.0, words.0), words.1)) read sell.two in
    value_has (λ (r : (Curve × List ℕ) × ℕ). IsKept prices r.0)
    ((curve buy.between.0 sell.between.0, words.between.0), words.between.1) read words.two
    (record {
      buy = (quantities_at-are bytes Falling prices (start_of Falling) at buy.between buy.one).many;
      sell = (quantities_at-are bytes Rising prices (start_of Rising) buy.between.1 sell.between sell.one).many;
      words = words_at-few bytes (words_kept prices) sell.between.1 words.between words.one;
    })

-- the mark that was read is the mark of the server that it names
pub mark_of-known : (mark : ℕ) → mark ≤ 3 → mark_of (known_of mark) ≡ mark
mark_of-known zero h = refl
mark_of-known (suc zero) h = refl
mark_of-known (suc (suc zero)) h = refl
mark_of-known (suc (suc (suc zero))) h = refl
mark_of-known (suc (suc (suc (suc n)))) h = absurd (omega arith)

-- the number of a server names it
pub known_of-number : (server : Point) → known_of (number_of server) ≡ Some server
known_of-number One = refl
known_of-number Two = refl
known_of-number Three = refl

-- what is kept of a bidder, exactly where the server knows it
pub record IsKeptWhere (server : Point) (prices : ℕ) (known : Option Point) (own : Option (Curve × List ℕ)) : Type 0 where
  pub held : MatchOption own (known ≢ Some server) (λ kept. (known ≡ Some server) × IsKept prices kept)

kept_where : (bytes : List ℕ) (server : Point) (prices mark at : ℕ) (read : Option (Curve × List ℕ) × ℕ) (same : Bool) →
    mark ≤ 3 →
    eqb mark (number_of server) ≡ same →
    (if same then (own_at bytes prices at >>= λ own. Ok (Some own.0, own.1)) else Ok (None, at)) ≡ Ok read →
    IsKeptWhere server prices (known_of mark) read.0
kept_where bytes server prices mark at read true small is e =
    let own = steps_of (own_at bytes prices at) (λ own. Ok (Some own.0, own.1)) read e in
    let known : known_of mark ≡ Some server = ap known_of (eqb-true mark (number_of server) is) ∙ known_of-number server in
    value_has (λ (r : Option (Curve × List ℕ) × ℕ). IsKeptWhere server prices (known_of mark) r.0)
    (Some own.between.0, own.between.1) read own.two
    (record { held = (known, own_at-is bytes prices at own.between own.one) })
kept_where bytes server prices mark at read false small is e =
    let unknown : known_of mark ≢ Some server =
    λ known. eqb-false mark (number_of server) is (sym (mark_of-known mark small) ∙ ap mark_of known) in
    value_has (λ (r : Option (Curve × List ℕ) × ℕ). IsKeptWhere server prices (known_of mark) r.0) (None, at) read e
    (record { held = unknown })

-- a bidder as a server of the grid sees it, with no more words than may stand in a transcript
pub record IsSeenWithin (server : Point) (grid : Grid) (seen : Seen) : Type 0 where
  pub at_server : IsSeenAt server grid seen
  pub words : IfSome seen.own (λ own. length own.1 ≤ words_kept grid.prices)

seen_within : (server : Point) (grid : Grid) (known : Option Point) (points : List ℕ) (own : Option (Curve × List ℕ)) →
    length points ≡ 2 * grid.prices →
    IsKeptWhere server grid.prices known own →
    IsSeenWithin server grid (record { known = known; points = points; own = own })
seen_within server grid known points None many kept =
    record { at_server = record { points = many; own = kept.held }; words = tt }
seen_within server grid known points (Some own) many kept =
    record {
      at_server = record { points = many; own = (kept.held.0, record { buy_length = kept.held.1.buy; sell_length = kept.held.1.sell }) };
      words = kept.held.1.words;
    }

pub seen_at-is : (bytes : List ℕ) (server : Point) (grid : Grid) (at : ℕ) (read : Seen × ℕ) →
    seen_at bytes server grid.prices at ≡ Ok read →
    IsSeenWithin server grid read.0
unfolding seen_at own_where_known any
seen_at-is bytes server grid at read e =
    let prices = grid.prices in
    let made : ℕ → List ℕ → Option (Curve × List ℕ) → Seen =
    λ mark points own. record { known = known_of mark; points = points; own = own } in
    let mark = steps_of (number_at bytes (from_to 0 3) at) (λ mark. times (2 * prices) (point_at bytes) mark.1 >>=
    λ points. own_where_known bytes server prices mark.0 points.1 >>= λ own. Ok (
      record { known = known_of mark.0; points = points.0; own = own.0 },
      own.1,
    )) read e in
    let points = steps_of (times (2 * prices) (point_at bytes) mark.between.1)
    (λ points. own_where_known bytes server prices mark.between.0 points.1 >>= λ own. Ok (
      record { known = known_of mark.between.0; points = points.0; own = own.0 },
      own.1,
    )) read mark.two in
    let own = steps_of (own_where_known bytes server prices mark.between.0 points.between.1)
    (λ own. Ok (made mark.between.0 points.between.0 own.0, own.1)) read points.two in
    let small = number_at-within bytes (from_to 0 3) at mark.between mark.one in
    let kept = kept_where bytes server prices mark.between.0 points.between.1 own.between
    (eqb mark.between.0 (number_of server)) small.1 refl own.one in
    let many = times-all (point_at bytes) any (2 * prices) mark.between.1 points.between (λ offset one is. tt) points.one in
    value_has (λ (r : Seen × ℕ). IsSeenWithin server grid r.0)
    (made mark.between.0 points.between.0 own.between.0, own.between.1) read own.two
    (seen_within server grid (known_of mark.between.0) points.between.0 own.between.0 many.many kept)

-- a grid whose numbers are read one after another, up to its policy
pub grid_at-numbers : (bytes : List ℕ) (tells : Bool) (at base tick prices gates a b c d : ℕ) →
    number_at bytes (from_to 0 LARGEST_BASE) at ≡ Ok (base, a) →
    number_at bytes (from_to 1 LARGEST_TICK) a ≡ Ok (tick, b) →
    number_at bytes (from_to 1 MOST_PRICES) b ≡ Ok (prices, c) →
    number_at bytes (from_to 0 1) c ≡ Ok (gates, d) →
    grid_at bytes tells at
    ≡ (policy_at bytes tells d >>= λ policy. Ok
    (record { base = base; tick = tick; prices = prices; gates = gates_of gates; policy = policy.0 }, policy.1))
unfolding grid_at
grid_at-numbers bytes tells at base tick prices gates a b c d e f g h = rw (e, f, g, h) refl

-- a transcript whose parts are read one after another, up to its bidders
pub view_in-bidders : (bytes : List ℕ) (tells : Bool) (server : Point) (grid : Grid) (bidders : List Seen) (a b c d : ℕ) →
    form_in bytes ≡ Ok (tells, a) →
    server_at bytes a ≡ Ok (server, b) →
    grid_at bytes tells b ≡ Ok (grid, c) →
    counted_at bytes (from_to 0 (most_bidders grid.prices)) (seen_at bytes server grid.prices) c ≡ Ok (bidders, d) →
    view_in bytes
    ≡ (words_at bytes (masks_kept grid) d >>= λ masks. words_at bytes (coefficients_kept grid) masks.1 >>= λ coefficients.
    counted_at bytes (from_to 0 MOST_ROUNDS) (round_at bytes) coefficients.1 >>= λ rounds.
    ended bytes TRAILING rounds.1 >>= λ done. Ok (record {
      server = server;
      grid = grid;
      bidders = bidders;
      masks = masks.0;
      coefficients = coefficients.0;
      rounds = rounds.0;
    }))
unfolding view_in
view_in-bidders bytes tells server grid bidders a b c d e f g h = rw (e, f, g, h) refl

-- bidders were read
pub record AreBidders (server : Point) (grid : Grid) (bidders : List Seen) : Type 0 where
  pub few : length bidders ≤ MOST_BIDDERS
  pub product : length bidders * grid.prices ≤ MOST_PRODUCT
  pub each : All (IsSeenWithin server grid) bidders

pub bidders_at-are : (bytes : List ℕ) (server : Point) (grid : Grid) (at : ℕ) (read : List Seen × ℕ) →
    1 ≤ grid.prices →
    counted_at bytes (from_to 0 (most_bidders grid.prices)) (seen_at bytes server grid.prices) at ≡ Ok read →
    AreBidders server grid read.0
bidders_at-are bytes server grid at read some e =
    let are = counted_at-all bytes (from_to 0 (most_bidders grid.prices)) (seen_at bytes server grid.prices)
    (IsSeenWithin server grid) at read (seen_at-is bytes server grid) e in
    record {
      few = omega (arith, are.high);
      product = (le-div_iff_mul-le {k = grid.prices} {x = length read.0} {y = MOST_PRODUCT} (omega arith)).0 (omega (arith, are.high));
      each = are.each;
    }

-- rounds were read
pub record AreRounds (rounds : List (List ℕ × List ℕ)) : Type 0 where
  pub few : length rounds ≤ MOST_ROUNDS
  pub each : All AreMessages rounds

pub rounds_at-are : (bytes : List ℕ) (at : ℕ) (read : List (List ℕ × List ℕ) × ℕ) →
    counted_at bytes (from_to 0 MOST_ROUNDS) (round_at bytes) at ≡ Ok read →
    AreRounds read.0
rounds_at-are bytes at read e =
    let are = counted_at-all bytes (from_to 0 MOST_ROUNDS) (round_at bytes) AreMessages at read (round_at-are bytes) e in
    record { few = are.high; each = are.each }

-- a view of these bidders and rounds, and of no longer tapes than may stand in a transcript
pub view_fits : (view : Viewed) →
    AreBidders view.server view.grid view.bidders →
    length view.masks ≤ masks_kept view.grid →
    length view.coefficients ≤ coefficients_kept view.grid →
    AreRounds view.rounds →
    FitsFile view
unfolding AreMessages
view_fits view bidders masks coefficients rounds = record {
  product = bidders.product;
  words = λ k d h. (bidders.each k d h).words;
  masks = masks;
  coefficients = coefficients;
  rounds = rounds.few;
  messages = rounds.each;
}
