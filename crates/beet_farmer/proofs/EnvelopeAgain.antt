-- An envelope that was written is read again.
use Rattle.std.proofs.Common.{◌≡◌, ◌≤◌, ℕ, ◌+◌, ◌*◌, List, [], ◌∷◌, ◌++◌, length, All, Ok, refl, sym, subst, arith}
use Rattle.std.specs.List.{flat_map}
use Rattle.std.proofs.lemmas.Bool.{le-ltb}
use Rattle.std.proofs.lemmas.List.{append-nil, length-append}
use Rattle.beet_field.specs.Field.{IsElement}
use Rattle.beet_field.specs.Point.{number_of}
use Rattle.beet_field.specs.declared.point.Point.{Point}
use Rattle.beet_field.specs.declared.point.Point.TheVariants.{One, Two, Three}
use Rattle.beet_words.specs.Fields.{number_bytes, number_at, times, after_magic, ended}
use Rattle.beet_words.proofs.FieldsAgain.{StandsAt, StandsAt-left, StandsAt-right, length-numbers, number_at-number, times-parts}
use Rattle.beet_bids.specs.declared.grid.TheConstants.{LARGEST_BASE}
use Rattle.beet_bids.specs.Grids.{Grid, IsGrid}
use Rattle.beet_words.specs.declared.bundle.TheConstants.{BAD_MAGIC}
use Rattle.beet_farmer.specs.declared.envelope.TheConstants.{WRONG_GRID, AFTER_POINTS, WRONG_SERVER}
use Rattle.beet_farmer.specs.declared.envelope.Envelope.{Envelope}
use Rattle.beet_farmer.specs.Envelopes.{magic, only, below_p, point_at, after_header, envelope_of, header_bytes, envelope_bytes}

-- points one after another are read
points_at-points : (bytes points : List ℕ) (at : ℕ) →
    All IsElement points →
    StandsAt bytes at (flat_map number_bytes points) →
    times (length points) (point_at bytes) at ≡ Ok (points, at + length (flat_map number_bytes points))
points_at-points bytes points at below s =
    let each : (point offset : ℕ) → IsElement point → StandsAt bytes offset (number_bytes point) →
    point_at bytes offset ≡ Ok (point, offset + length (number_bytes point)) =
    λ point offset small stands. number_at-number bytes below_p offset point (omega arith) (omega arith) (omega arith) stands in
    times-parts bytes (point_at bytes) number_bytes IsElement points at each below s

-- a number is read where it is the one that is allowed
only-number : (bytes : List ℕ) (at number reason : ℕ) → number ≤ LARGEST_BASE → StandsAt bytes at (number_bytes number) →
    number_at bytes (only number reason) at ≡ Ok (number, at + 8)
only-number bytes at number reason small s =
    number_at-number bytes (only number reason) at number (omega arith) (omega arith) (omega arith) s

small-point : (server : Point) → number_of server ≤ LARGEST_BASE
small-point One = omega arith
small-point Two = omega arith
small-point Three = omega arith

-- a header whose fields are read one after another
after_header-parts : (grid : Grid) (server : Point) (file : List ℕ) →
    after_magic file magic BAD_MAGIC ≡ Ok 8 →
    number_at file (only (number_of server) WRONG_SERVER) 8 ≡ Ok (number_of server, 16) →
    number_at file (only grid.base WRONG_GRID) 16 ≡ Ok (grid.base, 24) →
    number_at file (only grid.tick WRONG_GRID) 24 ≡ Ok (grid.tick, 32) →
    number_at file (only grid.prices WRONG_GRID) 32 ≡ Ok (grid.prices, 40) →
    after_header grid server file ≡ Ok 40
unfolding after_header
after_header-parts grid server file a b c d e = rw (a, b, c, d, e) refl

-- an envelope whose parts are read one after another up to its end
envelope_of-parts : (grid : Grid) (server : Point) (file points : List ℕ) (at : ℕ) →
    after_header grid server file ≡ Ok 40 →
    times (2 * grid.prices) (point_at file) 40 ≡ Ok (points, at) →
    ended file AFTER_POINTS at ≡ Ok tt →
    envelope_of grid server file ≡ Ok (record { server = server; points = points })
unfolding envelope_of
envelope_of-parts grid server file points at a b c = rw (a, b, c) refl

-- the header is read
after_header-bytes : (grid : Grid) (server : Point) (rest : List ℕ) → IsGrid grid →
    after_header grid server (header_bytes grid server ++ rest) ≡ Ok 40
after_header-bytes grid server rest limits =
    let file = header_bytes grid server ++ rest in
    let prices = number_bytes grid.prices in
    let after_base = number_bytes grid.tick ++ prices in
    let after_server = number_bytes grid.base ++ after_base in
    let after_start = number_bytes (number_of server) ++ after_server in
    let at_start : StandsAt file 0 (header_bytes grid server) = record { front = []; rest = rest; whole = refl; place = refl } in
    let at_server = StandsAt-right file 0 magic after_start at_start in
    let at_base = StandsAt-right file 8 (number_bytes (number_of server)) after_server at_server in
    let at_tick = StandsAt-right file 16 (number_bytes grid.base) after_base at_base in
    let at_prices = StandsAt-right file 24 (number_bytes grid.tick) prices at_tick in
    after_header-parts grid server file refl
    (only-number file 8 (number_of server) WRONG_SERVER (small-point server)
    (StandsAt-left file 8 (number_bytes (number_of server)) after_server at_server))
    (only-number file 16 grid.base WRONG_GRID limits.base_limit (StandsAt-left file 16 (number_bytes grid.base) after_base at_base))
    (only-number file 24 grid.tick WRONG_GRID (omega (arith, limits.tick_limit))
    (StandsAt-left file 24 (number_bytes grid.tick) prices at_tick))
    (only-number file 32 grid.prices WRONG_GRID (omega (arith, limits.prices_limit)) at_prices)

-- the bytes of an envelope are read as the envelope
pub envelope_of-bytes : (grid : Grid) (envelope : Envelope) → IsGrid grid → length envelope.points ≡ 2 * grid.prices →
    All IsElement envelope.points →
    envelope_of grid envelope.server (envelope_bytes grid envelope) ≡ Ok envelope
envelope_of-bytes grid envelope limits long below =
    let header = header_bytes grid envelope.server in
    let points = flat_map number_bytes envelope.points in
    let file = header ++ points in
    let at_start : StandsAt file 0 file = record { front = []; rest = []; whole = sym (append-nil file); place = refl } in
    let at_points = StandsAt-right file 0 header points at_start in
    let read : times (2 * grid.prices) (point_at file) 40 ≡ Ok (envelope.points, 40 + length points) =
    subst (λ n. times n (point_at file) 40 ≡ Ok (envelope.points, 40 + length points)) long
    (points_at-points file envelope.points 40 below at_points) in
    let all : length file ≡ 40 + length points = length-append header points in
    let end : ended file AFTER_POINTS (40 + length points) ≡ Ok tt = rw (le-ltb (40 + length points) (length file) (omega arith)) refl in
    envelope_of-parts grid envelope.server file envelope.points (40 + length points)
    (after_header-bytes grid envelope.server points limits) read end

-- the bytes of an envelope are those before the points and sixteen for each price
pub envelope-size : (grid : Grid) (envelope : Envelope) → length envelope.points ≡ 2 * grid.prices →
    length (envelope_bytes grid envelope) ≡ 40 + 16 * grid.prices
envelope-size grid envelope long =
    omega (
      arith,
      length-append (header_bytes grid envelope.server) (flat_map number_bytes envelope.points),
      length-numbers envelope.points,
      long,
    )
