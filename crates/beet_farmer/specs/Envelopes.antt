-- The file of an envelope: its server, the grid, and the points, buy at each place and then sell.
use Rattle.std.specs.Prelude.{ℕ, ◌*◌, ◌-◌, ◌++◌, List, codes, Ok}
use Rattle.std.specs.List.{flat_map}
use Rattle.beet_field.specs.Field.{p}
use Rattle.beet_field.specs.Point.{number_of}
use Rattle.beet_field.specs.declared.point.Point.{Point}
use Rattle.beet_forms.specs.Faults.{Reading}
use Rattle.beet_words.specs.declared.fields.Allowed.{Allowed}
use Rattle.beet_words.specs.Fields.{Part, number_bytes, number_at, times, after_magic, ended, ◌>>=◌}
use Rattle.beet_bids.specs.Grids.{Grid}
use Rattle.beet_words.specs.declared.bundle.TheConstants.{BAD_MAGIC}
use Rattle.beet_farmer.specs.declared.envelope.TheConstants.{WRONG_GRID, TRUNCATED_ENVELOPE, BAD_POINT, AFTER_POINTS}
use Rattle.beet_farmer.specs.declared.envelope.TheConstants.{WRONG_SERVER}
use Rattle.beet_farmer.specs.declared.envelope.Envelope.{Envelope}

-- the text that an envelope begins with
abbrev pub magic : List ℕ
magic = codes "BEETENV1"

-- the one number that a field may hold, and the reason against another one
abbrev pub only : ℕ → ℕ → Allowed
only number reason = record { low = number; high = number; truncated = TRUNCATED_ENVELOPE; outside = reason }

-- the numbers of the field, and the reason against another one
abbrev pub below_p : Allowed
below_p = record { low = 0; high = p - 1; truncated = TRUNCATED_ENVELOPE; outside = BAD_POINT }

abbrev pub point_at : List ℕ → Part ℕ
point_at bytes = number_at bytes below_p

-- the offset after the fields that stand before the points: the server, and the base, the tick and the number of prices
-- of the grid
unfoldable pub after_header : Grid → Point → List ℕ → Reading ℕ
after_header grid server bytes = do
  start ← after_magic bytes magic BAD_MAGIC
  named ← number_at bytes (only (number_of server) WRONG_SERVER) start
  base ← number_at bytes (only grid.base WRONG_GRID) named.1
  tick ← number_at bytes (only grid.tick WRONG_GRID) base.1
  prices ← number_at bytes (only grid.prices WRONG_GRID) tick.1
  Ok prices.1

-- what an envelope reads as, if this server and this grid are expected
unfoldable pub envelope_of : Grid → Point → List ℕ → Reading Envelope
envelope_of grid server bytes = do
  start ← after_header grid server bytes
  points ← times (2 * grid.prices) (point_at bytes) start
  done ← ended bytes AFTER_POINTS points.1
  Ok (record { server = server; points = points.0 })

-- the bytes before the points
abbrev pub header_bytes : Grid → Point → List ℕ
header_bytes grid server =
    magic ++ (number_bytes (number_of server)
    ++ (number_bytes grid.base
    ++ (number_bytes grid.tick
    ++ number_bytes grid.prices)))

abbrev pub envelope_bytes : Grid → Envelope → List ℕ
envelope_bytes grid envelope = header_bytes grid envelope.server ++ flat_map number_bytes envelope.points
