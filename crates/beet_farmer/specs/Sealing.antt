-- The envelopes of a bidder for the three servers.
use Rattle.std.specs.Prelude.{◌≡◌, ℕ, List}
use Rattle.beet_field.specs.Trio.{member}
use Rattle.beet_field.specs.declared.point.Point.{Point}
use Rattle.beet_field.specs.declared.point.Point.TheVariants.{One, Two, Three}
use Rattle.beet_field.specs.declared.trio.Trio.{Trio}
use Rattle.beet_words.specs.Words.{accepted}
use Rattle.beet_bids.specs.Curves.{Curve}
use Rattle.beet_bids.specs.Grids.{Grid}
use Rattle.beet_book.specs.Dealing.{dealt_points}
use Rattle.beet_farmer.specs.Envelopes.{envelope_bytes}
use Rattle.beet_farmer.specs.declared.envelope.Envelope.{Envelope}

-- the points that the envelopes hold
abbrev pub points_in : Trio Envelope → Trio (List ℕ)
points_in envelopes = record { one = envelopes.one.points; two = envelopes.two.points; three = envelopes.three.points }

-- each envelope is for the server in whose place it stands
pub record AreAddressed (envelopes : Trio Envelope) : Type 0 where
  pub one : envelopes.one.server ≡ One
  pub two : envelopes.two.server ≡ Two
  pub three : envelopes.three.server ≡ Three

-- the envelope for a server: of each quantity the point of the line whose slope is the next accepted word
abbrev pub sealed_envelope : Curve → List ℕ → Point → Envelope
sealed_envelope curve words s = record { server = s; points = member (dealt_points curve (accepted words)) s }

-- its bytes
abbrev pub envelope_for : Grid → Curve → List ℕ → Point → List ℕ
envelope_for grid curve words s = envelope_bytes grid (sealed_envelope curve words s)
