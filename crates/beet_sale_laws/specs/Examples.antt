-- Three bids that no server knows, and three of which one is known.
use Rattle.std.specs.Prelude.{ℕ, List, [], ◌∷◌, None, Some}
use Rattle.beet_field.specs.declared.point.Point.{Point}
use Rattle.beet_sale_file.specs.declared.rows.SaleBid.{SaleBid}

abbrev pub unknown : ℕ → SaleBid
unknown bid = record { known = None; bid = bid }

abbrev pub three_bids : ℕ → ℕ → ℕ → List SaleBid
three_bids one two three = unknown one ∷ unknown two ∷ unknown three ∷ []

-- the second of them is known to this server
abbrev pub known_bids : Point → ℕ → ℕ → ℕ → List SaleBid
known_bids s one two three = unknown one ∷ record { known = Some s; bid = two } ∷ unknown three ∷ []
