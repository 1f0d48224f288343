-- The points 1, 2 and 3 at which the servers hold their shares.
use Rattle.std.specs.Prelude.{ℕ, if◌then◌else◌, List, [], ◌∷◌, Option, Some, None, bytes_eq, codes}
use Rattle.beet_field.specs.declared.point.Point.{Point}
use Rattle.beet_field.specs.declared.point.Point.TheVariants.{One, Two, Three}

abbrev pub number_of : Point → ℕ
number_of One = 1
number_of Two = 2
number_of Three = 3

-- the server of a digit, or none if the text is no server's
abbrev pub server_of : List ℕ → Option Point
server_of text =
    if bytes_eq text (codes "1") then Some One
    else if bytes_eq text (codes "2") then Some Two
    else if bytes_eq text (codes "3") then Some Three
    else None

-- the other two points, the lower first
abbrev pub others_of : Point → List Point
others_of One = Two ∷ Three ∷ []
others_of Two = One ∷ Three ∷ []
others_of Three = One ∷ Two ∷ []
