-- The places that a search tests.
use Rattle.std.specs.Prelude.{◌+◌, ◌/◌, ℕ, zero, suc, List, [], ◌∷◌, nat_lt, nat_le, if◌then◌else◌, Bool}
use Rattle.beet_bids.specs.Grids.{comparisons_of}

-- the places that a search between two places tests, at most n, if `test` answers whether supply reaches demand at a
-- place
unfoldable pub tested : (ℕ → Bool) → ℕ → ℕ → ℕ → List ℕ
tested test zero lo hi = []
tested test (suc n) lo hi =
    if nat_lt lo hi then
    (lo + hi) / 2
    ∷ (if test ((lo + hi) / 2) then tested test n lo ((lo + hi) / 2) else tested test n ((lo + hi) / 2 + 1) hi)
    else []

-- the place at which it ends
unfoldable pub place_between : (ℕ → Bool) → ℕ → ℕ → ℕ → ℕ
place_between test zero lo hi = lo
place_between test (suc n) lo hi =
    if nat_lt lo hi then
    (if test ((lo + hi) / 2) then place_between test n lo ((lo + hi) / 2)
    else place_between test n ((lo + hi) / 2 + 1) hi)
    else lo

-- the place at which the search among all places ends
abbrev pub place_found : ℕ → (ℕ → Bool) → ℕ
place_found prices test = place_between test (comparisons_of prices) 0 prices

-- the path to z: the places that the search tests if the test at m answers whether z is at most m
abbrev pub path : ℕ → ℕ → List ℕ
path prices z = tested (nat_le z) (comparisons_of prices) 0 prices
