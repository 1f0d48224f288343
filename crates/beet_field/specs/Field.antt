-- The field: the whole numbers below p, with sums and products taken modulo p.
use Rattle.std.specs.Prelude.{ℕ, ◌+◌, ◌-◌, ◌*◌, ◌%◌, ◌<◌}

-- 2^61 - 1
abbrev pub p : ℕ
p = 2305843009213693951

-- a number of the field
abbrev pub IsElement : ℕ → Type 0
IsElement x = x < p

-- the sum modulo p
abbrev pub add_of : ℕ → ℕ → ℕ
add_of x y = (x + y) % p

-- the product modulo p
abbrev pub mul_of : ℕ → ℕ → ℕ
mul_of x y = (x * y) % p

-- the difference of two numbers of the field, modulo p
abbrev pub sub_of : ℕ → ℕ → ℕ
sub_of x y = (x + (p - y)) % p

-- what gives 0 modulo p when it is added to a number of the field
abbrev pub neg_of : ℕ → ℕ
neg_of x = (p - x) % p
