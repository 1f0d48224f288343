-- One value for each of the three points.
use Rattle.std.specs.Prelude.{◌⊎◌, Err, Ok, Result}
use Rattle.beet_field.specs.declared.point.Point.{Point}
use Rattle.beet_field.specs.declared.point.Point.TheVariants.{One, Two, Three}
use Rattle.beet_field.specs.declared.trio.Trio.{Trio}

-- the value at the point
abbrev pub member : {T : Type 0} → Trio T → Point → T
member t One = t.one
member t Two = t.two
member t Three = t.three

-- the trio with this value in place of the one at the point
abbrev pub with_member : {T : Type 0} → Trio T → Point → T → Trio T
with_member t One x = record t { one = x }
with_member t Two x = record t { two = x }
with_member t Three x = record t { three = x }

-- f of each of three
abbrev pub of_each : {A B : Type 0} → (A → B) → Trio A → Trio B
of_each f t = record { one = f t.one; two = f t.two; three = f t.three }

-- the value of a function at each of the three points
abbrev pub trio_of : {A : Type 0} → (Point → A) → Trio A
trio_of f = record { one = f One; two = f Two; three = f Three }

-- what is answered at the point is a value
abbrev pub HasValue : {T E : Type 0} → (Point → Result T E → Type 0) → Point → Type 0
HasValue {T} Answers at = (value : T) × Answers at (Ok value)

-- of what is answered at the three points, in order, the first that is no value is this fault
abbrev pub IsFirstFault : {T E : Type 0} → (Point → Result T E → Type 0) → E → Type 0
IsFirstFault Answers fault =
    Answers One (Err fault)
    ⊎ (HasValue Answers One × Answers Two (Err fault))
    ⊎ (HasValue Answers One × HasValue Answers Two × Answers Three (Err fault))
