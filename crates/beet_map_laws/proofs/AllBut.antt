-- Lists of three servers of which all but one are given.
use Rattle.std.proofs.Common.{◌≡◌, ◌≢◌, ℕ, List, refl}
use Rattle.beet_field.specs.Trio.{member}
use Rattle.beet_field.specs.declared.point.Point.{Point}
use Rattle.beet_field.specs.declared.point.Point.TheVariants.{One, Two, Three}
use Rattle.beet_field.specs.declared.trio.Trio.{Trio}

-- the lists of three servers: that of one stays, those of the others are given by a rule
abbrev pub all_but : Point → (Point → List ℕ) → Trio (List ℕ) → Trio (List ℕ)
all_but One f lists = record { one = lists.one; two = f Two; three = f Three }
all_but Two f lists = record { one = f One; two = lists.two; three = f Three }
all_but Three f lists = record { one = f One; two = f Two; three = lists.three }

pub all_but-own : (me : Point) (f : Point → List ℕ) (lists : Trio (List ℕ)) → member (all_but me f lists) me ≡ member lists me
all_but-own One f lists = refl
all_but-own Two f lists = refl
all_but-own Three f lists = refl

-- what holds of the one that stays, and of each of the others, holds of all
pub all_but-each : (P : Point → List ℕ → Type 0) (me : Point) (f : Point → List ℕ) (lists : Trio (List ℕ)) →
    P me (member lists me) → ((j : Point) → j ≢ me → P j (f j)) → (j : Point) → P j (member (all_but me f lists) j)
all_but-each P One f lists own others One = own
all_but-each P One f lists own others Two = others Two (λ e. cc e)
all_but-each P One f lists own others Three = others Three (λ e. cc e)
all_but-each P Two f lists own others One = others One (λ e. cc e)
all_but-each P Two f lists own others Two = own
all_but-each P Two f lists own others Three = others Three (λ e. cc e)
all_but-each P Three f lists own others One = others One (λ e. cc e)
all_but-each P Three f lists own others Two = others Two (λ e. cc e)
all_but-each P Three f lists own others Three = own
