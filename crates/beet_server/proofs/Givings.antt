-- What the numbers of three servers give.
use Rattle.std.proofs.Common.{◌≡◌, ◌++◌, ℕ, Bool, List, length, refl, ap, sym, if◌then◌else◌}
use Rattle.beet_shamir.specs.Line.{recombined, reshared}
use Rattle.beet_gates.specs.Each.{each}
use Rattle.beet_gates.specs.Scripts.{size_of}
use Rattle.beet_gates.specs.declared.Act.{Act}
use Rattle.beet_gates.specs.declared.Act.TheVariants.{Deal, Mul, Reveal, End}
use Rattle.beet_sharing.specs.Steps.{numbers_opened, points_given, three_at}
use Rattle.beet_server.specs.Values.{numbers_by, points_by}

module _ (one two three : List ℕ) where
  abbrev pub made_of : Bool → ℕ → ℕ
  made_of opens k = if opens then recombined (three_at one two three k) else reshared (three_at one two three k)

  pub points-are : (a : Act) → length one ≡ size_of a → points_by a (one ++ (two ++ three)) made_of ≡ points_given a one two three
  points-are Deal e = refl
  points-are (Mul pairs) e = ap (λ n. each (λ k. reshared (three_at one two three k)) n) (sym e)
  points-are (Reveal shown) e = refl
  points-are End e = refl

  pub numbers-are : (a : Act) → length one ≡ size_of a → numbers_by a made_of ≡ numbers_opened a one two three
  numbers-are Deal e = refl
  numbers-are (Mul pairs) e = refl
  numbers-are (Reveal shown) e = ap (λ n. each (λ k. recombined (three_at one two three k)) n) (sym e)
  numbers-are End e = refl
