-- What is asked of servers that watch.
use Rattle.std.proofs.Common.{◌≡◌, ◌<◌, ◌+◌, ◌*◌, ◌%◌, ◌⊎◌, inl, inr, ⊎_elim, ℕ, true, ap, arith, add-mul}
use Rattle.beet_field.specs.Field.{p, IsElement, sub_of}
use Rattle.beet_linear_sharing.specs.Sharings.{Sharing, IsAmong}
use Rattle.beet_coalition.specs.Coalitions.{Coalition, moved_of}
use Rattle.beet_gates.proofs.ClearAt.{less-or}

pub record CoalitionLaws (q : Sharing) (c : Coalition) : Type 0 where
  -- moved numbers show a server that watches the point that it saw
  pub moved_same : (s x y : ℕ) (f : ℕ → ℕ) → IsAmong q.servers s → c.watches s ≡ true → IsElement y →
      q.share y (λ m. moved_of c m (f m) x y) s ≡ q.share x f s
  -- where the same value has the same points at the servers that watch, it has the same points at all
  pub points_same : (v : ℕ) (f g : ℕ → ℕ) → ((s : ℕ) → IsAmong q.servers s → c.watches s ≡ true → q.share v f s ≡ q.share v g s) →
      (i : ℕ) → IsAmong q.servers i → q.share v f i ≡ q.share v g i

-- numbers whose sum is 0 modulo p have multiples whose sum is too
cancel : (d e f : ℕ) → (d + e ≡ 0) ⊎ (d + e ≡ p) → ((d * f) % p + (e * f) % p) % p ≡ 0
cancel d e f sum =
    let whole : (d + e) * f ≡ d * f + e * f = add-mul d e f in
    ⊎_elim
    (λ (none : d + e ≡ 0). let z : (d + e) * f ≡ 0 * f = ap (λ k. k * f) none in omega (arith, whole, z))
    (λ (all : d + e ≡ p). let z : (d + e) * f ≡ p * f = ap (λ k. k * f) all in omega (arith, whole, z))
    sum

differences : (x y : ℕ) → IsElement x → IsElement y → (sub_of x y + sub_of y x ≡ 0) ⊎ (sub_of x y + sub_of y x ≡ p)
differences x y hx hy = ⊎_elim
    (λ (less : x < y). inr (omega arith))
    (λ (rest : (x ≡ y) ⊎ (y < x)). ⊎_elim (λ (same : x ≡ y). inl (omega arith)) (λ (more : y < x). inr (omega arith)) rest)
    (less-or x y)

-- a move is undone by the move back
pub moved_back : (c : Coalition) (m number x y : ℕ) → IsElement x → IsElement y → IsElement number →
    number ≡ moved_of c m (moved_of c m number x y) y x
moved_back c m number x y hx hy hn =
    let e = cancel (sub_of x y) (sub_of y x) (c.factor m) (differences x y hx hy) in omega (arith, e)

pub moved_small : (c : Coalition) (m number x y : ℕ) → IsElement (moved_of c m number x y)
moved_small c m number x y = omega arith
