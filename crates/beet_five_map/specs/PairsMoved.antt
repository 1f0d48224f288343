-- Numbers of which two after each other hide a secret, in two worlds.
use Rattle.std.specs.Prelude.{◌≡◌, ◌<◌, ◌≤◌, ◌+◌, ◌*◌, ℕ, List, length, slice_index}
use Rattle.beet_coalition.specs.Coalitions.{Coalition, moved_of}

-- the numbers that hide each of so many secrets are moved by it, and all others are the same
pub record PairsMoved (c : Coalition) (count : ℕ) (value other : ℕ → ℕ) (old new : List ℕ) : Type 0 where
  pub same_length : length new ≡ length old
  pub first : (k : ℕ) → k < count →
      slice_index new (2 * k) ≡ moved_of c 0 (slice_index old (2 * k)) (value k) (other k)
  pub second : (k : ℕ) → k < count →
      slice_index new (2 * k + 1) ≡ moved_of c 1 (slice_index old (2 * k + 1)) (value k) (other k)
  pub rest : (i : ℕ) → 2 * count ≤ i → slice_index new i ≡ slice_index old i
