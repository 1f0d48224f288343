-- Words that hide numbers, one after another, in two worlds.
use Rattle.std.specs.Prelude.{◌≡◌, ◌<◌, ◌≤◌, ◌+◌, ◌*◌, ℕ, List, slice_index}
use Rattle.beet_words.specs.Words.{accepted}
use Rattle.beet_words.specs.Words.{ones_in}
use Rattle.beet_linear_sharing.specs.Sharings.{Sharing}
use Rattle.beet_coalition.specs.Coalitions.{Coalition, moved_of}

-- the m-th of the numbers that hide the n-th one
abbrev pub hiding : Sharing → List ℕ → ℕ → ℕ → ℕ
hiding q words n m = slice_index (accepted words) (q.degree * n + m)

-- the words that are all ones stand at the same places, the numbers that hide each of so many are moved by it, and all
-- others are the same
pub record WordsMoved (q : Sharing) (c : Coalition) (count : ℕ) (value other : ℕ → ℕ) (words words' : List ℕ) : Type 0
  where
    pub places : ones_in words' ≡ ones_in words
    pub moves : (n m : ℕ) → n < count → m < q.degree →
        hiding q words' n m ≡ moved_of c m (hiding q words n m) (value n) (other n)
    pub rest : (n : ℕ) → q.degree * count ≤ n → slice_index (accepted words') n ≡ slice_index (accepted words) n
