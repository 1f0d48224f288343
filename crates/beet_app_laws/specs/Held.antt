-- Files that are held and right.
use Rattle.std.specs.Prelude.{◌≡◌, ◌≤◌, ℕ, List, length, Some, Ok}
use Rattle.beet_store.specs.Files.{File, bytes_of}
use Rattle.beet_forms.specs.Faults.{Reading}

-- a file of this name is held, no longer than its limit, and its bytes read as this value by the grammar
pub record IsHeld {A : Type 0} (files : List File) (name : List ℕ) (limit : ℕ) (grammar : List ℕ → Reading A)
    (value : A) : Type 0 where
  pub bytes : List ℕ
  pub held : bytes_of files name ≡ Some bytes
  pub short : length bytes ≤ limit
  pub is : grammar bytes ≡ Ok value
