-- A run of a command.
use Rattle.std.specs.Prelude.{◌≡◌, ℕ, List}
use Rattle.beet_store.specs.Files.{File}
use Rattle.beet_app_laws.specs.Calls.{Call}
use Rattle.beet_completeness_laws.specs.WithoutFault.{RunsWithoutFault}

-- there is a run of these words over these files that ends with this status, in which the outside answers every call
pub record HasRunTo (files : List File) (words : List (List ℕ)) (status : ℕ) : Type 0 where
  pub call : Call
  pub runs : RunsWithoutFault files words call
  pub ends : call.status ≡ status

-- there is one in which the command is done
abbrev pub HasRun : List File → List (List ℕ) → Type 0
HasRun files words = HasRunTo files words 0
