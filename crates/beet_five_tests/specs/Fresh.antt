-- A server of an auction among five that begins.
use Rattle.std.specs.Prelude.{◌≡◌, ℕ, List}
use Rattle.beet_words.specs.Tapes.{Tape}
use Rattle.beet_plan.specs.FivePlan.{FiveAuction, five_batch, most_rounds}
use Rattle.beet_five_server.specs.Answers.{Core, fresh_core}

-- it has the script, and some points, words and numbers of its own
pub record IsFresh (me : ℕ) (script : FiveAuction) (c : Core FiveAuction) : Type 0 where
  pub inputs : List ℕ
  pub masks : Tape
  pub coefficients : Tape
  pub no_mask : masks.passed ≡ 0
  pub no_number : coefficients.passed ≡ 0
  pub is : c ≡ fresh_core five_batch me script inputs masks coefficients (most_rounds script)
