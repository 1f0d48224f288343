-- The lines that tell how a run ended.
use Rattle.std.specs.Prelude.{ℕ, List, [], ◌++◌, Option, None, Some, codes, decimal}
use Rattle.beet_bids.specs.Grids.{Grid, price_of}
use Rattle.beet_bids.specs.declared.outcomes.Outcome.{Outcome}
use Rattle.beet_bids.specs.declared.outcomes.Outcome.TheVariants.{Price as AtPrice, No}
use Rattle.beet_errand.specs.Texts.{line_of}
use Rattle.beet_plan.specs.declared.Finish.{Finish}
use Rattle.beet_plan.specs.declared.Finish.TheVariants.{Price, NoPrice, MasksSpent}

-- a number that may be opened, behind a text before it and its name; nothing if it is not opened
abbrev pub opened_text : List ℕ → List ℕ → Option ℕ → List ℕ
opened_text before name None = []
opened_text before name (Some number) = before ++ name ++ decimal number

-- how a run ended: with a price and the numbers that are opened there, each behind this text, with none, or with the
-- third rejected mask
abbrev pub finish_text : List ℕ → Grid → Finish → List ℕ
finish_text between grid (Price place volume supply) =
    codes "price " ++ decimal (price_of grid place) ++ opened_text between (codes "volume ") volume
    ++ opened_text between (codes "supply ") supply
finish_text between grid NoPrice = codes "no price"
finish_text between grid MasksSpent = codes "masks spent"

-- how a run ended, a line for each number, and after how many rounds
abbrev pub outcome_text : Grid → Finish → ℕ → List ℕ
outcome_text grid finish rounds =
    line_of (finish_text (codes "\n") grid finish) ++ line_of (codes "rounds " ++ decimal rounds)

-- an outcome in a word: its price, and behind slashes what it holds of the volume and the supply
abbrev pub outcome_word : Outcome → List ℕ
outcome_word (AtPrice place price volume supply) =
    decimal price ++ opened_text (codes "/") [] volume ++ opened_text (codes "/") [] supply
outcome_word No = codes "none"
