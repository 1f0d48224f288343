-- The line that tells two sessions apart.
use Rattle.std.specs.Prelude.{◌≡◌, ℕ, List, [], ◌++◌, codes, decimal}
use Rattle.beet_errand.specs.Texts.{line_of}
use Rattle.beet_run.specs.OutcomeTexts.{outcome_word}
use Rattle.beet_lot_map.specs.declared.mapping.SessionFault.{SessionFault}
use Rattle.beet_lot_map.specs.declared.mapping.SessionFault.TheVariants.{LotsDiffer, GridDiffers, ShapeDiffers}
use Rattle.beet_lot_map.specs.declared.mapping.SessionFault.TheVariants.{OwnBidsDiffer, OutcomesDiffer, OutOfMemory}

-- how a line begins that names a lot, counted from 1
abbrev pub of_lot : ℕ → List ℕ
of_lot lot = codes "sessions refused lot " ++ decimal lot

-- the line of a refusal; if memory ran out nothing is said
abbrev pub refused_text : SessionFault → List ℕ
refused_text (LotsDiffer first second) =
    line_of (codes "sessions refused lots " ++ decimal first ++ codes " " ++ decimal second)
refused_text (GridDiffers lot) = line_of (of_lot lot ++ codes " grid")
refused_text (ShapeDiffers lot bidder) = line_of (of_lot lot ++ codes " shape " ++ decimal bidder)
refused_text (OwnBidsDiffer lot bidder) = line_of (of_lot lot ++ codes " own bids " ++ decimal bidder)
refused_text (OutcomesDiffer lot one other) =
    line_of (of_lot lot ++ codes " outcomes " ++ outcome_word one ++ codes " " ++ outcome_word other)
refused_text OutOfMemory = []

-- a text is the line of a refusal; want of memory has none
abbrev pub IsLineOf : SessionFault → List ℕ → Type 0
IsLineOf OutOfMemory text = ⊥
IsLineOf fault text = text ≡ refused_text fault
