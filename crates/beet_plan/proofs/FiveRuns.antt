-- How a run among five servers ends.
use Rattle.std.proofs.Common.{◌≡◌, ℕ, ◌+◌, ◌*◌, ◌^◌, ◌<◌, List, [], length, slice_index, slice_index_or}
use Rattle.std.specs.Prelude.{All}
use Rattle.beet_field.specs.Field.{IsElement}
use Rattle.beet_bids.specs.declared.outcomes.Policy.{Policy}
use Rattle.beet_masking.specs.Blocks.{five_blocks}
use Rattle.beet_masking.specs.Masks.{dealt_at, mask_among}
use Rattle.beet_masking.proofs.Words.{among-five}
use Rattle.beet_plan.specs.Runs.{EndsWith, found, place_over}
use Rattle.beet_plan.proofs.AuctionRuns.{five-run}

pub five-ends : (policy : Policy) (prices : ℕ) (inputs : List ℕ) (words : List (List ℕ)) → length inputs ≡ 2 * prices →
    All IsElement inputs →
    length words ≡ 5 → ((k i : ℕ) → slice_index (slice_index_or words k []) i < 2 ^ 61) →
    EndsWith five_blocks policy prices inputs (dealt_at words) (mask_among words) (place_over prices inputs)
    (found policy prices (slice_index inputs) (λ k. slice_index inputs (prices + k)) (place_over prices inputs))
five-ends policy prices inputs words len all five few =
    five-run policy prices inputs (dealt_at words) (mask_among words) len all (among-five words five few)
