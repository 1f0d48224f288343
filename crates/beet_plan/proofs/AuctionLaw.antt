-- The law of the auction's script.
use Rattle.std.proofs.Common.{ℕ, ◌≡◌, ◌+◌, ◌*◌, ◌≤◌, [], refl, ap, ◌∙◌, arith, add-mul, mul-add, mul_comm, mul-le-mul_right, zero-add}
use Rattle.beet_gates.specs.Scripts.{LawFrom, start_among, start_of, bounds_of}
use Rattle.beet_gates.proofs.PlanRuns.{PlanStands}
use Rattle.beet_gates.proofs.PlanFacts.{Follows, plan-law}
use Rattle.beet_bids.specs.Grids.{comparisons_of}
use Rattle.beet_bids.specs.declared.outcomes.Policy.{Policy}
use Rattle.beet_gates.specs.declared.Gates.TheVariants.{Tree}
use Rattle.beet_compare.specs.Compare.{compare_wires_of}
use Rattle.beet_masking.specs.Blocks.{Blocks, blocks_of}
use Rattle.beet_masking.specs.declared.TheConstants.{MASK_COEFFICIENTS}
use Rattle.beet_masking.proofs.BlockLaws.{AreBlocks, are-blocks}
use Rattle.beet_plan.specs.Auction.{Auction, auction_plan, auction_batch, most_coefficients, most_coefficients_of}
use Rattle.beet_plan.specs.Auction.{most_masks, most_masks_of, most_rounds, most_rounds_with, most_wires}
use Rattle.beet_plan.specs.Auction.{most_wires_with, plan_with}
use Rattle.beet_masking.proofs.Standing.{Room, compared, nothing}
use Rattle.beet_plan.proofs.AuctionStands.{search-stands}

pub follows-itself : (a : Auction) → Follows (auction_batch a) 0 [] (auction_plan a)
follows-itself a = record { batch = λ d more. rw zero-add refl }

pub plan-stands : (g : Blocks) → AreBlocks g → (policy : Policy) (prices : ℕ) →
    PlanStands (bounds_of (most_wires_with g prices) (most_masks_of prices) (most_coefficients_of prices)) (most_rounds_with g prices)
    (start_among g.words (2 * prices)) (plan_with g policy prices)
plan-stands g are policy prices =
    let l = comparisons_of prices in
    let bounds = bounds_of (most_wires_with g prices) (most_masks_of prices) (most_coefficients_of prices) in
    let wires : g.compare_wires * l ≤ compare_wires_of Tree * l = mul-le-mul_right l are.few_wires in
    let draws : (g.mask_draws + g.compare_draws) * (l + 2) ≤ MASK_COEFFICIENTS * (l + 2) = mul-le-mul_right (l + 2) are.few_draws in
    let both : (g.mask_wires + g.compare_wires) * l ≡ g.mask_wires * l + g.compare_wires * l = add-mul g.mask_wires g.compare_wires l in
    let spare : g.mask_wires * (l + 2) ≡ g.mask_wires * l + g.mask_wires * 2 = mul-add g.mask_wires l 2 in
    let all : (g.mask_draws + g.compare_draws) * (l + 2) ≡ (g.mask_draws + g.compare_draws) * l + (g.mask_draws * 2 + g.compare_draws * 2) =
    mul-add (g.mask_draws + g.compare_draws) l 2
    ∙ ap (λ n. (g.mask_draws + g.compare_draws) * l + n) (add-mul g.mask_draws g.compare_draws 2) in
    let turns : l * (g.mask_rounds + g.compare_rounds) ≡ (g.mask_rounds + g.compare_rounds) * l =
    mul_comm l (g.mask_rounds + g.compare_rounds) in
    let room : Room g (compared g) nothing bounds (start_among g.words (2 * prices)) (most_rounds_with g prices) l 2 0 = record {
      dealers = refl;
      room_wires = omega (arith, wires, both, spare);
      room_masks = omega arith;
      room_coefficients = omega (arith, draws, all);
      room_rounds = omega (arith, turns);
    } in
    search-stands bounds g are policy prices l 0 prices 2 (most_rounds_with g prices) (start_among g.words (2 * prices))
    (omega arith) (omega arith) room

pub auction-stands : (a : Auction) →
    PlanStands (bounds_of (most_wires a) (most_masks a) (most_coefficients a)) (most_rounds a) (start_of (2 * a.prices)) (auction_plan a)
auction-stands a = plan-stands (blocks_of a.gates) (are-blocks a.gates) a.policy a.prices

pub auction-law : (a : Auction) →
    LawFrom (auction_batch a) (bounds_of (most_wires a) (most_masks a) (most_coefficients a)) (most_rounds a) (start_of (2 * a.prices)) []
auction-law a =
    plan-law (auction_batch a) (bounds_of (most_wires a) (most_masks a) (most_coefficients a)) (auction_plan a)
    (start_of (2 * a.prices)) (most_rounds a) []
    (auction-stands a) (follows-itself a)
