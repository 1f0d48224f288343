-- How the auction of a book ends.
use Rattle.std.proofs.Common.{◌≡◌, ℕ, ◌*◌, ◌<◌, ◌^◌, List, [], length, slice_index, slice_index_or, refl, sym, ◌∙◌, ap, subst}
use Rattle.beet_gates.specs.Clear.{clear_at, rounds_dealt, values_dealt}
use Rattle.beet_gates.specs.Plans.{plan_finish}
use Rattle.beet_gates.specs.Scripts.{LawFrom, bounds_of, start_among}
use Rattle.beet_gates.proofs.ClearAt.{dealt-ends}
use Rattle.beet_gates.proofs.ClearFacts.{DealtBy, end-opens}
use Rattle.beet_bids.specs.Books.{Book, IsBook}
use Rattle.beet_bids.specs.Outcomes.{clearing_place, outcome_of}
use Rattle.beet_bids.specs.Sums.{sums_of}
use Rattle.beet_bids.proofs.BookSums.{length-sums}
use Rattle.beet_mask.proofs.MaskRun.{length-bits_of}
use Rattle.beet_masking.specs.Blocks.{five_blocks}
use Rattle.beet_masking.specs.Masks.{dealt_at, mask_among, words_at}
use Rattle.beet_plan.specs.Runs.{EndsWith, finish_of, run_finish, run_rounds_with}
use Rattle.beet_plan.specs.declared.Finish.{Finish}
use Rattle.beet_weights.specs.Quadratics.{of_five}
use Rattle.beet_linear_sharing.specs.Polynomials.{AreShared}
use Rattle.beet_linear_sharing.specs.Runs.{HasRounds, Setup, shared_at}
use Rattle.beet_linear_sharing.specs.Schemes.{five_servers}
use Rattle.beet_linear_sharing.proofs.Arithmetic.{five-laws}
use Rattle.beet_linear_sharing.proofs.AtOne.{at-one, same-rounds}
use Rattle.beet_plan.specs.FivePlan.{FiveAuction, five_batch, five_over, five_plan, most_masks, most_rounds, most_secrets, most_wires}
use Rattle.beet_plan.proofs.FiveFacts.{book-ends, five-law}
use Rattle.beet_five_auction.specs.FiveEndings.{FiveAuctionEnds, book_finish, book_rounds}

by-five : (o : Setup) → DealtBy 5 (dealt_at (of_five o.masks))
by-five o n = length-bits_of (words_at (of_five o.masks) n)

-- a run on shared values ends as the run on the values does
pub shared-ends : (a : FiveAuction) (o : Setup) (values : List ℕ) (z : ℕ) (finish : Finish) → length values ≡ 2 * a.prices →
    o.next ≡ five_batch a → AreShared five_servers values o.inputs →
    EndsWith five_blocks a.policy a.prices values (dealt_at (of_five o.masks)) (mask_among (of_five o.masks)) z finish →
    FiveAuctionEnds a o (run_rounds_with five_blocks a.policy a.prices (mask_among (of_five o.masks)) z)
    (run_finish a.prices (mask_among (of_five o.masks)) z finish)
shared-ends a o values z finish len next are run =
    let deals = dealt_at (of_five o.masks) in
    let bounds = bounds_of (most_wires a) (most_masks a) (most_secrets a) in
    let law : LawFrom o.next bounds (most_rounds a) (start_among 5 (length values)) [] =
    rw len (subst (λ n. LawFrom n bounds (most_rounds a) (start_among 5 (2 * a.prices)) []) (sym next) (five-law a)) in
    let clear = dealt-ends o.next deals bounds 5 (most_rounds a) values (by-five o) law in
    let r = rounds_dealt o.next (most_rounds a) values deals in
    let v = clear_at o.next deals values r in
    let counted : r ≡ run_rounds_with five_blocks a.policy a.prices (mask_among (of_five o.masks)) z =
    ap (λ n. rounds_dealt n (most_rounds a) values deals) next ∙ run.rounds in
    let opened : (shared_at five_servers o r).opened ≡ (values_dealt (five_batch a) (most_rounds a) values deals).opened =
    (at-one five_servers five-laws o values are r).opened ∙ sym (end-opens deals (o.next r v.opened) v clear.0.0)
    ∙ ap (λ n. (values_dealt n (most_rounds a) values deals).opened) next in
    record {
      has_rounds = subst (HasRounds five_servers o) counted ((same-rounds five_servers five-laws o values are r).1 clear.0);
      finish_named = ap (λ k. plan_finish (five_plan a) (shared_at five_servers o k).opened) (sym counted)
          ∙ ap (plan_finish (five_plan a)) opened ∙ run.ends;
    }

pub book-ends-among : (book : Book) (o : Setup) → IsBook book →
    ((k i : ℕ) → slice_index (slice_index_or (of_five o.masks) k []) i < 2 ^ 61) →
    o.next ≡ five_batch (five_over book.grid) → AreShared five_servers (sums_of book) o.inputs →
    FiveAuctionEnds (five_over book.grid) o (book_rounds book o.masks) (book_finish book o.masks)
book-ends-among book o b few next are =
    shared-ends (five_over book.grid) o (sums_of book) (clearing_place book) (finish_of (outcome_of book)) (length-sums book) next are
    (book-ends book (of_five o.masks) b refl few)
