-- Blocks of bidders, added to sums.
use Rattle.std.proofs.Common.{◌≡◌, ℕ, suc, ◌*◌, List, [], ◌∷◌, ◌++◌, arith, refl, sym, ◌∙◌, ap, All, append-nil, append_assoc}
use Rattle.beet_field.specs.declared.trio.Trio.{Trio}
use Rattle.beet_book.specs.Dealing.{HasLengths}
use Rattle.beet_book.specs.PointSums.{sums_at, AddsBlock}
use Rattle.beet_book.specs.Totals.{Totals, added, all_added, plain_sums, AddsAllValues}
use Rattle.beet_book.proofs.PointsAdded.{sums-more}
use Rattle.beet_book.proofs.Sums.{added-values}

-- the values of all are added
pub all-values : (before : Trio (List ℕ)) (bidders : List (Trio (List ℕ))) (after : Trio (List ℕ)) → after ≡ all_added before bidders →
    AddsAllValues before bidders after
all-values before [] after e v [] shares have = rw e shares
all-values before [] after e v (own ∷ values) shares have = absurd (omega (arith, have.count))
all-values before (points ∷ bidders) after e v [] shares have = absurd (omega (arith, have.count))
all-values before (points ∷ bidders) after e v (own ∷ values) shares have =
    all-values (added before points) bidders after e (plain_sums v own) values
    (added-values before points _ _ _ refl refl refl v own shares (have.each 0 own points refl refl))
    (record { count = omega (arith, have.count); each = λ i o p g h. have.each (suc i) o p g h })

-- the sums of some bidders with a block of others
block-sums : (prices : ℕ) (bidders block : List (Trio (List ℕ))) → All (λ points. HasLengths points (2 * prices)) block →
    all_added (sums_at prices bidders) block ≡ sums_at prices (bidders ++ block)
block-sums prices bidders [] all = ap (sums_at prices) (sym (append-nil bidders))
block-sums prices bidders (points ∷ block) all =
    ap (λ sums. all_added sums block) (sums-more prices bidders points (all 0 points (omega arith)))
    ∙ block-sums prices (bidders ++ points ∷ []) block (λ k d h. all (suc k) d (omega arith))
    ∙ ap (sums_at prices) (append_assoc bidders (points ∷ []) block)

pub adds-block : (before after : Totals) (block : List (Trio (List ℕ))) → All (λ points. HasLengths points (2 * before.prices)) block →
    after ≡ record before { points = all_added before.points block } → AddsBlock before block after
adds-block before after block all e grid bidders sums =
    let prices : before.prices ≡ grid.prices = ap (λ t. t.prices) sums in
    let points : before.points ≡ sums_at grid.prices bidders = ap (λ t. t.points) sums in
    let joined = block-sums grid.prices bidders block (rw prices at all) in
    e ∙ rw (prices, points, joined) refl
