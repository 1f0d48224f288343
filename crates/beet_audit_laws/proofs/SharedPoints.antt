-- Three views and others over the same bidders' points begin the same run.
use Rattle.std.proofs.Common.{◌≡◌, ◌≢◌, ◌<◌, ℕ, List, length, slice_index, arith, refl, sym, ◌∙◌, ap, subst}
use Rattle.beet_field.specs.Trio.{member, of_each}
use Rattle.beet_field.specs.declared.point.Point.{Point}
use Rattle.beet_field.specs.declared.point.Point.TheVariants.{One, Two, Three}
use Rattle.beet_field.specs.declared.trio.Trio.{Trio}
use Rattle.beet_shamir.specs.Line.{point_of, points_of}
use Rattle.beet_words.specs.Words.{accepted}
use Rattle.beet_gates.specs.Each.{each}
use Rattle.beet_gates.specs.declared.Batch.{Batch}
use Rattle.beet_gates.proofs.EachFacts.{each-same}
use Rattle.beet_bids.specs.Grids.{Grid}
use Rattle.beet_plan.specs.Auction.{auction_batch, auction_over}
use Rattle.beet_book.specs.Dealing.{AreShares, HasLengths}
use Rattle.beet_book.specs.PointSums.{inputs_at}
use Rattle.beet_book.specs.Totals.{points_on}
use Rattle.beet_sharing.specs.Runs.{Setup, numbers_of}
use Rattle.beet_sharing.proofs.Lined.{member-each}
use Rattle.beet_sharing.proofs.SameRuns.{first, second}
use Rattle.beet_load.specs.Servers.{coefficients_of, masks_of}
use Rattle.beet_run.specs.Runs.{setup_with}
use Rattle.beet_view.specs.Views.{Viewed}
use Rattle.beet_audit.specs.Audits.{all_points, bidder_at, points_of_bidder, run_of, words_in}
use Rattle.beet_audit.proofs.PointFacts.{item-shares, lengths-shares, trio-same}
use Rattle.beet_audit_laws.proofs.CommonPoints.{same-points}

-- points that are shares of values
module _ (values : List ℕ) (points : Trio (List ℕ)) (x : AreShares values points) where
  pub on-line : (k : ℕ) → k < length values → points_on points k ≡ points_of (slice_index values k) (slice_index x.slopes k)
  on-line k lt = ap (λ t. points_on t k) x.shares ∙ item-shares values x.slopes k lt (omega (arith, x.paired, lt))

  pub as-many : (n : ℕ) → length values ≡ n → HasLengths points n
  as-many n many = subst (λ t. HasLengths t n) (sym x.shares) (lengths-shares values x.slopes n many (omega (arith, x.paired, many)))

-- the points of a wire at one server
on-wire : (points : Trio (List ℕ)) (k v a : ℕ) → points_on points k ≡ points_of v a → (s : Point) →
    slice_index (member points s) k ≡ point_of v a s
on-wire points k v a e One = ap (λ (t : Trio ℕ). t.one) e
on-wire points k v a e Two = ap (λ (t : Trio ℕ). t.two) e
on-wire points k v a e Three = ap (λ (t : Trio ℕ). t.three) e

-- shares that are the same at two servers are the same
pub same-shares : (i j : Point) → i ≢ j → (n : ℕ) (vs ws : List ℕ) (points points' : Trio (List ℕ)) →
    AreShares vs points → AreShares ws points' →
    length vs ≡ n → length ws ≡ n → member points' i ≡ member points i → member points' j ≡ member points j → points' ≡ points
same-shares i j apart n vs ws points points' x x' many many' at-i at-j =
    trio-same points' points n (as-many ws points' x' n many') (as-many vs points x n many)
    (λ k lt.
    let v = slice_index vs k in
    let a = slice_index x.slopes k in
    let w = slice_index ws k in
    let b = slice_index x'.slopes k in
    let line : points_on points k ≡ points_of v a = on-line vs points x k (omega (arith, many, lt)) in
    let line' : points_on points' k ≡ points_of w b = on-line ws points' x' k (omega (arith, many', lt)) in
    let same : (s : Point) → member points' s ≡ member points s → point_of w b s ≡ point_of v a s =
    λ s e. sym (on-wire points' k w b line' s) ∙ ap (λ l. slice_index l k) e ∙ on-wire points k v a line s in
    line' ∙ same-points i j apart v a w b (same i at-i) (same j at-j) ∙ sym line)

-- the words of a server's tapes
pub masks-at : (views : Trio Viewed) (s : Point) → member (masks_of (of_each words_in views)) s ≡ (member views s).masks
masks-at views One = refl
masks-at views Two = refl
masks-at views Three = refl

pub numbers-at : (views : Trio Viewed) (s : Point) →
    member (numbers_of (coefficients_of (of_each words_in views))) s ≡ accepted (member views s).coefficients
numbers-at views One = refl
numbers-at views Two = refl
numbers-at views Three = refl

-- the points of a bidder at a server
pub points-at : (views : Trio Viewed) (n : ℕ) (s : Point) → member (points_of_bidder views n) s ≡ (bidder_at (member views s) n).points
points-at views n s = member-each (λ view. (bidder_at view n).points) views s

-- what two runs of one script on the same points go on: the words and numbers of each
pub record BothRuns : Type 0 where
  pub script : ℕ → List ℕ → Batch
  pub inputs : Trio (List ℕ)
  pub masks : Trio (List ℕ)
  pub masks' : Trio (List ℕ)
  pub numbers : Trio (List ℕ)
  pub numbers' : Trio (List ℕ)

-- three views, and three others whose bidders have the same points
module _ (grid : Grid) (views others : Trio Viewed) (count : length others.one.bidders ≡ length views.one.bidders)
    (points : (n : ℕ) → n < length views.one.bidders → points_of_bidder others n ≡ points_of_bidder views n) where
  abbrev pub both-runs : BothRuns
  both-runs = record {
    script = auction_batch (auction_over grid);
    inputs = inputs_at grid.prices (all_points views);
    masks = masks_of (of_each words_in views);
    masks' = masks_of (of_each words_in others);
    numbers = numbers_of (coefficients_of (of_each words_in views));
    numbers' = numbers_of (coefficients_of (of_each words_in others));
  }

  abbrev pub run : Setup
  run = let b = both-runs in first b.script b.inputs b.masks b.masks' b.numbers b.numbers'

  abbrev pub run' : Setup
  run' = let b = both-runs in second b.script b.inputs b.masks b.masks' b.numbers b.numbers'

  same-all : all_points others ≡ all_points views
  same-all =
      ap (each (points_of_bidder others)) count
      ∙ each-same (points_of_bidder others) (points_of_bidder views) (length views.one.bidders) points

  -- begin the run on these points, with the words of the others
  pub same-setup : run_of grid others ≡ run'
  same-setup = ap (λ (l : List (Trio (List ℕ))). setup_with grid (inputs_at grid.prices l) (of_each words_in others)) same-all
