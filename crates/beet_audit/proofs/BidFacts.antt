-- A bidder with which nothing is wrong bids a curve.
use Rattle.std.proofs.Common.{◌≡◌, ◌<◌, ◌≤◌, ◌+◌, ◌*◌, ℕ, zero, suc, List, length, slice_index, Option, Some, None, inl}
use Rattle.std.proofs.Common.{inr, arith, refl, sym, ◌∙◌, ap, subst, length-append}
use Rattle.std.specs.Prelude.{IfSome}
use Rattle.std.proofs.lemmas.Bool.{cases_lt}
use Rattle.std.proofs.lemmas.List.{get_or_append_left, get_or-append-add}
use Rattle.std.proofs.lemmas.List.Elements.{All-append, All-get_or}
use Rattle.beet_field.specs.Field.{p, sub_of}
use Rattle.beet_field.specs.Trio.{member}
use Rattle.beet_field.specs.declared.trio.Trio.{Trio}
use Rattle.beet_shamir.specs.Line.{AreElements, IsLine, points_of, recombined}
use Rattle.beet_words.specs.Words.{accepted}
use Rattle.beet_gates.specs.Each.{each}
use Rattle.beet_gates.proofs.EachFacts.{all-each, length-each, item-each, get_or-each}
use Rattle.beet_bids.specs.Curves.{Curve, IsCurve, IsOfGrid}
use Rattle.beet_bids.specs.Grids.{Grid}
use Rattle.beet_bids.specs.declared.curve.TheConstants.{LARGEST_QUANTITY}
use Rattle.beet_book.specs.Dealing.{AreShares, HasLengths, dealt_points, quantities, shares_of}
use Rattle.beet_book.specs.Totals.{points_on}
use Rattle.beet_view.specs.Views.{Viewed}
use Rattle.beet_audit.specs.Audits.{IsKnown, IsStep, OneBidder, bidder_at, curve_of, points_of_bidder, value_at}
use Rattle.beet_audit.specs.OneRuns.{Bids, KeepsBid}
use Rattle.beet_audit.proofs.PointFacts.{both-sides, curve-same, item-quantities, item-shares, length-quantities}
use Rattle.beet_audit.proofs.PointFacts.{lengths-shares, line-one, line-two, line-three, on-line, trio-same, value-on}

-- what falls from each place to the next falls from each to every later one
falls : (f : ℕ → ℕ) (n : ℕ) → ((k j : ℕ) → k < n → k ≡ j + 1 → f k ≤ f j) → (i j : ℕ) → i < j → j < n → f j ≤ f i
falls f n step i zero lt within = absurd (omega arith)
falls f n step i (suc j) lt within =
    let here : f (suc j) ≤ f j = step (suc j) j within (omega arith) in
    elim (cases_lt i j) [
      | inl less ↦ omega (arith, falls f n step i j less (omega arith), here)
      | inr last ↦ let e : j ≡ i = omega arith in subst (λ x. f (suc j) ≤ f x) e here
    ]

rises : (f : ℕ → ℕ) (n : ℕ) → ((k j : ℕ) → k < n → k ≡ j + 1 → f j ≤ f k) → (i j : ℕ) → i < j → j < n → f i ≤ f j
rises f n step i zero lt within = absurd (omega arith)
rises f n step i (suc j) lt within =
    let here : f j ≤ f (suc j) = step (suc j) j within (omega arith) in
    elim (cases_lt i j) [
      | inl less ↦ omega (arith, rises f n step i j less (omega arith), here)
      | inr last ↦ let e : j ≡ i = omega arith in subst (λ x. f x ≤ f (suc j)) e here
    ]

pub some-from : {A : Type 0} (P Q : A → Type 0) (o : Option A) → ((x : A) → P x → Q x) → IfSome o P → IfSome o Q
some-from P Q None f h = tt
some-from P Q (Some x) f h = f x h

-- the slope of the line through the n-th points at 1 and 2
abbrev pub own_slope : Trio (List ℕ) → ℕ → ℕ
own_slope points n = sub_of (points_on points n).two (points_on points n).one

-- each three points are those of this line
abbrev pub OnOwnLines : ℕ → Trio (List ℕ) → Type 0
OnOwnLines prices points = (n : ℕ) → n < 2 * prices → points_on points n ≡ points_of (value_at points n) (own_slope points n)

module _ (prices : ℕ) (points : Trio (List ℕ)) where
  -- what goes on at each place by the rules is a curve
  pub curve-from_steps : ((k : ℕ) → k < prices → IsStep prices (value_at points) k) → IsCurve (curve_of prices points)
  curve-from_steps steps =
      let bought = value_at points in
      let sold = λ (k : ℕ). value_at points (prices + k) in
      record {
        one_length = length-each sold prices ∙ sym (length-each bought prices);
        buy_limit = all-each (λ q. q ≤ LARGEST_QUANTITY) bought prices (λ k lt. (steps k lt).buy_limit);
        sell_limit = all-each (λ q. q ≤ LARGEST_QUANTITY) sold prices (λ k lt. (steps k lt).sell_limit);
        buy_never_rises = λ i j d lt within.
            let last : j < prices = omega (arith, length-each bought prices, within) in
            let h = falls bought prices (λ k j lt e. (steps k lt).buy_never_rises j e) i j lt last in
            rw (get_or-each bought prices i d (omega (arith, lt, last)), get_or-each bought prices j d last) h;
        sell_never_falls = λ i j d lt within.
            let last : j < prices = omega (arith, length-each sold prices, within) in
            let h = rises sold prices (λ k j lt e. (steps k lt).sell_never_falls j e) i j lt last in
            rw (get_or-each sold prices i d (omega (arith, lt, last)), get_or-each sold prices j d last) h;
      }

  -- and a curve goes on so
  pub steps-from_curve : IsCurve (curve_of prices points) → (k : ℕ) → k < prices → IsStep prices (value_at points) k
  steps-from_curve curve k lt =
      let bought = value_at points in
      let sold = λ (k : ℕ). value_at points (prices + k) in
      record {
        buy_limit = let h = All-get_or (λ q. q ≤ LARGEST_QUANTITY) (each bought prices) k 0
            (omega (arith, length-each bought prices, lt)) curve.buy_limit in
            rw (get_or-each bought prices k 0 lt) at h;
        sell_limit = let h = All-get_or (λ q. q ≤ LARGEST_QUANTITY) (each sold prices) k 0
            (omega (arith, length-each sold prices, lt)) curve.sell_limit in
            rw (get_or-each sold prices k 0 lt) at h;
        buy_never_rises = λ j e.
            let h = curve.buy_never_rises j k 0 (omega (arith, e)) (omega (arith, length-each bought prices, lt)) in
            rw (get_or-each bought prices j 0 (omega (arith, e, lt)), get_or-each bought prices k 0 lt) at h;
        sell_never_falls = λ j e.
            let h = curve.sell_never_falls j k 0 (omega (arith, e)) (omega (arith, length-each sold prices, lt)) in
            rw (get_or-each sold prices j 0 (omega (arith, e, lt)), get_or-each sold prices k 0 lt) at h;
      }

  -- points on lines are those of the quantities that they recombine to
  module _ (long : HasLengths points (2 * prices)) (elements : (n : ℕ) → n < 2 * prices → AreElements (points_on points n))
      (lines : (n : ℕ) → n < 2 * prices → IsLine (points_on points n)) where
    pub on-own-line : OnOwnLines prices points
    on-own-line n lt =
        let here = points_on points n in
        let e = elements n lt in
        let l = lines n lt in
        λ j. record {
          one = sym (line-one here.one here.two e.0 e.1.0) j;
          two = sym (line-two here.one here.two e.0 e.1.0) j;
          three = sym (line-three here.one here.two here.three e.0 e.1.0 e.1.1 l) j;
        }

    pub shares-from_lines : AreShares (quantities (curve_of prices points)) points
    shares-from_lines = record {
      slopes = each (own_slope points) (2 * prices);
      paired = length-each (own_slope points) (2 * prices) ∙ sym (length-quantities prices points);
      shares =
          let vs = quantities (curve_of prices points) in
          let ss = each (own_slope points) (2 * prices) in
          let many = length-quantities prices points in
          let paired = length-each (own_slope points) (2 * prices) in
          trio-same points (shares_of vs ss) (2 * prices) long (lengths-shares vs ss (2 * prices) many (omega (arith, paired)))
          (λ k lt.
          on-own-line k lt
          ∙ ap (λ v. points_of v (own_slope points k)) (sym (item-quantities prices points k lt))
          ∙ ap (points_of (slice_index vs k)) (sym (item-each (own_slope points) (2 * prices) k lt))
          ∙ sym (item-shares vs ss k (omega (arith, many, lt)) (omega (arith, paired, lt))));
    }

  pub of-grid : (grid : Grid) → grid.prices ≡ prices → IsOfGrid grid (curve_of prices points)
  of-grid grid e = record {
    buy_length = length-each (value_at points) prices ∙ sym e;
    sell_length = length-each (λ k. value_at points (prices + k)) prices ∙ sym e;
  }

-- points of lines with the quantities of a curve
module _ (grid : Grid) (points : Trio (List ℕ)) (curve : Curve) (is_curve : IsCurve curve)
    (of_grid : IsOfGrid grid curve) (x : AreShares (quantities curve) points) where
  many : length (quantities curve) ≡ 2 * grid.prices
  many = omega (arith, length-append curve.buy curve.sell, of_grid.buy_length, of_grid.sell_length)

  small : (n : ℕ) → n < 2 * grid.prices → slice_index (quantities curve) n < p
  small n lt =
      let h = All-get_or (λ q. q ≤ LARGEST_QUANTITY) (quantities curve) n 0 (omega (arith, many, lt))
      (All-append (λ q. q ≤ LARGEST_QUANTITY) curve.buy curve.sell is_curve.buy_limit is_curve.sell_limit) in
      omega (arith, h)

  on-line-of : (n : ℕ) → n < 2 * grid.prices → points_on points n ≡ points_of (slice_index (quantities curve) n) (slice_index x.slopes n)
  on-line-of n lt =
      ap (λ t. points_on t n) x.shares
      ∙ item-shares (quantities curve) x.slopes n (omega (arith, many, lt)) (omega (arith, many, x.paired, lt))

  pub is-line : (n : ℕ) → n < 2 * grid.prices → IsLine (points_on points n)
  is-line n lt = subst IsLine (sym (on-line-of n lt)) (on-line (slice_index (quantities curve) n) (slice_index x.slopes n))

  value-of : (n : ℕ) → n < 2 * grid.prices → value_at points n ≡ slice_index (quantities curve) n
  value-of n lt = ap recombined (on-line-of n lt) ∙ value-on (slice_index (quantities curve) n) (slice_index x.slopes n) (small n lt)

  -- recombine to the curve
  pub recombines : curve ≡ curve_of grid.prices points
  recombines =
      curve-same curve grid.prices points of_grid.buy_length of_grid.sell_length
      (λ k lt. sym (value-of k (omega (arith, lt)) ∙ get_or_append_left curve.buy curve.sell 0 k (omega (arith, of_grid.buy_length, lt))))
      (λ k lt.
      sym (value-of (grid.prices + k) (omega (arith, lt)) ∙ ap (λ n. slice_index (quantities curve) (n + k)) (sym of_grid.buy_length)
      ∙ get_or-append-add curve.buy curve.sell k 0))

module _ (grid : Grid) (views : Trio Viewed) (i : ℕ) where
  -- nothing is wrong with a bidder that bids a curve
  pub right-from_bids : (curve : Curve) → Bids grid views i curve → OneBidder grid.prices views i None
  right-from_bids curve b =
      let points = points_of_bidder views i in
      let line = is-line grid points curve b.is_curve b.of_grid b.shares in
      let same = recombines grid points curve b.is_curve b.of_grid b.shares in (
        λ k lt. line (0 + k) (omega (arith, lt)),
        (
          λ k lt. line (grid.prices + k) (omega (arith, lt)),
          (
            steps-from_curve grid.prices points (subst IsCurve same b.is_curve),
            λ s. some-from (KeepsBid grid curve points) (IsKnown grid.prices points) (bidder_at (member views s) i).own
                (λ own k. record {
                  curve = k.bid ∙ same;
                  words = k.words;
                  deals = k.deals ∙ ap (λ c. dealt_points c (accepted own.1)) (sym k.bid);
                }) (b.known s),
          ),
        ),
      )

  -- and a bidder with which nothing is wrong bids what its points recombine to
  pub bids-from_right : HasLengths (points_of_bidder views i) (2 * grid.prices) →
      ((n : ℕ) → n < 2 * grid.prices → AreElements (points_on (points_of_bidder views i) n)) → OneBidder grid.prices views i None →
      Bids grid views i (curve_of grid.prices (points_of_bidder views i))
  bids-from_right long elements right =
      let points = points_of_bidder views i in
      let curve = curve_of grid.prices points in
      let prices = grid.prices in
      record {
        is_curve = curve-from_steps prices points right.1.1.0;
        of_grid = of-grid prices points grid refl;
        shares = shares-from_lines prices points long elements
            (both-sides (λ m. IsLine (points_on points m)) prices right.0 right.1.0);
        known = λ s. some-from (IsKnown prices points) (KeepsBid grid curve points) (bidder_at (member views s) i).own
            (λ own k. record {
              bid = k.curve;
              words = k.words;
              deals = k.deals ∙ ap (λ c. dealt_points c (accepted own.1)) k.curve;
            }) (right.1.1.1 s);
      }
