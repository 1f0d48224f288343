-- When there is a difference between two books, and which.
use Rattle.std.proofs.Common.{◌≡◌, ◌≢◌, ◌<◌, ◌+◌, ◌==◌, ◌&&◌, ℕ, Bool, true, true≢false}
use Rattle.std.proofs.Common.{slice_get, Option, Some, None, refl, sym, ap, ◌∙◌}
use Rattle.std.specs.Prelude.{nat_eq}
use Rattle.std.specs.Cmp.Lexicographic.{pointwise, bytes_decides}
use Rattle.std.specs.Option.{option_eq}
use Rattle.std.proofs.lemmas.Bool.{eq-eqb, eqb-true, and_parts, false_from_ne_true}
use Rattle.beet_field.specs.declared.point.Point.{Point}
use Rattle.beet_bids.specs.Books.{Book}
use Rattle.beet_bids.specs.Curves.{Curve}
use Rattle.beet_bids.specs.Outcomes.{outcome_of}
use Rattle.beet_bids.specs.declared.book.Bidder.{Bidder}
use Rattle.beet_bids.specs.declared.outcomes.Outcome.{Outcome}
use Rattle.beet_bids.specs.declared.outcomes.Outcome.TheVariants.{Price, No}
use Rattle.beet_differences.proofs.Told.{ends-none, ends-some, first-ends, first-none, first-own, first-shape}
use Rattle.beet_differences.proofs.Told.{marks-none, marks-some, option-is, option-own, own-none, own-some}
use Rattle.beet_differences.specs.Differences.{ends_between, own_between}
use Rattle.beet_map.specs.Refused.{DifferFirst}
use Rattle.beet_two_books.specs.Agreement.{marks_of}
use Rattle.beet_two_books.specs.declared.agreeing.MapFault.{MapFault}
use Rattle.beet_two_books.specs.declared.agreeing.MapFault.TheVariants.{ShapeDiffers, OwnBidsDiffer, OutcomesDiffer}
use Rattle.beet_book_differences.specs.Differences.{difference_for, same_curve, same_outcome}

curve-own : (one other : Curve) → other ≡ one → same_curve one other ≡ true
curve-own one other e =
    ap (λ b. b && pointwise nat_eq one.sell other.sell) ((bytes_decides one.buy other.buy).1 (sym (ap (λ (c : Curve). c.buy) e)))
    ∙ (bytes_decides one.sell other.sell).1 (sym (ap (λ (c : Curve). c.sell) e))

curve-is : (one other : Curve) → same_curve one other ≡ true → other ≡ one
curve-is one other e =
    let b = and_parts (pointwise nat_eq one.buy other.buy) (pointwise nat_eq one.sell other.sell) e in
    let buy = (bytes_decides one.buy other.buy).0 b.0 in
    let sell = (bytes_decides one.sell other.sell).0 b.1 in
    sym (λ i. record { buy = buy i; sell = sell i })

outcome-own : (o : Outcome) → same_outcome o o ≡ true
outcome-own No = refl
outcome-own (Price place price volume supply) =
    let own = option-own nat_eq (λ n. eq-eqb n n refl) in
    λ i. (eq-eqb place place refl i) && (eq-eqb price price refl i) && own volume i && own supply i

outcome-is : (one other : Outcome) → same_outcome one other ≡ true → other ≡ one
outcome-is No No e = refl
outcome-is No (Price place price volume supply) e = absurd (true≢false (sym e))
outcome-is (Price place price volume supply) No e = absurd (true≢false (sym e))
outcome-is (Price place price volume supply) (Price place' price' volume' supply') e =
    let is = option-is nat_eq eqb-true in
    let b = and_parts ((place == place') && (price == price') && option_eq nat_eq volume volume') (option_eq nat_eq supply supply') e in
    let c = and_parts ((place == place') && (price == price')) (option_eq nat_eq volume volume') b.0 in
    let d = and_parts (place == place') (price == price') c.0 in
    let w = eqb-true place place' d.0 in
    let x = eqb-true price price' d.1 in
    let y = is volume volume' c.1 in
    let z = is supply supply' b.1 in
    sym (λ i. Price (w i) (x i) (y i) (z i))

module _ (knows : Option Point → Bool) (first second : Book) where
  -- the bidders that are known have the same curves in both
  abbrev pub KnownAlike : Type 0
  KnownAlike =
      (n : ℕ) (x y : Bidder) → slice_get first.bidders n ≡ Some x → slice_get second.bidders n ≡ Some y → knows x.known ≡ true →
      y.curve ≡ x.curve

  -- the first of them that has not
  abbrev known : Option ℕ
  known =
      own_between (λ (bidder : Bidder). knows bidder.known) (λ (one other : Bidder). same_curve one.curve other.curve)
      first.bidders second.bidders

  abbrev ends : Option MapFault
  ends = ends_between same_outcome OutcomesDiffer (outcome_of first) (outcome_of second)

  none-known : KnownAlike → known ≡ None
  none-known k = own-none _ _ first.bidders second.bidders (λ n x y e f h. curve-own x.curve y.curve (k n x y e f h))

  -- there is no difference between books that agree
  pub none-told : marks_of second ≡ marks_of first → KnownAlike → outcome_of second ≡ outcome_of first →
      difference_for knows first second ≡ None
  none-told m k o =
      first-none ShapeDiffers OwnBidsDiffer known ends (marks-none (marks_of first) (marks_of second) m) (none-known k)
      (ends-none same_outcome OutcomesDiffer (outcome_of first) (outcome_of second)
      (ap (same_outcome (outcome_of first)) o ∙ outcome-own (outcome_of first)))

  -- the first bidder of another shape is told
  pub shape-told : (n : ℕ) → DifferFirst (marks_of first) (marks_of second) n →
      difference_for knows first second ≡ Some (ShapeDiffers (n + 1))
  shape-told n d =
      first-shape ShapeDiffers OwnBidsDiffer known ends n
      (marks-some (marks_of first) (marks_of second) n (λ k lt. d.before k lt) d.here)

  -- or else the first that is known and has another curve
  pub own-told : marks_of second ≡ marks_of first → (n : ℕ) (x y : Bidder) → slice_get first.bidders n ≡ Some x →
      slice_get second.bidders n ≡ Some y → knows x.known ≡ true → y.curve ≢ x.curve →
      ((k : ℕ) (v w : Bidder) → k < n → slice_get first.bidders k ≡ Some v → slice_get second.bidders k ≡ Some w →
      knows v.known ≡ true → w.curve ≡ v.curve) →
      difference_for knows first second ≡ Some (OwnBidsDiffer (n + 1))
  own-told m n x y e f h ne before =
      first-own ShapeDiffers OwnBidsDiffer known ends n (marks-none (marks_of first) (marks_of second) m)
      (own-some _ _ first.bidders second.bidders n x y e f h
      (false_from_ne_true (same_curve x.curve y.curve) (λ is. ne (curve-is x.curve y.curve is)))
      (λ k v w lt g i known. curve-own v.curve w.curve (before k v w lt g i known)))

  -- or else both outcomes
  pub outcomes-told : marks_of second ≡ marks_of first → KnownAlike → outcome_of second ≢ outcome_of first →
      difference_for knows first second ≡ Some (OutcomesDiffer (outcome_of first) (outcome_of second))
  outcomes-told m k ne =
      first-ends ShapeDiffers OwnBidsDiffer known ends (OutcomesDiffer (outcome_of first) (outcome_of second))
      (marks-none (marks_of first) (marks_of second) m) (none-known k)
      (ends-some same_outcome OutcomesDiffer (outcome_of first) (outcome_of second)
      (false_from_ne_true (same_outcome (outcome_of first) (outcome_of second))
      (λ e. ne (outcome-is (outcome_of first) (outcome_of second) e))))
