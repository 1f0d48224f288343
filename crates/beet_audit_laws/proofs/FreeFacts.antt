-- Views that are the same as those of one run, in all that the run uses, are of one run too.
use Rattle.std.proofs.Common.{◌≡◌, ◌≤◌, ◌<◌, ◌*◌, ℕ, [], length, slice_index, None, arith, sym, ◌∙◌, ap, subst}
use Rattle.std.proofs.lemmas.List.{get_or_default}
use Rattle.beet_field.specs.Trio.{member}
use Rattle.beet_field.specs.declared.point.Point.{Point}
use Rattle.beet_field.specs.declared.point.Point.TheVariants.{One, Two, Three}
use Rattle.beet_field.specs.declared.trio.Trio.{Trio}
use Rattle.beet_gates.specs.Clear.{is_end}
use Rattle.beet_gates.specs.Scripts.{Standing, bounds_of}
use Rattle.beet_gates.proofs.EachFacts.{each-same}
use Rattle.beet_bids.specs.Grids.{Grid}
use Rattle.beet_plan.specs.Auction.{Auction, auction_over, most_coefficients, most_masks, most_rounds, most_wires}
use Rattle.beet_plan.proofs.AuctionLaw.{auction-law}
use Rattle.beet_book.specs.Dealing.{AreShares, quantities}
use Rattle.beet_round.specs.Sides.{peer}
use Rattle.beet_round.specs.declared.sides.Side.TheVariants.{Low, High}
use Rattle.beet_sharing.specs.Runs.{HasRounds, Setup, coming, rounds_among, shared_at, standing_at}
use Rattle.beet_sharing.proofs.Rounds.{among-rounds, lawful-rounds}
use Rattle.beet_sharing.specs.Seen.{round_seen, rounds_seen}
use Rattle.beet_sharing.proofs.SameRuns.{UseSame, message-same, run-same, uses-below}
use Rattle.beet_view.specs.declared.view.Seen.{Seen}
use Rattle.beet_view.specs.Views.{Viewed}
use Rattle.beet_audit.specs.Audits.{bidder_at, marks_in, points_of_bidder, rounds_of, run_of}
use Rattle.beet_audit.specs.OneRuns.{Bids, OneRun}
use Rattle.beet_audit.proofs.PointFacts.{marks-same}
use Rattle.beet_audit_laws.specs.InUse.{SameAmong}
use Rattle.beet_audit_laws.proofs.KeptWords.{keeps-alike}
use Rattle.beet_audit_laws.proofs.SharedPoints.{BothRuns, both-runs, masks-at, numbers-at, run, run', same-setup}
use Rattle.beet_audit_laws.proofs.ThirdFacts.{bidders-many}

module _ (grid : Grid) (views others : Trio Viewed) (one : OneRun grid views)
    (same : (s : Point) → SameAmong grid views s (member others s)) where
  count : length others.one.bidders ≡ length views.one.bidders
  count = (same One).count

  within : (s : Point) (n : ℕ) → n < length views.one.bidders → n < length (member views s).bidders
  within s n lt = subst (λ k. n < k) (sym (bidders-many grid views one s)) lt

  points : (n : ℕ) → n < length views.one.bidders → points_of_bidder others n ≡ points_of_bidder views n
  points n lt = λ x. record {
    one = ((same One).bidders n (within One n lt)).points x;
    two = ((same Two).bidders n (within Two n lt)).points x;
    three = ((same Three).bidders n (within Three n lt)).points x;
  }

  same-marks : (s : Point) → marks_in (member others s) ≡ marks_in (member views s)
  same-marks s =
      let nobody : Seen = record { known = None; points = []; own = None } in
      let first = (member views s).bidders in
      let bidders = (member others s).bidders in
      marks-same first bidders (same s).count
      (λ k d lt.
      let lt' : k < length bidders = subst (λ m. k < m) (sym (same s).count) lt in
      ap (λ (seen : Seen). seen.known) (get_or_default bidders k d nobody lt')
      ∙ ((same s).bidders k lt).mark
      ∙ ap (λ (seen : Seen). seen.known) (get_or_default first k nobody d lt))

  abbrev o : Setup
  o = run grid views others count points

  abbrev o' : Setup
  o' = run' grid views others count points

  abbrev both : BothRuns
  both = both-runs grid views others count points

  abbrev rounds : ℕ
  rounds = rounds_of grid views

  setup : run_of grid others ≡ o'
  setup = same-setup grid views others count points

  -- the run uses the same
  below : (t : ℕ) → t < rounds →
      UseSame both.masks both.masks' both.numbers both.numbers' (standing_at o t) (coming o t).act
  below =
      uses-below both.script both.inputs both.masks both.masks' both.numbers both.numbers' rounds
      (λ s n lt. ap (λ l. slice_index l n) (masks-at others s) ∙ (same s).masks n lt ∙ ap (λ l. slice_index l n) (sym (masks-at views s)))
      (λ s n lt. ap (λ l. slice_index l n) (numbers-at others s) ∙ (same s).numbers n lt
      ∙ ap (λ l. slice_index l n) (sym (numbers-at views s)))

  uses : (t : ℕ) → t < rounds → shared_at o' t ≡ shared_at o t →
      UseSame both.masks both.masks' both.numbers both.numbers' (standing_at o t) (coming o t).act
  uses t lt e = below t lt

  runs : (t : ℕ) → t ≤ rounds → shared_at o' t ≡ shared_at o t
  runs = run-same both.script both.inputs both.masks both.masks' both.numbers both.numbers' rounds uses

  -- and has as many rounds
  abbrev auction : Auction
  auction = auction_over grid

  abbrev bounds : Standing
  bounds = bounds_of (most_wires auction) (most_masks auction) (most_coefficients auction)

  has : HasRounds o rounds × (rounds ≤ most_rounds auction)
  has = lawful-rounds o bounds (most_rounds auction) (2 * grid.prices) (auction-law auction)

  has' : HasRounds o' rounds
  has' =
      let last = runs rounds (omega arith) in
      record {
        ends = (λ x. is_end (both.script rounds (last x).opened).act) ∙ has.0.ends;
        goes = λ t lt.
            let same-before = runs t (omega arith) in
            (λ x. is_end (both.script t (same-before x).opened).act) ∙ has.0.goes t lt;
      }

  rounds-same : rounds_of grid others ≡ rounds
  rounds-same = ap (λ (x : Setup). rounds_among x (most_rounds auction)) setup ∙ among-rounds o' rounds (most_rounds auction) has' has.1

  rounds-at : (s : Point) → (member others s).rounds ≡ rounds_seen (run_of grid others) s (rounds_of grid others)
  rounds-at s =
      (same s).rounds ∙ one.rounds s
      ∙ sym (each-same (round_seen o' s) (round_seen o s) rounds
      (λ t lt.
      let message =
      message-same both.script both.inputs both.masks both.masks' both.numbers both.numbers' rounds uses t lt in
      λ x. (message (peer s Low) s x, message (peer s High) s x)))
      ∙ ap (λ n. rounds_seen o' s n) (sym rounds-same) ∙ ap (λ (x : Setup). rounds_seen x s (rounds_of grid others)) (sym setup)

  -- each bidder bids the same curve
  bids-at : (n : ℕ) → n < length views.one.bidders → Bids grid others n (one.curves n)
  bids-at n lt =
      let bid = one.bids n lt in
      record {
        is_curve = bid.is_curve;
        of_grid = bid.of_grid;
        shares = subst (AreShares (quantities (one.curves n))) (sym (points n lt)) bid.shares;
        known = λ s.
            keeps-alike grid (one.curves n) bid.of_grid (points_of_bidder views n) (points_of_bidder others n) (points n lt)
            (bidder_at (member views s) n).own (bidder_at (member others s) n).own ((same s).bidders n (within s n lt)).kept (bid.known s);
      }

  pub free-run : OneRun grid others
  free-run = record {
    servers = λ s. (same s).server ∙ one.servers s;
    grids = λ s. (same s).over ∙ one.grids s;
    marks = λ s. same-marks s ∙ one.marks s ∙ sym (same-marks One);
    curves = one.curves;
    bids = λ n lt. bids-at n (subst (λ k. n < k) count lt);
    tapes = λ s. (same s).enough;
    rounds = rounds-at;
  }
