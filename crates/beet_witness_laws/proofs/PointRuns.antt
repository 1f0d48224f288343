-- The views of three servers that run the auction of any points.
use Rattle.std.proofs.Common.{◌≡◌, ◌<◌, ℕ, List, length, get_or, arith, sym, ◌∙◌, ap, subst}
use Rattle.std.specs.Prelude.{IfSome}
use Rattle.std.proofs.lemmas.List.{get_or-map, length-map}
use Rattle.std.proofs.lemmas.Simd.{map-map}
use Rattle.beet_field.specs.Trio.{member, trio_of}
use Rattle.beet_field.specs.declared.point.Point.{Point}
use Rattle.beet_field.specs.declared.point.Point.TheVariants.{One, Two, Three}
use Rattle.beet_field.specs.declared.trio.Trio.{Trio}
use Rattle.beet_gates.specs.Each.{each}
use Rattle.beet_gates.proofs.EachFacts.{each-same, list-each}
use Rattle.beet_bids.specs.Curves.{Curve}
use Rattle.beet_bids.specs.Grids.{Grid}
use Rattle.beet_plan.specs.Auction.{auction_over, most_rounds}
use Rattle.beet_book.specs.Dealing.{AreShares, quantities}
use Rattle.beet_book.specs.PointSums.{inputs_at}
use Rattle.beet_sharing.specs.Runs.{Setup, rounds_among}
use Rattle.beet_sharing.proofs.Lined.{member-trio}
use Rattle.beet_load.specs.Counts.{counts_of}
use Rattle.beet_load.specs.Servers.{HasEnough, HaveEnough, ServerWords}
use Rattle.beet_run.specs.Runs.{setup_with}
use Rattle.beet_sharing.specs.Seen.{rounds_seen}
use Rattle.beet_view.specs.Views.{Viewed}
use Rattle.beet_view.specs.declared.view.Seen.{Seen}
use Rattle.beet_transcripts.specs.RunsOn.{seen_sealed, view_of_points}
use Rattle.beet_audit.specs.Audits.{HeaderFits, all_points, bidder_at, marks_in, points_of_bidder, rounds_of, run_of, words_in}
use Rattle.beet_audit.specs.OneRuns.{KeepsBid, OneRun}
use Rattle.beet_witness_laws.specs.SealedCurves.{BidCurves, no_points}

module _ (grid : Grid) (bidders : List (Trio (List ℕ))) (words : Trio ServerWords) where
  abbrev pub view : Point → Viewed
  view = view_of_points grid bidders words

  abbrev pub views : Trio Viewed
  views = trio_of view

  abbrev pub points : ℕ → Trio (List ℕ)
  points i = get_or bidders i no_points

  pub count : length views.one.bidders ≡ length bidders
  count = length-map bidders (seen_sealed One)

  seen-by : (s : Point) (i : ℕ) → i < length bidders → bidder_at (view s) i ≡ seen_sealed s (points i)
  seen-by s i lt = get_or-map (seen_sealed s) bidders i no_points _ lt

  pub points-of : (i : ℕ) → i < length bidders → points_of_bidder views i ≡ points i
  points-of i lt = λ j. record {
    one = (seen-by One i lt j).points;
    two = (seen-by Two i lt j).points;
    three = (seen-by Three i lt j).points;
  }

  -- the headers of the three views fit together
  pub headers : (s : Point) → HeaderFits grid views.one s (member views s)
  headers s = record {
    server = ap (λ (v : Viewed). v.server) (member-trio view s);
    over = ap (λ (v : Viewed). v.grid) (member-trio view s);
    marks = ap marks_in (member-trio view s) ∙ map-map (λ (seen : Seen). seen.known) (seen_sealed s) bidders
        ∙ sym (map-map (λ (seen : Seen). seen.known) (seen_sealed One) bidders);
  }

  -- no server keeps a curve of any bidder
  pub keeps : (P : Curve × List ℕ → Type 0) (i : ℕ) → i < length bidders → (s : Point) → IfSome (bidder_at (member views s) i).own P
  keeps P i lt s =
      subst (λ (v : Viewed). IfSome (bidder_at v i).own P) (sym (member-trio view s))
      (subst (λ (seen : Seen). IfSome seen.own P) (sym (seen-by s i lt)) tt)

  pub has-words : HaveEnough (counts_of grid) words → (s : Point) → HasEnough (counts_of grid) (words_in (member views s))
  has-words h One = h.one
  has-words h Two = h.two
  has-words h Three = h.three

  pub same-points : all_points views ≡ bidders
  same-points =
      ap (each (points_of_bidder views)) count
      ∙ each-same (points_of_bidder views) points (length bidders) points-of
      ∙ sym (list-each bidders no_points)

  same-run : run_of grid views ≡ setup_with grid (inputs_at grid.prices bidders) words
  same-run = ap (λ (x : List (Trio (List ℕ))). setup_with grid (inputs_at grid.prices x) words) same-points

  -- each server sees the messages of the run
  pub messages : (s : Point) → (member views s).rounds ≡ rounds_seen (run_of grid views) s (rounds_of grid views)
  messages s =
      ap (λ (v : Viewed). v.rounds) (member-trio view s)
      ∙ ap (λ (x : Setup). rounds_seen x s (rounds_among x (most_rounds (auction_over grid)))) (sym same-run)

  -- are of one run, if each bidder's points are those of a curve
  pub one-run : HaveEnough (counts_of grid) words → BidCurves grid bidders → OneRun grid views
  one-run enough h = record {
    servers = λ s. (headers s).server;
    grids = λ s. (headers s).over;
    marks = λ s. (headers s).marks;
    curves = h.curves;
    bids = λ i lt.
        let within : i < length bidders = omega (arith, count, lt) in
        let bid = h.bids i within in
        record {
          is_curve = bid.is_curve;
          of_grid = bid.of_grid;
          shares = subst (AreShares (quantities (h.curves i))) (sym (points-of i within)) bid.shares;
          known = keeps (KeepsBid grid (h.curves i) (points_of_bidder views i)) i within;
        };
    tapes = has-words enough;
    rounds = messages;
  }

  -- and only then
  pub bid-curves : OneRun grid views → BidCurves grid bidders
  bid-curves h = record {
    curves = h.curves;
    bids = λ i lt.
        let bid = h.bids i (omega (arith, count, lt)) in
        record {
          is_curve = bid.is_curve;
          of_grid = bid.of_grid;
          shares = subst (AreShares (quantities (h.curves i))) (points-of i lt) bid.shares;
        };
  }
