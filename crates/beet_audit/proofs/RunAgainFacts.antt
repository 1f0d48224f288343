-- Three servers run again on the points and the tapes of three views.
use Rattle.std.proofs.Common.{◌≡◌, ◌*◌, ℕ, List, length, refl, sym, ◌∙◌, ap, subst}
use Rattle.beet_field.specs.Trio.{member, of_each}
use Rattle.beet_field.specs.declared.point.Point.{Point}
use Rattle.beet_field.specs.declared.point.Point.TheVariants.{One, Two, Three}
use Rattle.beet_field.specs.declared.trio.Trio.{Trio}
use Rattle.beet_bids.specs.Grids.{Grid}
use Rattle.beet_plan.specs.Auction.{Auction, auction_batch, most_rounds}
use Rattle.beet_book.specs.PointSums.{AddsUp, inputs_at}
use Rattle.beet_book.specs.Totals.{Totals, wires_of}
use Rattle.beet_server.specs.Cores.{Core}
use Rattle.beet_sharing.specs.Runs.{Setup, rounds_among}
use Rattle.beet_server.specs.Lockstep.{HaveEnded, IsAtRound}
use Rattle.beet_auction.specs.Setups.{inputs_of}
use Rattle.beet_auction.proofs.AddedPoints.{inputs-many}
use Rattle.beet_load.specs.Counts.{counts_of}
use Rattle.beet_load.specs.Servers.{HasEnough, HaveEnough, ServerWords}
use Rattle.beet_run.specs.Runs.{EndsAuction, Starts, setup_with}
use Rattle.beet_run.proofs.Ending.{ends-auction, has-ended-run}
use Rattle.beet_view.specs.Views.{Viewed}
use Rattle.beet_audit.specs.Audits.{RunsAgain, all_points, rounds_of, run_of, words_in}

module _ (grid : Grid) (views : Trio Viewed) (inputs : Trio (List ℕ)) (totals : Totals) (i : inputs ≡ wires_of totals)
    (sums : AddsUp grid totals (all_points views))
    (words : Trio ServerWords) (w : words ≡ of_each words_in views) where
  inputs-are : inputs ≡ inputs_at grid.prices (all_points views)
  inputs-are = i ∙ ap wires_of sums

  pub many : (s : Point) → length (member inputs s) ≡ 2 * grid.prices
  many s = ap (λ t. length (member t s)) inputs-are ∙ inputs-many grid.prices (all_points views) s

  pub enough : ((s : Point) → HasEnough (counts_of grid) (words_in (member views s))) → HaveEnough (counts_of grid) words
  enough h = subst (HaveEnough (counts_of grid)) (sym w) (record { one = h One; two = h Two; three = h Three })

  same-setup : setup_with grid inputs words ≡ run_of grid views
  same-setup = ap (λ (x : Trio (List ℕ)). setup_with grid x words) inputs-are
      ∙ ap (setup_with grid (inputs_at grid.prices (all_points views))) w

  module _ (start cores : Trio (Core Auction)) (starts : Starts grid inputs words start)
      (ended : HaveEnded auction_batch inputs_of most_rounds start cores) where
    stands : (s : Point) → IsAtRound auction_batch (run_of grid views) (rounds_of grid views) s (member cores s)
    stands s =
        let o = run_of grid views in
        subst (λ n. IsAtRound auction_batch o n s (member cores s)) (ap (λ a. rounds_among o (most_rounds a)) (starts.script One))
        (subst (λ (x : Setup). IsAtRound auction_batch x (rounds_among x (most_rounds start.one.script)) s
        (member cores s)) (starts.setup ∙ same-setup) (ended.ended s))

    -- and so they have run to the end
    pub ran : RunsAgain grid views cores
    ran = record {
      stands = stands;
      ended = has-ended-run grid inputs words start starts cores ended;
      ends = λ finish named.
          let run = ends-auction grid inputs words start starts cores ended finish cores.one.round named refl in
          subst (λ (t : Trio (List ℕ)). EndsAuction grid t (of_each words_in views) finish (rounds_of grid views)) inputs-are
          (subst (λ (t : Trio ServerWords). EndsAuction grid inputs t finish (rounds_of grid views)) w
          (subst (λ n. EndsAuction grid inputs words finish n) (stands One).round run));
    }
