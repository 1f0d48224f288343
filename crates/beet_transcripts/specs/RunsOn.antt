-- Three servers that have run the auction on any points of the inputs, and what each of them sees of it.
use Rattle.std.specs.Prelude.{ℕ, List, [], ◌∷◌, map, None}
use Rattle.beet_field.specs.Trio.{member}
use Rattle.beet_field.specs.declared.point.Point.{Point}
use Rattle.beet_field.specs.declared.point.Point.TheVariants.{One, Two, Three}
use Rattle.beet_field.specs.declared.trio.Trio.{Trio}
use Rattle.beet_store.specs.Files.{File}
use Rattle.beet_bids.specs.Grids.{Grid}
use Rattle.beet_plan.specs.Auction.{Auction, auction_over, most_rounds}
use Rattle.beet_plan.specs.declared.Finish.{Finish}
use Rattle.beet_server.specs.Cores.{Core}
use Rattle.beet_sharing.specs.Runs.{rounds_among}
use Rattle.beet_book.specs.PointSums.{inputs_at}
use Rattle.beet_errand.specs.Errands.{Answer, file_for}
use Rattle.beet_load.specs.Servers.{ServerWords}
use Rattle.beet_run.specs.Outcomes.{outcome_answer}
use Rattle.beet_run.specs.Runs.{EndsAuction, HaveRunToEnd, setup_with}
use Rattle.beet_view.specs.RunViews.{view_of_run}
use Rattle.beet_view.specs.Transcripts.{view_bytes}
use Rattle.beet_view.specs.Views.{Viewed}
use Rattle.beet_view.specs.declared.view.Seen.{Seen}

-- the rounds of the auction over a grid on these points of the inputs, with these words of the servers
abbrev pub rounds_on : Grid → Trio (List ℕ) → Trio ServerWords → ℕ
rounds_on grid inputs words = rounds_among (setup_with grid inputs words) (most_rounds (auction_over grid))

-- what a server sees of that run, with these bidders
abbrev pub view_on : Grid → Trio (List ℕ) → Trio ServerWords → List Seen → Point → Viewed
view_on grid inputs words bidders s =
    view_of_run (setup_with grid inputs words) s (rounds_on grid inputs words) grid bidders (member words s).masks
    (member words s).coefficients

-- a bidder of which nobody knows more than its points, as a server sees it
abbrev pub seen_sealed : Point → Trio (List ℕ) → Seen
seen_sealed s points = record { known = None; points = member points s; own = None }

-- what a server sees of the auction of bidders who are known by their points alone
abbrev pub view_of_points : Grid → List (Trio (List ℕ)) → Trio ServerWords → Point → Viewed
view_of_points grid bidders words s =
    view_on grid (inputs_at grid.prices bidders) words (map (seen_sealed s) bidders) s

-- three servers have run the auction over a grid on these points of the inputs, with these words, and it ends so
pub record HasRunOn (grid : Grid) (inputs : Trio (List ℕ)) (words : Trio ServerWords) (cores : Trio (Core Auction))
    (finish : Finish) (rounds : ℕ) : Type 0 where
  pub ran : HaveRunToEnd grid inputs words cores
  pub ends : EndsAuction grid inputs words finish rounds

-- the transcript of a server of such a run in its file
abbrev pub file_on : List ℕ → Grid → Trio (List ℕ) → Trio ServerWords → Trio (List Seen) → Point → File
file_on out grid inputs words seen s = (file_for out s, view_bytes (view_on grid inputs words (member seen s) s))

-- the answer for such a run: the transcripts of servers 1, 2 and 3, and how it ended
abbrev pub answer_on : List ℕ → Grid → Trio (List ℕ) → Trio ServerWords → Trio (List Seen) → Finish → ℕ → Answer
answer_on out grid inputs words seen finish rounds =
    let file : Point → File = file_on out grid inputs words seen in
    record (outcome_answer grid finish rounds) { files = file One ∷ file Two ∷ file Three ∷ [] }
