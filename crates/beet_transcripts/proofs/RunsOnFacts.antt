-- What three servers that have run the auction on any points have seen, and how their run ended.
use Rattle.std.proofs.Common.{◌≡◌, ℕ, List, [], ◌∷◌, ap, ◌∙◌, subst, Some, Vec, Global}
use Rattle.beet_field.specs.Trio.{member}
use Rattle.beet_field.specs.declared.point.Point.{Point}
use Rattle.beet_field.specs.declared.point.Point.TheVariants.{One, Two, Three}
use Rattle.beet_field.specs.declared.trio.Trio.{Trio}
use Rattle.beet_store.specs.Files.{File}
use Rattle.beet_gates.specs.Plans.{plan_finish}
use Rattle.beet_bids.specs.Grids.{Grid}
use Rattle.beet_plan.specs.Auction.{Auction, auction_batch, auction_over, auction_plan, most_rounds}
use Rattle.beet_plan.specs.declared.Finish.{Finish}
use Rattle.beet_server.specs.Cores.{Core}
use Rattle.beet_server.specs.Lockstep.{IsAtRound}
use Rattle.beet_sharing.specs.Runs.{Setup, rounds_among}
use Rattle.beet_errand.specs.Errands.{Answer, file_for}
use Rattle.beet_load.specs.Servers.{ServerWords}
use Rattle.beet_run.specs.Outcomes.{outcome_answer}
use Rattle.beet_run.specs.Runs.{EndsAuction, HaveRunToEnd, setup_with}
use Rattle.beet_run.proofs.BookRuns.{one-end}
use Rattle.beet_run.proofs.Ending.{ends-auction}
use Rattle.beet_view.specs.RunViews.{core_transcript, view_of_run}
use Rattle.beet_view.specs.Transcripts.{view_bytes}
use Rattle.beet_view.specs.declared.view.Seen.{Seen}
use Rattle.beet_view.proofs.RunFacts.{view-fits}
use Rattle.beet_transcripts.specs.RunsOn.{answer_on, rounds_on, view_on}

module _ (grid : Grid) (inputs : Trio (List ℕ)) (words : Trio ServerWords) (cores : Trio (Core Auction))
    (h : HaveRunToEnd grid inputs words cores) where
  stands : (s : Point) → IsAtRound auction_batch (setup_with grid inputs words) (rounds_on grid inputs words) s (member cores s)
  stands s =
      let o = setup_with grid inputs words in
      subst (λ n. IsAtRound auction_batch o n s (member cores s)) (ap (λ a. rounds_among o (most_rounds a)) (h.starts.script One))
      (subst (λ (x : Setup). IsAtRound auction_batch x (rounds_among x (most_rounds h.start.one.script)) s (member cores s))
      h.starts.setup (h.ended.ended s))

  -- the view of each server is that of the run
  shows : (bidders : List Seen) (s : Point) →
      view_of_run (setup_with grid inputs words) (member cores s).me (member cores s).round grid bidders
      (member cores s).masks.words (member cores s).coefficients.words
      ≡ view_on grid inputs words bidders s
  shows bidders s =
      let o = setup_with grid inputs words in
      let c = member cores s in
      let n = rounds_on grid inputs words in
      ap (λ (me : Point). view_of_run o me c.round grid bidders c.masks.words c.coefficients.words) (stands s).name
      ∙ ap (λ (k : ℕ). view_of_run o s k grid bidders c.masks.words c.coefficients.words) (stands s).round
      ∙ ap (λ (l : List ℕ). view_of_run o s n grid bidders l c.coefficients.words) (h.ended.masks s ∙ h.starts.masks s)
      ∙ ap (view_of_run o s n grid bidders (member words s).masks) (h.ended.coefficients s ∙ h.starts.coefficients s)

  -- so its transcript is that of the run
  pub transcript-on : (s : Point) (bidders items : List Seen) (file : List ℕ) → items ≡ bidders →
      file ≡ core_transcript (member cores s) grid items → file ≡ view_bytes (view_on grid inputs words bidders s)
  transcript-on s bidders items file i tells =
      let o = setup_with grid inputs words in
      let c = member cores s in
      tells
      ∙ ap view_bytes (view-fits auction_batch o _ c (stands s).fits grid items)
      ∙ ap (λ (l : List Seen). view_bytes (view_of_run o c.me c.round grid l c.masks.words c.coefficients.words)) i
      ∙ ap view_bytes (shows bidders s)

  -- the finish that is named and the rounds that are counted are those with which the run ends
  pub ends-so : (named finish : Finish) (counted rounds : ℕ) →
      plan_finish (auction_plan cores.one.script) cores.one.opened ≡ Some named → counted ≡ cores.one.round →
      EndsAuction grid inputs words finish rounds → (named ≡ finish) × (counted ≡ rounds)
  ends-so named finish counted rounds f n e =
      let ends = ends-auction grid inputs words h.start h.starts cores h.ended named counted f n in
      one-end (auction_over grid) (setup_with grid inputs words) counted rounds named finish ends.ends e.ends

-- three transcripts, server by server
pub all-files : (files : Trio (Vec ℕ Global)) (f : Point → List ℕ) → files.one.items ≡ f One → files.two.items ≡ f Two →
    files.three.items ≡ f Three →
    (s : Point) → (member files s).items ≡ f s
all-files files f one two three One = one
all-files files f one two three Two = two
all-files files f one two three Three = three

-- the reply tells how the run ended, with the transcript of each server
pub answer-on : (out : List ℕ) (grid : Grid) (inputs : Trio (List ℕ)) (words : Trio ServerWords) (seen : Trio (List Seen))
    (named finish : Finish) (counted rounds : ℕ) (made : Answer) (files : List File) (texts : Trio (Vec ℕ Global)) →
    named ≡ finish → counted ≡ rounds → made ≡ outcome_answer grid named counted →
    ((s : Point) → (member texts s).items ≡ view_bytes (view_on grid inputs words (member seen s) s)) →
    files ≡ (file_for out One, texts.one.items) ∷ (file_for out Two, texts.two.items) ∷ (file_for out Three, texts.three.items) ∷ [] →
    record made { files = files } ≡ answer_on out grid inputs words seen finish rounds
answer-on out grid inputs words seen named finish counted rounds made files texts f n m v e =
    let one : (file_for out One, texts.one.items) ≡ (file_for out One, view_bytes (view_on grid inputs words seen.one One)) =
    λ j. (file_for out One, v One j) in
    let two : (file_for out Two, texts.two.items) ≡ (file_for out Two, view_bytes (view_on grid inputs words seen.two Two)) =
    λ j. (file_for out Two, v Two j) in
    let three : (file_for out Three, texts.three.items) ≡ (file_for out Three, view_bytes (view_on grid inputs words seen.three Three)) =
    λ j. (file_for out Three, v Three j) in
    ap (λ (a : Answer). record a { files = files }) m
    ∙ (λ j. record (outcome_answer grid (f j) (n j)) { files = files })
    ∙ ap (λ (fs : List File). record (outcome_answer grid finish rounds) { files = fs }) (e ∙ (λ j. one j ∷ two j ∷ three j ∷ []))
