-- What the audit answers.
use Rattle.std.proofs.Common.{◌≡◌, ◌≢◌, ◌<◌, ℕ, List, length, None, Some, Option, Result, Ok, Err, ◌∙◌, subst}
use Rattle.std.specs.Prelude.{IfOk, IsErrAnd, MatchResult}
use Rattle.std.proofs.lemmas.Result.{err_from_is_err_and}
use Rattle.beet_field.specs.Trio.{member, of_each}
use Rattle.beet_field.specs.declared.point.Point.{Point}
use Rattle.beet_field.specs.declared.point.Point.TheVariants.{One}
use Rattle.beet_field.specs.declared.trio.Trio.{Trio}
use Rattle.beet_gates.specs.Plans.{plan_finish}
use Rattle.beet_bids.specs.Grids.{Grid}
use Rattle.beet_plan.specs.Auction.{Auction, auction_plan}
use Rattle.beet_plan.specs.declared.Finish.{Finish}
use Rattle.beet_server.specs.Cores.{Core}
use Rattle.beet_auction.specs.Endings.{book_finish, book_rounds}
use Rattle.beet_view.specs.Views.{Viewed, IsView}
use Rattle.beet_audit.specs.Audits.{Finds, HaveElements, Header, HeaderFits, OneBidder, RoundMessages, Rounds}
use Rattle.beet_audit.specs.Audits.{RunsAgain, Tapes, curve_of, points_of_bidder, recombined_book, rounds_of, run_of}
use Rattle.beet_audit.specs.Audits.{words_in}
use Rattle.beet_audit.specs.OneRuns.{Bids, OneRun}
use Rattle.beet_audit.specs.declared.auditing.Audited.{Audited}
use Rattle.beet_audit.specs.Verdicts.{EachBelow, EachServer, Judges}
use Rattle.beet_audit.specs.declared.fault.AuditFault.{AuditFault}
use Rattle.beet_audit.specs.declared.fault.AuditFault.TheVariants.{OutOfMemory}
use Rattle.beet_audit.proofs.BidFacts.{OnOwnLines, bids-from_right, is-line, on-own-line}
use Rattle.beet_audit.proofs.FinishFacts.{ends-recombined}
use Rattle.beet_audit.proofs.OneRunFacts.{one-from_right, right-from_one, tells-finds}
use Rattle.beet_audit.proofs.PointFacts.{have-lengths}
use Rattle.beet_audit.proofs.VerdictFacts.{each-server}

module _ (grid : Grid) (views : Trio Viewed) where
  -- the five parts of what is looked for
  abbrev pub Headers : Option AuditFault → Type 0
  Headers = EachServer (Header grid views)

  abbrev pub Bidders : Option AuditFault → Type 0
  Bidders = EachBelow (length views.one.bidders) (OneBidder grid.prices views)

  abbrev pub AllTapes : Option AuditFault → Type 0
  AllTapes = EachServer (Tapes grid views)

  abbrev pub AllRounds : Option AuditFault → Type 0
  AllRounds = EachServer (Rounds views (rounds_of grid views))

  abbrev pub AllMessages : Option AuditFault → Type 0
  AllMessages = EachBelow (rounds_of grid views) (RoundMessages (run_of grid views) views)

  -- where something is wrong the views are of no run
  pub not-one : {U : Type 0} (result : Result U AuditFault) (fault : AuditFault) → IsErrAnd result (λ e. e ≡ fault) →
      Judges (Finds grid views) result →
      MatchResult result (λ (done : U). OneRun grid views) (λ fault. fault ≢ OutOfMemory → OneRun grid views → ⊥)
  not-one {U = U} result fault e h =
      let p = err_from_is_err_and result e in
      let found : Judges {T = U} (Finds grid views) (Err p.0) = subst (Judges {T = U} (Finds grid views)) p.1 h in
      rw p.1 (λ ne one. tells-finds grid views p.0 (right-from_one grid views one) (found ne))

  module _ (limits : (s : Point) → IsView (member views s)) (elements : HaveElements grid views) (right : Finds grid views None) where
    pub is-one : OneRun grid views
    is-one = one-from_right grid views limits elements right

    fits : (s : Point) → HeaderFits grid views.one s (member views s)
    fits = each-server (Header grid views) right.0

    bid-at : (i : ℕ) → i < length views.one.bidders → Bids grid views i (curve_of grid.prices (points_of_bidder views i))
    bid-at i lt = bids-from_right grid views i (have-lengths grid views fits limits i lt) (elements i lt) (right.1.0 i lt)

    on-lines : (i : ℕ) → i < length views.one.bidders → OnOwnLines grid.prices (points_of_bidder views i)
    on-lines i lt =
        let points = points_of_bidder views i in
        on-own-line grid.prices points (have-lengths grid views fits limits i lt) (elements i lt)
        (is-line grid points (curve_of grid.prices points) (bid-at i lt).is_curve (bid-at i lt).of_grid (bid-at i lt).shares)

    -- the run ends with the outcome of the curves that the points recombine to
    pub ends : (cores : Trio (Core Auction)) (finish : Finish) → RunsAgain grid views cores →
        plan_finish (auction_plan cores.one.script) cores.one.opened ≡ Some finish →
        (finish ≡ book_finish (recombined_book grid views) (of_each (λ (view : Viewed). view.masks) views))
        × (cores.one.round ≡ book_rounds (recombined_book grid views) (of_each (λ (view : Viewed). view.masks) views))
    ends cores finish ran named =
        let run = ends-recombined grid views (limits One).few (λ i lt. (bid-at i lt).is_curve) on-lines
        (of_each words_in views) finish (rounds_of grid views)
        (ran.ends finish named) in
        (run.0, (ran.stands One).round ∙ run.1)

module _ (grid : Grid) (views : Trio Viewed) (limits : (s : Point) → IsView (member views s)) (elements : HaveElements grid views) where
  abbrev Masks : Trio (List ℕ)
  Masks = of_each (λ (view : Viewed). view.masks) views

  -- what is answered at the end
  pub judged-one : (result : Result Audited AuditFault) → Judges (Finds grid views) result →
      MatchResult result (λ (done : Audited). OneRun grid views) (λ fault. fault ≢ OutOfMemory → OneRun grid views → ⊥)
  judged-one (Ok a) h = is-one grid views limits elements h
  judged-one (Err fault) h = λ ne one. tells-finds grid views fault (right-from_one grid views one) (h ne)

  pub judged-finish : (result : Result Audited AuditFault) (cores : Trio (Core Auction)) →
      Judges (Finds grid views) result → RunsAgain grid views cores →
      IfOk result (λ a. plan_finish (auction_plan cores.one.script) cores.one.opened ≡ Some a.finish) →
      IfOk result (λ a. a.finish ≡ book_finish (recombined_book grid views) Masks)
  judged-finish (Ok a) cores h ran named = (ends grid views limits elements h cores a.finish ran named).0
  judged-finish (Err fault) cores h ran named = tt

  pub judged-rounds : (result : Result Audited AuditFault) (cores : Trio (Core Auction)) →
      Judges (Finds grid views) result → RunsAgain grid views cores →
      IfOk result (λ a. plan_finish (auction_plan cores.one.script) cores.one.opened ≡ Some a.finish) →
      IfOk result (λ a. a.rounds ≡ cores.one.round) →
      IfOk result (λ a. a.rounds ≡ book_rounds (recombined_book grid views) Masks)
  judged-rounds (Ok a) cores h ran named counted = counted ∙ (ends grid views limits elements h cores a.finish ran named).1
  judged-rounds (Err fault) cores h ran named counted = tt
