-- An audit of what three servers see of the auction of any points finds what is wrong with the points, and nothing else.
use Rattle.std.proofs.Common.{◌≡◌, ◌+◌, ◌<◌, ◌↔◌, ℕ, List, length, get_or, Option, Some, None, inl, inr, arith, sym, ◌∙◌, subst, refl}
use Rattle.beet_field.specs.Trio.{member, trio_of}
use Rattle.beet_field.specs.declared.point.Point.{Point}
use Rattle.beet_field.specs.declared.point.Point.TheVariants.{One, Two, Three}
use Rattle.beet_field.specs.declared.trio.Trio.{Trio}
use Rattle.beet_bids.specs.Grids.{Grid}
use Rattle.beet_errand.specs.Errands.{Answer}
use Rattle.beet_load.specs.Counts.{counts_of}
use Rattle.beet_load.specs.Servers.{HaveEnough, ServerWords}
use Rattle.beet_view.specs.Views.{IsView, Viewed}
use Rattle.beet_transcripts.specs.RunsOn.{view_of_points}
use Rattle.beet_audit.specs.Audits.{Finds, Header, IsKnown, Known, Lines, Monotone, OneBidder, points_of_bidder}
use Rattle.beet_audit.specs.Verdicts.{EachBelow, EachServer, InTurn}
use Rattle.beet_audit.specs.declared.fault.AuditFault.{AuditFault}
use Rattle.beet_audit.specs.declared.fault.Side.TheVariants.{Buy, Sell}
use Rattle.beet_audit.proofs.OneRunFacts.{RunFinds, one-from_right, right-from_one, right-run, tells-headers, tells-run}
use Rattle.beet_audit.proofs.VerdictFacts.{Tells, all-servers}
use Rattle.beet_masking.specs.Masks.{AreMasks}
use Rattle.beet_load.specs.Servers.{masks_of}
use Rattle.beet_job_audit.specs.Ending.{TellsFinding, audit_answer}
use Rattle.beet_job_audit.specs.declared.reading.ReadViews.{ReadViews}
use Rattle.beet_witness_laws.specs.PointAudits.{AnswersPoints, FindsOfPoints, IsOfPoints, OnePoints, points_answer, views_of_points}
use Rattle.beet_witness_laws.specs.SealedCurves.{BidCurves, CanBeWitnessed, no_points}
use Rattle.beet_witness_laws.proofs.FittingPoints.{points-elements, points-view}
use Rattle.beet_witness_laws.proofs.PointRuns.{bid-curves, count, has-words, headers, keeps, messages, one-run, points-of}
use Rattle.beet_witness_laws.proofs.SameTexts.{same-text}

-- two findings find the same
abbrev Alike : (Option AuditFault → Type 0) → (Option AuditFault → Type 0) → Type 0
Alike a b = (found : Option AuditFault) → a found ↔ b found

then-alike : (a b c : Option AuditFault → Type 0) → Alike a b → Alike b c → Alike a c
then-alike a b c first second found = (λ h. (second found).0 ((first found).0 h), λ h. (first found).1 ((second found).1 h))

-- nothing is wrong with the first of two
first-right : (a b : Option AuditFault → Type 0) → Tells a → a None → Alike (InTurn a b) b
first-right a b tells right None = (λ h. h.1, λ h. (right, h))
first-right a b tells right (Some fault) =
    (λ n. elim n [ inl wrong ↦ absurd (tells fault right wrong) | inr rest ↦ rest.1 ], λ h. inr (right, h))

-- nor with the second
second-right : (a b : Option AuditFault → Type 0) → Tells b → b None → Alike (InTurn a b) a
second-right a b tells right None = (λ h. h.0, λ h. (h, right))
second-right a b tells right (Some fault) =
    (λ n. elim n [ inl wrong ↦ wrong | inr rest ↦ absurd (tells fault right rest.1) ], λ h. inl h)

second-alike : (a b c : Option AuditFault → Type 0) → Alike b c → Alike (InTurn a b) (InTurn a c)
second-alike a b c same None = (λ h. (h.0, (same None).0 h.1), λ h. (h.0, (same None).1 h.1))
second-alike a b c same (Some fault) = (
  λ n. elim n [ inl wrong ↦ inl wrong | inr rest ↦ inr (rest.0, (same (Some fault)).0 rest.1) ],
  λ n. elim n [ inl wrong ↦ inl wrong | inr rest ↦ inr (rest.0, (same (Some fault)).1 rest.1) ],
)

below-alike : (n m : ℕ) (a b : ℕ → Option AuditFault → Type 0) → n ≡ m → ((k : ℕ) → k < m → Alike (a k) (b k)) →
    Alike (EachBelow n a) (EachBelow m b)
below-alike n m a b e same None = (
  λ h k lt. (same k lt None).0 (h k (omega (arith, e, lt))),
  λ h k lt. let within : k < m = omega (arith, e, lt) in (same k within None).1 (h k within),
)
below-alike n m a b e same (Some fault) = (
  λ h.
      let within : h.0 < m = omega (arith, e, h.1) in (
        h.0,
        within,
        (λ j lt. let before : j < m = omega (arith, within, lt) in (same j before None).0 (h.2 j lt)),
        (same h.0 within (Some fault)).0 h.3,
      ),
  λ h. (
    h.0,
    omega (arith, e, h.1),
    (λ j lt. let before : j < m = omega (arith, h.1, lt) in (same j before None).1 (h.2 j lt)),
    (same h.0 h.1 (Some fault)).1 h.3,
  ),
)

module _ (grid : Grid) (bidders : List (Trio (List ℕ))) (words : Trio ServerWords) where
  abbrev views : Trio Viewed
  views = trio_of (view_of_points grid bidders words)

  -- nobody is known to a server, so of a bidder there are its points
  bidder-alike : (i : ℕ) → i < length bidders →
      Alike (OneBidder grid.prices views i) (OnePoints grid.prices i (get_or bidders i no_points))
  bidder-alike i lt =
      let points = points_of_bidder views i in
      let buy = Lines grid.prices i points Buy in
      let sell = Lines grid.prices i points Sell in
      let monotone = Monotone grid.prices i points in
      let known = Known grid.prices views i in
      subst (λ x. Alike (OneBidder grid.prices views i) (OnePoints grid.prices i x)) (points-of grid bidders words i lt)
      (second-alike buy (InTurn sell (InTurn monotone known)) (InTurn sell monotone)
      (second-alike sell (InTurn monotone known) monotone
      (second-right monotone known (λ fault h n. n.0 h)
      (keeps grid bidders words (IsKnown grid.prices points) i lt))))

  -- an audit finds what is wrong with the points
  pub audit-alike : HaveEnough (counts_of grid) words → Alike (Finds grid views) (FindsOfPoints grid bidders)
  audit-alike enough =
      let header = EachServer (Header grid views) in
      let each = EachBelow (length views.one.bidders) (OneBidder grid.prices views) in
      let run = RunFinds grid views in
      let right = right-run grid views (has-words grid bidders words enough) (λ s. (headers grid bidders words s).server)
      (messages grid bidders words) in
      then-alike (Finds grid views) (InTurn each run) (FindsOfPoints grid bidders)
      (first-right header (InTurn each run) (tells-headers grid views) (all-servers (Header grid views) (headers grid bidders words)))
      (then-alike (InTurn each run) each (FindsOfPoints grid bidders) (second-right each run (tells-run grid views) right)
      (below-alike (length views.one.bidders) (length bidders) (OneBidder grid.prices views)
      (λ i. OnePoints grid.prices i (get_or bidders i no_points)) (count grid bidders words) bidder-alike))

-- what is found is a refusal of points
pub of-points : (grid : Grid) (bidders : List (Trio (List ℕ))) (fault : AuditFault) → FindsOfPoints grid bidders (Some fault) →
    IsOfPoints fault
of-points grid bidders fault h = elim h.3 [
  | inl buy ↦ inl (h.0 + 1, buy.0, Buy, buy.3.1)
  | inr rest ↦ elim rest.1 [
    | inl sell ↦ inl (h.0 + 1, sell.0, Sell, sell.3.1)
    | inr step ↦ inr (h.0 + 1, step.1.0, step.1.3.1)
  ]
]

module _ (grid : Grid) (bidders : List (Trio (List ℕ))) (words : Trio ServerWords) (can : CanBeWitnessed grid bidders words) where
  abbrev read : ReadViews
  read = views_of_points grid bidders words

  each-view : (s : Point) → IsView (member read.views s)
  each-view One = points-view grid bidders words can One
  each-view Two = points-view grid bidders words can Two
  each-view Three = points-view grid bidders words can Three

  alike : Alike (Finds grid read.views) (FindsOfPoints grid bidders)
  alike = audit-alike grid bidders words can.enough

  -- nothing is wrong with points that are those of curves, and with no others
  pub right-curves : FindsOfPoints grid bidders None ↔ BidCurves grid bidders
  right-curves = (
    λ h. bid-curves grid bidders words
        (one-from_right grid read.views each-view (points-elements grid bidders words can) ((alike None).1 h)),
    λ h. (alike None).0 (right-from_one grid read.views (one-run grid bidders words can.enough h)),
  )

  masks : AreMasks (masks_of words)
  masks = record { one = can.masks One; two = can.masks Two; three = can.masks Three }

  same-answer : (found : Option AuditFault) → FindsOfPoints grid bidders found →
      audit_answer read found ≡ points_answer grid bidders words found
  same-answer None h = sym (same-text grid bidders words can.few can.held masks (right-curves.0 h))
  same-answer (Some fault) h = refl

  -- an answer that tells what is found tells it of the points
  pub answers-points : (answer : Answer) → TellsFinding read answer → AnswersPoints grid bidders words answer
  answers-points answer tells =
      let finds = (alike tells.found).0 tells.finds in
      record { found = tells.found; finds = finds; is = tells.is ∙ same-answer tells.found finds }
