-- Nothing is wrong with three views exactly where they are of one run.
use Rattle.std.proofs.Common.{◌≡◌, ◌<◌, ◌+◌, ℕ, List, length, slice_index, Option, None, inl, inr, sym, ◌∙◌}
use Rattle.beet_field.specs.Trio.{member}
use Rattle.beet_field.specs.declared.point.Point.{Point}
use Rattle.beet_field.specs.declared.trio.Trio.{Trio}
use Rattle.beet_shamir.specs.Line.{IsLine}
use Rattle.beet_bids.specs.Grids.{Grid}
use Rattle.beet_book.specs.Totals.{points_on}
use Rattle.beet_round.specs.Sides.{peer}
use Rattle.beet_round.specs.declared.sides.Side.TheVariants.{Low, High}
use Rattle.beet_sharing.specs.Runs.{Setup, message}
use Rattle.beet_sharing.specs.Seen.{rounds_seen}
use Rattle.beet_load.specs.Counts.{counts_of}
use Rattle.beet_load.specs.Servers.{HasEnough}
use Rattle.beet_view.specs.Views.{Viewed, IsView}
use Rattle.beet_audit.specs.Audits.{Finds, HaveElements, Header, HeaderFits, IsStep, Known, Lines, Message, MessageFrom}
use Rattle.beet_audit.specs.Audits.{Monotone, OneBidder, RoundMessages, Rounds, Tapes, curve_of, first_of, held_from}
use Rattle.beet_audit.specs.Audits.{points_of_bidder, rounds_of, run_of, value_at, words_in}
use Rattle.beet_audit.specs.OneRuns.{OneRun}
use Rattle.beet_audit.specs.Verdicts.{Wants, InTurn, EachBelow, EachServer}
use Rattle.beet_audit.specs.declared.fault.AuditFault.{AuditFault}
use Rattle.beet_audit.specs.declared.fault.AuditFault.TheVariants.{NotALine, NotMonotone, LengthDiffers, MessageDiffers}
use Rattle.beet_audit.specs.declared.fault.Side.{Side}
use Rattle.beet_audit.specs.declared.fault.Side.TheVariants.{Buy, Sell}
use Rattle.beet_audit.proofs.BidFacts.{bids-from_right, right-from_bids}
use Rattle.beet_audit.proofs.PointFacts.{have-lengths}
use Rattle.beet_audit.proofs.RoundFacts.{message-right, right-message, rounds-many, seen-all, seen-high, seen-low}
use Rattle.beet_audit.proofs.VerdictFacts.{FindsOne, Tells, all-servers, each-server, one-below, one-servers, one-turn}
use Rattle.beet_audit.proofs.VerdictFacts.{one-wants, tells-below, tells-servers, tells-turn, tells-wants}

module _ (grid : Grid) (views : Trio Viewed) where
  abbrev o : Setup
  o = run_of grid views

  abbrev rounds : ℕ
  rounds = rounds_of grid views

  both-low : (s : Point) → EachBelow rounds (RoundMessages o views) None → (t : ℕ) → t < rounds →
      InTurn (MessageFrom o views t s (peer s Low)) (MessageFrom o views t s (peer s High)) None
  both-low s h t lt = each-server (λ r. InTurn (MessageFrom o views t r (peer r Low)) (MessageFrom o views t r (peer r High))) (h t lt) s

  -- what is found of the tapes, and then of the rounds and of their messages
  abbrev pub RunFinds : Option AuditFault → Type 0
  RunFinds =
      InTurn (EachServer (Tapes grid views)) (InTurn (EachServer (Rounds views rounds)) (EachBelow rounds (RoundMessages o views)))

  -- nothing is wrong with tapes that are enough and with what the servers see of the run
  pub right-run : ((s : Point) → HasEnough (counts_of grid) (words_in (member views s))) → ((s : Point) → (member views s).server ≡ s) →
      ((s : Point) → (member views s).rounds ≡ rounds_seen o s rounds) → RunFinds None
  right-run tapes servers seen = (
    all-servers (Tapes grid views) tapes,
    (
      all-servers (Rounds views rounds) (λ s. rounds-many o (member views s) s (servers s) rounds (seen s)),
      λ t lt. all-servers (λ r. InTurn (MessageFrom o views t r (peer r Low)) (MessageFrom o views t r (peer r High)))
          (λ s. (
            right-message (peer s Low) s t (held_from (member views s) t (peer s Low)) (message o (peer s Low) s t)
                (seen-low o (member views s) s (servers s) rounds (seen s) t lt),
            right-message (peer s High) s t (held_from (member views s) t (peer s High)) (message o
                (peer s High) s t) (seen-high o (member views s) s (servers s) rounds (seen s) t lt),
          )),
    ),
  )

  -- nothing is wrong with the views of one run
  pub right-from_one : OneRun grid views → Finds grid views None
  right-from_one h = (
    all-servers (Header grid views) (λ s. record { server = h.servers s; over = h.grids s; marks = h.marks s }),
    (
      (λ i lt. right-from_bids grid views i (h.curves i) (h.bids i lt)),
      right-run h.tapes h.servers h.rounds,
    ),
  )

  -- and views with which nothing is wrong are of one run
  pub one-from_right : ((s : Point) → IsView (member views s)) → HaveElements grid views → Finds grid views None → OneRun grid views
  one-from_right limits elements h =
      let fit : (s : Point) → HeaderFits grid views.one s (member views s) = each-server (Header grid views) h.0 in
      record {
        servers = λ s. (fit s).server;
        grids = λ s. (fit s).over;
        marks = λ s. (fit s).marks;
        curves = λ i. curve_of grid.prices (points_of_bidder views i);
        bids = λ i lt. bids-from_right grid views i (have-lengths grid views fit limits i lt) (elements i lt) (h.1.0 i lt);
        tapes = each-server (Tapes grid views) h.1.1.0;
        rounds = λ s.
            seen-all o (member views s) s (fit s).server rounds (each-server (Rounds views rounds) h.1.1.1.0 s)
            (λ t lt. message-right (peer s Low) s t (held_from (member views s) t (peer s Low))
            (message o (peer s Low) s t) (both-low s h.1.1.1.1 t lt).0)
            (λ t lt. message-right (peer s High) s t (held_from (member views s) t (peer s High))
            (message o (peer s High) s t) (both-low s h.1.1.1.1 t lt).1);
      }

  tells-message : (sender receiver : Point) (t : ℕ) (held sent : List ℕ) → Tells (Message sender receiver t held sent)
  tells-message sender receiver t held sent fault h n = elim n [ inl many ↦ many.0 h.0 | inr rest ↦ rest.1.3.0 (h.1 rest.1.0 rest.1.1) ]

  tells-from : (t : ℕ) (s sender : Point) → Tells (MessageFrom o views t s sender)
  tells-from t s sender = tells-message sender s t (held_from (member views s) t sender) (message o sender s t)

  tells-round : (t : ℕ) → Tells (RoundMessages o views t)
  tells-round t =
      tells-servers (λ s. InTurn (MessageFrom o views t s (peer s Low)) (MessageFrom o views t s (peer s High)))
      (λ s. tells-turn (MessageFrom o views t s (peer s Low)) (MessageFrom o views t s (peer s High))
      (tells-from t s (peer s Low)) (tells-from t s (peer s High)))

  tells-bidder : (i : ℕ) → Tells (OneBidder grid.prices views i)
  tells-bidder i fault h n = elim n [
    | inl buy ↦ buy.3.0 (h.0 buy.0 buy.1)
    | inr rest ↦ elim rest.1 [
      | inl sell ↦ sell.3.0 (h.1.0 sell.0 sell.1)
      | inr others ↦ elim others.1 [ inl step ↦ step.3.0 (h.1.1.0 step.0 step.1) | inr known ↦ known.1.0 h.1.1.1 ]
    ]
  ]

  pub tells-headers : Tells (EachServer (Header grid views))
  tells-headers = tells-servers (Header grid views) (λ s fault h n. n.0 h)

  pub tells-run : Tells RunFinds
  tells-run fault h n = elim n [
    | inl tape ↦ tells-servers (Tapes grid views) (λ s fault h n. n.0 h) fault h.0 tape
    | inr rest ↦ elim rest.1 [
      | inl count ↦ tells-servers (Rounds views rounds) (λ s fault h n. n.0 h) fault h.1.0 count
      | inr found ↦ tells-round found.1.0 fault (h.1.1 found.1.0 found.1.1) found.1.3
    ]
  ]

  -- something is wrong only where something is not as it is wanted
  pub tells-finds : Tells (Finds grid views)
  tells-finds fault h n = elim n [
    | inl header ↦ tells-headers fault h.0 header
    | inr rest ↦ elim rest.1 [
      | inl bidder ↦ tells-bidder bidder.0 fault (h.1.0 bidder.0 bidder.1) bidder.3
      | inr run ↦ tells-run fault h.1.1 run.1
    ]
  ]

  one-message : (sender receiver : Point) (t : ℕ) (held sent : List ℕ) → FindsOne (Message sender receiver t held sent)
  one-message sender receiver t held sent =
      let counts = LengthDiffers sender receiver t (length held) (length sent) in
      let differs = λ (k : ℕ). MessageDiffers sender receiver t k (slice_index held k) (slice_index sent k) in
      one-turn (Wants (length held ≡ length sent) counts)
      (EachBelow (length sent) (λ k. Wants (slice_index held k ≡ slice_index sent k) (differs k)))
      (tells-wants (length held ≡ length sent) counts) (one-wants (length held ≡ length sent) counts)
      (one-below (length sent) (λ k. Wants (slice_index held k ≡ slice_index sent k) (differs k))
      (λ k. tells-wants (slice_index held k ≡ slice_index sent k) (differs k))
      (λ k. one-wants (slice_index held k ≡ slice_index sent k) (differs k)))

  one-from : (t : ℕ) (s sender : Point) → FindsOne (MessageFrom o views t s sender)
  one-from t s sender = one-message sender s t (held_from (member views s) t sender) (message o sender s t)

  one-round : (t : ℕ) → FindsOne (RoundMessages o views t)
  one-round t =
      let low = λ (s : Point). MessageFrom o views t s (peer s Low) in
      let high = λ (s : Point). MessageFrom o views t s (peer s High) in
      one-servers (λ s. InTurn (low s) (high s))
      (λ s. tells-turn (low s) (high s) (tells-from t s (peer s Low)) (tells-from t s (peer s High)))
      (λ s. one-turn (low s) (high s) (tells-from t s (peer s Low)) (one-from t s (peer s Low)) (one-from t s (peer s High)))

  one-bidder : (i : ℕ) → FindsOne (OneBidder grid.prices views i)
  one-bidder i =
      let points = points_of_bidder views i in
      let prices = grid.prices in
      let lines = Lines prices i points in
      let monotone = Monotone prices i points in
      let known = Known prices views i in
      let tells : (side : Side) → Tells (lines side) = λ side fault h n. n.3.0 (h n.0 n.1) in
      let one : (side : Side) → FindsOne (lines side) = λ side.
      one-below prices (λ k. Wants (IsLine (points_on points (first_of prices side + k))) (NotALine (i + 1) k side))
      (λ k fault h n. n.0 h) (λ k a b h n. h.1 ∙ sym n.1) in
      let steps : FindsOne monotone =
      one-below prices (λ k. Wants (IsStep prices (value_at points) k) (NotMonotone (i + 1) k)) (λ k fault h n. n.0 h)
      (λ k a b h n. h.1 ∙ sym n.1) in
      one-turn (lines Buy) (InTurn (lines Sell) (InTurn monotone known)) (tells Buy) (one Buy)
      (one-turn (lines Sell) (InTurn monotone known) (tells Sell) (one Sell)
      (one-turn monotone known (λ fault h n. n.3.0 (h n.0 n.1)) steps (λ a b h n. h.1 ∙ sym n.1)))

  -- the first thing that is wrong is one thing
  pub one-finds : FindsOne (Finds grid views)
  one-finds =
      let headers = EachServer (Header grid views) in
      let bidders = EachBelow (length views.one.bidders) (OneBidder grid.prices views) in
      let tapes = EachServer (Tapes grid views) in
      let counts = EachServer (Rounds views rounds) in
      let messages = EachBelow rounds (RoundMessages o views) in
      one-turn headers (InTurn bidders (InTurn tapes (InTurn counts messages))) (tells-servers (Header grid views) (λ s fault h n. n.0 h))
      (one-servers (Header grid views) (λ s fault h n. n.0 h) (λ s a b h n. h.1 ∙ sym n.1))
      (one-turn bidders (InTurn tapes (InTurn counts messages))
      (tells-below (length views.one.bidders) (OneBidder grid.prices views) tells-bidder)
      (one-below (length views.one.bidders) (OneBidder grid.prices views) tells-bidder one-bidder)
      (one-turn tapes (InTurn counts messages) (tells-servers (Tapes grid views) (λ s fault h n. n.0 h))
      (one-servers (Tapes grid views) (λ s fault h n. n.0 h) (λ s a b h n. h.1 ∙ sym n.1))
      (one-turn counts messages (tells-servers (Rounds views rounds) (λ s fault h n. n.0 h))
      (one-servers (Rounds views rounds) (λ s fault h n. n.0 h) (λ s a b h n. h.1 ∙ sym n.1))
      (one-below rounds (RoundMessages o views) tells-round one-round))))
