-- Three views of one run, of which two are those of another, agree with it in the third.
use Rattle.std.proofs.Common.{◌≡◌, ◌≢◌, ◌<◌, ◌*◌, ℕ, List, [], length, slice_index, Option, Some, None, All, refl, sym, ◌∙◌, ap, subst}
use Rattle.std.specs.Prelude.{IfSome, MatchOption}
use Rattle.beet_field.specs.Field.{p}
use Rattle.beet_field.specs.Trio.{member}
use Rattle.beet_field.specs.declared.point.Point.{Point}
use Rattle.beet_field.specs.declared.point.Point.TheVariants.{One, Two, Three}
use Rattle.beet_field.specs.declared.trio.Trio.{Trio}
use Rattle.beet_words.specs.Words.{IsWord, accepted}
use Rattle.beet_words.proofs.WordLists.{accepted_small}
use Rattle.beet_gates.proofs.EachFacts.{each-same, length-each}
use Rattle.beet_bids.specs.Curves.{Curve, IsCurve, IsOfGrid}
use Rattle.beet_bids.specs.Grids.{Grid}
use Rattle.beet_masking.proofs.Words.{word-small}
use Rattle.beet_book.specs.Dealing.{quantities}
use Rattle.beet_round.specs.Sides.{peer}
use Rattle.beet_round.specs.declared.sides.Side.TheVariants.{Low, High}
use Rattle.beet_sharing.specs.Runs.{Setup, coming, message, shared_at, standing_at}
use Rattle.beet_sharing.specs.Seen.{round_seen, rounds_seen}
use Rattle.beet_sharing.proofs.SameRuns.{UseSame, message-same, numbers-same, words-same}
use Rattle.beet_view.specs.declared.view.Seen.{Seen}
use Rattle.beet_view.specs.Transcripts.{AreNumbers}
use Rattle.beet_view.specs.Views.{IsView, Viewed}
use Rattle.beet_audit.specs.Audits.{bidder_at, curve_of, marks_in, points_of_bidder, rounds_of, run_of}
use Rattle.beet_audit.specs.OneRuns.{KeepsBid, OneRun}
use Rattle.beet_audit.proofs.BidFacts.{recombines, some-from}
use Rattle.beet_audit.proofs.PointFacts.{marks-at, marks-length}
use Rattle.beet_audit_laws.specs.InUse.{SameAmong, SeenAlike}
use Rattle.beet_audit_laws.proofs.Heard.{each-item, heard}
use Rattle.beet_audit_laws.proofs.KeptWords.{IsKeptAt, kept-alike}
use Rattle.beet_book.proofs.Quantities.{quantities-many}
use Rattle.beet_audit_laws.proofs.SharedPoints.{BothRuns, both-runs, masks-at, numbers-at, points-at, run, run'}
use Rattle.beet_audit_laws.proofs.SharedPoints.{same-setup, same-shares}

-- a view whose words are words, and which keeps a curve of exactly the bidders whose mark names its server
pub record IsSound (view : Viewed) : Type 0 where
  pub masks : (n : ℕ) → IsWord (slice_index view.masks n)
  pub coefficients : (n : ℕ) → IsWord (slice_index view.coefficients n)
  pub kept : (n : ℕ) → n < length view.bidders → IsKeptAt view.server (bidder_at view n).known (bidder_at view n).own

pub kept-from : (s : Point) (mark : Option Point) (own : Option (Curve × List ℕ)) (P : Curve × List ℕ → Type 0) →
    MatchOption own (mark ≢ Some s) (λ kept. (mark ≡ Some s) × P kept) → IfSome own (λ kept. All IsWord kept.1) → IsKeptAt s mark own
kept-from s mark None P h words = h
kept-from s mark (Some own) P h words = (h.0, word-small own.1 words)

pub sound-view : (view : Viewed) → IsView view → AreNumbers view → IsSound view
sound-view view is are = record {
  masks = word-small view.masks are.masks;
  coefficients = word-small view.coefficients are.coefficients;
  kept = λ n lt.
      let nobody : Seen = record { known = None; points = []; own = None } in
      let seen = is.seen n nobody lt in
      let has = are.bidders n nobody lt in
      kept-from view.server (bidder_at view n).known (bidder_at view n).own (λ own. IsOfGrid view.grid own.0) seen.own
      (some-from (λ own. IsCurve own.0 × All IsWord own.1) (λ own. All IsWord own.1) (bidder_at view n).own (λ own h. h.1) has.own);
}

-- each sender but the receiver is one of its peers
by-peer : (P : Point → Type 0) (s : Point) → P (peer s Low) → P (peer s High) → (from : Point) → from ≢ s → P from
by-peer P One low high One other = absurd (other refl)
by-peer P One low high Two other = low
by-peer P One low high Three other = high
by-peer P Two low high One other = low
by-peer P Two low high Two other = absurd (other refl)
by-peer P Two low high Three other = high
by-peer P Three low high One other = low
by-peer P Three low high Two other = high
by-peer P Three low high Three other = absurd (other refl)

-- all views of one run have as many bidders
pub bidders-many : (grid : Grid) (views : Trio Viewed) → OneRun grid views → (s : Point) →
    length (member views s).bidders ≡ length views.one.bidders
bidders-many grid views h s = marks-length views.one.bidders (member views s).bidders (h.marks s)

module _ (grid : Grid) (views others : Trio Viewed) (sound : (s : Point) → IsSound (member views s))
    (sound' : (s : Point) → IsSound (member others s))
    (one : OneRun grid views) (one' : OneRun grid others) (i j : Point) (apart : i ≢ j) (at-i : member others i ≡ member views i)
    (at-j : member others j ≡ member views j) where
  same-marks : (s : Point) → marks_in (member others s) ≡ marks_in (member views s)
  same-marks s = one'.marks s ∙ sym (one'.marks i) ∙ ap marks_in at-i ∙ one.marks i ∙ sym (one.marks s)

  same-count : (s : Point) → length (member others s).bidders ≡ length (member views s).bidders
  same-count s = marks-length (member views s).bidders (member others s).bidders (same-marks s)

  count : length others.one.bidders ≡ length views.one.bidders
  count = same-count One

  below : (n : ℕ) → n < length views.one.bidders → n < length others.one.bidders
  below n lt = subst (λ m. n < m) (sym count) lt

  -- the points of the bidders
  same-at : (s : Point) (n : ℕ) → member others s ≡ member views s →
      member (points_of_bidder others n) s ≡ member (points_of_bidder views n) s
  same-at s n e = points-at others n s ∙ ap (λ (view : Viewed). (bidder_at view n).points) e ∙ sym (points-at views n s)

  points : (n : ℕ) → n < length views.one.bidders → points_of_bidder others n ≡ points_of_bidder views n
  points n lt =
      let bid = one.bids n lt in
      let bid' = one'.bids n (below n lt) in
      same-shares i j apart (2 * grid.prices) (quantities (one.curves n)) (quantities (one'.curves n))
      (points_of_bidder views n) (points_of_bidder others n)
      bid.shares bid'.shares (quantities-many grid (one.curves n) bid.of_grid) (quantities-many grid (one'.curves n) bid'.of_grid)
      (same-at i n at-i) (same-at j n at-j)

  curves : (n : ℕ) → n < length views.one.bidders → one'.curves n ≡ one.curves n
  curves n lt =
      let bid = one.bids n lt in
      let bid' = one'.bids n (below n lt) in
      recombines grid (points_of_bidder others n) (one'.curves n) bid'.is_curve bid'.of_grid bid'.shares
      ∙ ap (curve_of grid.prices) (points n lt)
      ∙ sym (recombines grid (points_of_bidder views n) (one.curves n) bid.is_curve bid.of_grid bid.shares)

  abbrev o : Setup
  o = run grid views others count points

  abbrev o' : Setup
  o' = run' grid views others count points

  abbrev rounds : ℕ
  rounds = rounds_of grid views

  setup : run_of grid others ≡ o'
  setup = same-setup grid views others count points

  -- the messages to the servers whose views are the same
  module _ (s : Point) (e : member others s ≡ member views s) where
    seen-same : rounds_seen o' s (rounds_of grid others) ≡ rounds_seen o s rounds
    seen-same = ap (λ (x : Setup). rounds_seen x s (rounds_of grid others)) (sym setup) ∙ sym (one'.rounds s)
        ∙ ap (λ (view : Viewed). view.rounds) e ∙ one.rounds s

    rounds-same : rounds_of grid others ≡ rounds
    rounds-same =
        sym (length-each (round_seen o' s) (rounds_of grid others)) ∙ ap (λ (l : List (List ℕ × List ℕ)). length l) seen-same
        ∙ length-each (round_seen o s) rounds

    messages-to : (t : ℕ) → t < rounds → (from : Point) → from ≢ s → message o' from s t ≡ message o from s t
    messages-to t lt =
        let round = each-item (round_seen o' s) (round_seen o s) (rounds_of grid others) rounds t seen-same
        (subst (λ n. t < n) (sym rounds-same) lt) lt in
        by-peer (λ from. message o' from s t ≡ message o from s t) s (ap (λ (r : List ℕ × List ℕ). r.0) round)
        (ap (λ (r : List ℕ × List ℕ). r.1) round)

  abbrev both : BothRuns
  both = both-runs grid views others count points

  masks-of : (s : Point) → member others s ≡ member views s → member both.masks' s ≡ member both.masks s
  masks-of s e = masks-at others s ∙ ap (λ (view : Viewed). view.masks) e ∙ sym (masks-at views s)

  numbers-of : (s : Point) → member others s ≡ member views s → member both.numbers' s ≡ member both.numbers s
  numbers-of s e = numbers-at others s ∙ ap (λ (view : Viewed). accepted view.coefficients) e ∙ sym (numbers-at views s)

  -- so all three use the same
  uses : (t : ℕ) → t < rounds → shared_at o' t ≡ shared_at o t →
      UseSame both.masks both.masks' both.numbers both.numbers' (standing_at o t) (coming o t).act
  uses =
      heard both.script both.inputs both.masks both.masks' both.numbers both.numbers'
      (λ s n. subst (λ l. IsWord (slice_index l n)) (sym (masks-at views s)) ((sound s).masks n))
      (λ s n. subst (λ l. IsWord (slice_index l n)) (sym (masks-at others s)) ((sound' s).masks n))
      (λ s n. subst (λ l. slice_index l n < p) (sym (numbers-at views s))
      (accepted_small (member views s).coefficients (sound s).coefficients n))
      (λ s n. subst (λ l. slice_index l n < p) (sym (numbers-at others s))
      (accepted_small (member others s).coefficients (sound' s).coefficients n))
      i j apart (masks-of i at-i) (masks-of j at-j) (numbers-of i at-i) (numbers-of j at-j) rounds (messages-to i at-i) (messages-to j at-j)

  -- a bidder at a server
  module _ (s : Point) (n : ℕ) (lt : n < length (member views s).bidders) where
    first-lt : n < length views.one.bidders
    first-lt = subst (λ k. n < k) (bidders-many grid views one s) lt

    mark : (bidder_at (member others s) n).known ≡ (bidder_at (member views s) n).known
    mark = marks-at (member views s).bidders (member others s).bidders n
        (record { known = None; points = []; own = None }) (same-marks s) lt

    own-kept : IsKeptAt s (bidder_at (member views s) n).known (bidder_at (member views s) n).own
    own-kept = subst (λ x. IsKeptAt x (bidder_at (member views s) n).known (bidder_at (member views s) n).own)
        (one.servers s) ((sound s).kept n lt)

    other-kept : IsKeptAt s (bidder_at (member views s) n).known (bidder_at (member others s) n).own
    other-kept =
        subst (λ x. IsKeptAt s x (bidder_at (member others s) n).own) mark
        (subst (λ x. IsKeptAt x (bidder_at (member others s) n).known (bidder_at (member others s) n).own) (one'.servers s)
        ((sound' s).kept n (subst (λ k. n < k) (sym (same-count s)) lt)))

    seen-alike : SeenAlike grid.prices (bidder_at (member views s) n) (bidder_at (member others s) n)
    seen-alike =
        let bid = one.bids n first-lt in
        let bid' = one'.bids n (below n first-lt) in
        record {
          mark = mark;
          points = sym (points-at others n s) ∙ ap (λ t. member t s) (points n first-lt) ∙ points-at views n s;
          kept = kept-alike grid (one.curves n) bid.of_grid (points_of_bidder views n) (points_of_bidder others n) (points n first-lt) s
              (bidder_at (member views s) n).known (bidder_at (member views s) n).own
              (bidder_at (member others s) n).own own-kept other-kept (bid.known s)
              (subst (λ c. IfSome (bidder_at (member others s) n).own (KeepsBid grid c (points_of_bidder others n)))
              (curves n first-lt) (bid'.known s));
        }

  rounds-at : (s : Point) → (member others s).rounds ≡ (member views s).rounds
  rounds-at s =
      one'.rounds s ∙ ap (λ (x : Setup). rounds_seen x s (rounds_of grid others)) setup ∙ ap (λ n. rounds_seen o' s n) (rounds-same i at-i)
      ∙ each-same (round_seen o' s) (round_seen o s) rounds
      (λ t lt.
      let same =
      message-same both.script both.inputs both.masks both.masks' both.numbers both.numbers' rounds uses t lt in
      λ x. (same (peer s Low) s x, same (peer s High) s x))
      ∙ sym (one.rounds s)

  -- the views of each server are the same in all that the run uses
  pub third-same : (s : Point) → SameAmong grid views s (member others s)
  third-same s = record {
    server = one'.servers s ∙ sym (one.servers s);
    over = one'.grids s ∙ sym (one.grids s);
    count = same-count s;
    bidders = seen-alike s;
    rounds = rounds-at s;
    enough = one'.tapes s;
    masks = λ n lt.
        ap (λ l. slice_index l n) (sym (masks-at others s))
        ∙ words-same both.script both.inputs both.masks both.masks' both.numbers both.numbers' rounds uses s n lt
        ∙ ap (λ l. slice_index l n) (masks-at views s);
    numbers = λ n lt.
        ap (λ l. slice_index l n) (sym (numbers-at others s))
        ∙ numbers-same both.script both.inputs both.masks both.masks' both.numbers both.numbers' rounds uses s n lt
        ∙ ap (λ l. slice_index l n) (numbers-at views s);
  }
