-- What a server sees tells how the run ends.
use Rattle.std.proofs.Common.{◌≡◌, ◌≤◌, ◌<◌, ◌+◌, ◌*◌, ◌%◌, ℕ, zero, suc, List, [], ◌∷◌, ◌++◌, map, take, drop, length}
use Rattle.std.proofs.Common.{get_or, slice_index, Option, refl, sym, ap, subst, ◌∙◌, arith}
use Rattle.std.specs.Prelude.{sum_by}
use Rattle.std.proofs.lemmas.List.Sums.{sum_by-cons}
use Rattle.beet_field.specs.Field.{p}
use Rattle.beet_field.specs.Trio.{member}
use Rattle.beet_field.specs.declared.point.Point.{Point}
use Rattle.beet_field.specs.declared.point.Point.TheVariants.{One, Two, Three}
use Rattle.beet_field.specs.declared.trio.Trio.{Trio}
use Rattle.beet_words.specs.Bundles.{Words}
use Rattle.beet_words.specs.Words.{accepted}
use Rattle.beet_gates.specs.Clear.{with_lets}
use Rattle.beet_gates.specs.Each.{each}
use Rattle.beet_gates.specs.Plans.{plan_finish}
use Rattle.beet_gates.specs.Scripts.{deals_in}
use Rattle.beet_gates.specs.declared.Batch.{Batch}
use Rattle.beet_gates.proofs.EachFacts.{each-same, get_or-each, item-each, length-each}
use Rattle.beet_gates.specs.Draws.{draws_in}
use Rattle.beet_bids.specs.Books.{Book, IsBook}
use Rattle.beet_bids.specs.Grids.{Grid}
use Rattle.beet_bids.specs.declared.book.Bidder.{Bidder}
use Rattle.beet_plan.specs.Auction.{auction_batch, auction_over, auction_plan, most_rounds}
use Rattle.beet_plan.specs.declared.Finish.{Finish}
use Rattle.beet_book.specs.Farmers.{BidderWithWords, book_inputs, farmers_of, point_for, summed_point}
use Rattle.beet_book.specs.Totals.{supply_first}
use Rattle.beet_round.specs.Sides.{peer}
use Rattle.beet_round.specs.declared.sides.Side.{Side}
use Rattle.beet_round.specs.declared.sides.Side.TheVariants.{Low, High}
use Rattle.beet_sharing.specs.Runs.{Setup, Shared, coming, gained, message, opened_by, rounds_among, shared_at}
use Rattle.beet_sharing.specs.Runs.{standing_at}
use Rattle.beet_sharing.specs.Steps.{numbers_for, numbers_opened, points_given}
use Rattle.beet_sharing.proofs.Lined.{member-each, member-trio}
use Rattle.beet_sharing.proofs.RunSteps.{gains-run, opens-run, sends-run}
use Rattle.beet_sharing.specs.Seen.{round_seen, rounds_seen}
use Rattle.beet_auction.specs.Endings.{book_finish, book_rounds}
use Rattle.beet_auction.specs.Setups.{setup_for}
use Rattle.beet_view.specs.BookViews.{seen_at}
use Rattle.beet_view.specs.declared.view.Seen.{Seen}
use Rattle.beet_map.proofs.Alike.{Alike}
use Rattle.beet_auction_map.specs.ViewsWith.{cut_words, view_with}
use Rattle.beet_auction_map.specs.Enough.{wants_over}
use Rattle.beet_auction_map.specs.MappedWords.{trade_of}
use Rattle.beet_auction_map.proofs.CutRuns.{reads}
use Rattle.beet_trades.proofs.ReadRuns.{rounds-read, run-read}
use Rattle.beet_headline.specs.Statements.{CanRun}
use Rattle.beet_headline.proofs.Standings.{ends, same-finish}

-- a server, and its two peers
each-server : (P : Point → Type 0) (me : Point) → P me → ((side : Side) → P (peer me side)) → (j : Point) → P j
each-server P One own peers One = own
each-server P One own peers Two = peers Low
each-server P One own peers Three = peers High
each-server P Two own peers One = peers Low
each-server P Two own peers Two = own
each-server P Two own peers Three = peers High
each-server P Three own peers One = peers Low
each-server P Three own peers Two = peers High
each-server P Three own peers Three = own

-- two runs of one script, in which a server has the same inputs, words and numbers and gets the same messages
module _ (next : ℕ → List ℕ → Batch) (me : Point) (inputs masks numbers inputs' masks' numbers' : Trio (List ℕ)) (rounds : ℕ) where
  abbrev here : Setup
  here = record { next = next; inputs = inputs; masks = masks; numbers = numbers }

  abbrev there : Setup
  there = record { next = next; inputs = inputs'; masks = masks'; numbers = numbers' }

  module _ (own_inputs : member inputs' me ≡ member inputs me) (own_masks : member masks' me ≡ member masks me)
      (own_numbers : member numbers' me ≡ member numbers me)
      (messages : (t : ℕ) → t < rounds → (side : Side) → message there (peer me side) me t ≡ message here (peer me side) me t) where
    module _ (t : ℕ) (lt : t < rounds) (alike : Alike me (shared_at here t) (shared_at there t)) where
      abbrev s : Shared
      s = standing_at here t

      abbrev s' : Shared
      s' = standing_at there t

      batch : coming there t ≡ coming here t
      batch = λ x. next t (alike.opened x)

      mine : member s'.wires me ≡ member s.wires me
      mine =
          member-each (λ points. with_lets points (coming there t).lets.items) (shared_at there t).wires me
          ∙ (λ x. with_lets (alike.mine x) (batch x).lets.items)
          ∙ sym (member-each (λ points. with_lets points (coming here t).lets.items) (shared_at here t).wires me)

      own : message there me me t ≡ message here me me t
      own =
          sym (sends-run there s' (coming there t).act me me)
          ∙ (λ x. numbers_for (batch x).act (mine x) (slice_index (own_masks x) (alike.dealt x))
          (take (draws_in (batch x).act) (drop (alike.drawn x) (own_numbers x))) me)
          ∙ sends-run here s (coming here t).act me me

      all : (j : Point) → message there j me t ≡ message here j me t
      all = each-server (λ j. message there j me t ≡ message here j me t) me own (messages t lt)

      gains : gained there s' (coming there t).act me ≡ gained here s (coming here t).act me
      gains =
          sym (gains-run there s' (coming there t).act me)
          ∙ (λ x. points_given (batch x).act (all One x) (all Two x) (all Three x))
          ∙ gains-run here s (coming here t).act me

      opens : opened_by s' (coming there t).act ≡ opened_by s (coming here t).act
      opens =
          sym (opens-run there s' (coming there t).act me)
          ∙ (λ x. numbers_opened (batch x).act (all One x) (all Two x) (all Three x))
          ∙ opens-run here s (coming here t).act me

      told-more : Alike me (shared_at here (suc t)) (shared_at there (suc t))
      told-more = record {
        opened = λ x. alike.opened x ++ opens x;
        drawn = λ x. alike.drawn x + draws_in (batch x).act;
        dealt = λ x. alike.dealt x + deals_in (batch x).act;
        mine = member-trio (λ i. member s'.wires i ++ gained there s' (coming there t).act i) me ∙ (λ x. mine x ++ gains x)
            ∙ sym (member-trio (λ i. member s.wires i ++ gained here s (coming here t).act i) me);
      }

    pub told : (t : ℕ) → t ≤ rounds → Alike me (shared_at here t) (shared_at there t)
    told zero le = record { opened = refl; drawn = refl; dealt = refl; mine = own_inputs }
    told (suc t) le = told-more t (omega (arith, le)) (told t (omega (arith, le)))

-- the points of bidders as a server sees them are those that it adds up
module _ (grid : Grid) (s : Point) where
  abbrev points : List BidderWithWords → List (List ℕ)
  points farmers = map (λ (seen : Seen). seen.points) (map (seen_at grid s) farmers)

  sums-seen : (n : ℕ) → n < 2 * grid.prices → (farmers farmers' : List BidderWithWords) → points farmers' ≡ points farmers →
      sum_by (λ farmer. point_for farmer s n) farmers' ≡ sum_by (λ farmer. point_for farmer s n) farmers
  sums-seen n lt [] [] e = refl
  sums-seen n lt [] (g ∷ gs) e = cc e
  sums-seen n lt (f ∷ fs) [] e = cc e
  sums-seen n lt (f ∷ fs) (g ∷ gs) e =
      let wanted = 2 * grid.prices in
      let head : each (point_for g s) wanted ≡ each (point_for f s) wanted = cc e in
      let tail : points gs ≡ points fs = cc e in
      let here : point_for g s n ≡ point_for f s n =
      sym (item-each (point_for g s) wanted n lt) ∙ ap (λ l. slice_index l n) head ∙ item-each (point_for f s) wanted n lt in
      let rest = sums-seen n lt fs gs tail in
      sum_by-cons (λ farmer. point_for farmer s n) g gs ∙ (λ x. here x + rest x) ∙ sym (sum_by-cons (λ farmer. point_for farmer s n) f fs)

  inputs-seen : (farmers farmers' : List BidderWithWords) → map (seen_at grid s) farmers' ≡ map (seen_at grid s) farmers →
      member (book_inputs grid.prices farmers') s ≡ member (book_inputs grid.prices farmers) s
  inputs-seen farmers farmers' e =
      let wanted = 2 * grid.prices in
      let same : each (summed_point farmers' s) wanted ≡ each (summed_point farmers s) wanted =
      each-same (summed_point farmers' s) (summed_point farmers s) wanted
      (λ n lt. ap (λ x. x % p) (sums-seen n lt farmers farmers' (ap (map (λ (seen : Seen). seen.points)) e))) in
      member-trio (λ i. supply_first grid.prices (each (summed_point farmers' i) wanted)) s ∙ ap (supply_first grid.prices) same
      ∙ sym (member-trio (λ i. supply_first grid.prices (each (summed_point farmers i) wanted)) s)

-- two books over one grid
abbrev pub over : Grid → List Bidder → Book
over grid bidders = record { grid = grid; bidders = bidders }

module _ (s : Point) (grid : Grid) (bidders others : List Bidder) (words words' : Words)
    (b : IsBook (over grid bidders)) (b' : IsBook (over grid others))
    (runs : CanRun (over grid bidders) words) (runs' : CanRun (over grid others) words')
    (view : view_with (over grid others) words' s ≡ view_with (over grid bidders) words s) where
  abbrev first : Book
  first = over grid bidders

  abbrev second : Book
  second = over grid others

  abbrev kept : Words
  kept = cut_words grid words

  abbrev kept' : Words
  kept' = cut_words grid words'

  abbrev o : Setup
  o = setup_for first kept

  abbrev o' : Setup
  o' = setup_for second kept'

  abbrev r : ℕ
  r = book_rounds first words.masks

  abbrev r' : ℕ
  r' = book_rounds second words'.masks

  counted : rounds_among o (most_rounds (auction_over grid)) ≡ r
  counted =
      rounds-read (trade_of first) (wants_over first.grid) words (reads first words runs.enough) r (ends first words b runs).has_rounds

  counted' : rounds_among o' (most_rounds (auction_over grid)) ≡ r'
  counted' =
      rounds-read (trade_of second) (wants_over second.grid) words' (reads second words' runs'.enough) r'
      (ends second words' b' runs').has_rounds

  seen : rounds_seen o' s r' ≡ rounds_seen o s r
  seen = (λ x. rounds_seen o' s (sym counted' x)) ∙ (λ x. (view x).rounds) ∙ (λ x. rounds_seen o s (counted x))

  as-many : r' ≡ r
  as-many = sym (length-each (round_seen o' s) r') ∙ ap length seen ∙ length-each (round_seen o s) r

  round-same : (t : ℕ) → t < r → round_seen o' s t ≡ round_seen o s t
  round-same t lt =
      sym (get_or-each (round_seen o' s) r' t ([], []) (omega (arith, lt, as-many))) ∙ ap (λ l. get_or l t ([], [])) seen
      ∙ get_or-each (round_seen o s) r t ([], []) lt

  from-side : (t : ℕ) → t < r → (side : Side) → message o' (peer s side) s t ≡ message o (peer s side) s t
  from-side t lt Low = λ x. (round-same t lt x).0
  from-side t lt High = λ x. (round-same t lt x).1

  own-numbers : member o'.numbers s ≡ member o.numbers s
  own-numbers =
      member-each accepted kept'.coefficients s ∙ (λ x. accepted (view x).coefficients) ∙ sym (member-each accepted kept.coefficients s)

  at-end : (shared_at o' r).opened ≡ (shared_at o r).opened
  at-end =
      (told (auction_batch (auction_over grid)) s o.inputs o.masks o.numbers o'.inputs o'.masks o'.numbers r
      (inputs-seen grid s (farmers_of bidders kept.bidders) (farmers_of others kept'.bidders) (λ x. (view x).bidders))
      (λ x. (view x).masks) own-numbers from-side r (omega arith)).opened

  ends-alike : book_finish second words'.masks ≡ book_finish first words.masks
  ends-alike =
      let one = ends first words b runs in
      let other = ends second words' b' runs' in
      let named : List ℕ → Option Finish = plan_finish (auction_plan (auction_over grid)) in
      let cut = run-read (trade_of first) (wants_over first.grid) words (reads first words runs.enough) r one.has_rounds r (omega arith) in
      let cut' = run-read (trade_of second) (wants_over second.grid) words' (reads second words' runs'.enough) r' other.has_rounds r'
      (omega arith) in
      same-finish (book_finish second words'.masks) (book_finish first words.masks)
      (sym other.finish_named ∙ (λ x. named (sym cut' x).opened) ∙ (λ x. named (shared_at o' (as-many x)).opened) ∙ ap named at-end
      ∙ (λ x. named (cut x).opened) ∙ one.finish_named)

pub equal-ends : (s : Point) (first second : Book) (words words' : Words) → IsBook first → IsBook second →
    CanRun first words → CanRun second words' →
    view_with second words' s ≡ view_with first words s → book_finish second words'.masks ≡ book_finish first words.masks
equal-ends s first second words words' b b' runs runs' view =
    subst
    (λ g. IsBook (over g second.bidders) → CanRun (over g second.bidders) words' →
    view_with (over g second.bidders) words' s ≡ view_with first words s →
    book_finish (over g second.bidders) words'.masks ≡ book_finish first words.masks)
    (λ x. (sym view x).grid)
    (λ is can same. ends-alike s first.grid first.bidders second.bidders words words' b is runs can same) b' runs' view
