-- No other end, no other count of rejected masks and no other number of rounds is that of an auction.
use Rattle.std.proofs.Common.{◌≡◌, ◌≢◌, ◌≤◌, ℕ, true≢false, inl, inr, List, [], Bool, true, false, Some, sym, ap, ◌∙◌, arith}
use Rattle.std.specs.Prelude.{◌↔◌}
use Rattle.std.proofs.lemmas.Bool.{cases_eq, cases_lt, cases_Bool}
use Rattle.std.proofs.lemmas.Option.{same_Some}
use Rattle.beet_field.specs.declared.point.Point.{Point}
use Rattle.beet_field.specs.declared.point.Point.TheVariants.{One}
use Rattle.beet_words.specs.Bundles.{Words}
use Rattle.beet_gates.specs.Clear.{is_end}
use Rattle.beet_bids.specs.Books.{Book, IsBook}
use Rattle.beet_bids.specs.Outcomes.{outcome_of}
use Rattle.beet_bids.specs.declared.outcomes.Outcome.{Outcome}
use Rattle.beet_plan.specs.Runs.{finish_of}
use Rattle.beet_plan.specs.declared.Finish.{Finish}
use Rattle.beet_plan.specs.declared.Finish.TheVariants.{MasksSpent}
use Rattle.beet_sharing.specs.Runs.{HasRounds, Setup, coming}
use Rattle.beet_delivery.specs.Events.{Triple, after, nothing, passed}
use Rattle.beet_round.specs.declared.sides.Side.TheVariants.{Low}
use Rattle.beet_delivery.proofs.ThreeServers.{passed_in, three-is}
use Rattle.beet_delivery.proofs.Undelivered.{none_undelivered}
use Rattle.beet_server.specs.Endings.{Ending, Ends, Waits}
use Rattle.beet_auction.specs.Setups.{rounds_for, setup_for}
use Rattle.beet_auction.specs.Endings.{book_rounds}
use Rattle.beet_headline.specs.Statements.{AllDelivered, CanRun, are_spent, standing}
use Rattle.beet_headline.proofs.Delivering.{to-the-end}
use Rattle.beet_headline.proofs.Standings.{all-ended, ends, stands, waiting}
use Rattle.beet_counterexamples.proofs.Finishes.{never-spent}

-- a run has one number of rounds
one-number : (o : Setup) (r r' : ℕ) → HasRounds o r → HasRounds o r' → r ≡ r'
one-number o r r' h h' = elim (cases_lt r r') [
  | inl low ↦ both r (h.ends) (h'.goes r low)
  | inr not_low ↦ elim (cases_lt r' r) [
    | inl high ↦ both r' (h'.ends) (h.goes r' high)
    | inr not_high ↦ omega arith
  ]
]
  where
    both : (t : ℕ) → is_end (coming o t).act ≡ true → is_end (coming o t).act ≡ false → r ≡ r'
    both t here before = cc (here, before)

same-end : (a b : Finish) (x : Ending Finish) → x ≡ Ends (Some a) → x ≡ Ends (Some b) → a ≡ b
same-end a b x e f = cc (e, f)

module _ (book : Book) (words : Words) (b : IsBook book) (runs : CanRun book words) where
  -- events that deliver all messages
  abbrev all : List Triple
  all = (to-the-end (rounds_for book words) []).0

  complete : AllDelivered book words all
  complete = (to-the-end (rounds_for book words) []).1

  pub other-count : (test : Bool) →
      ((es : List Triple) (s : Point) → AllDelivered book words es → (standing book words es s ≡ Ends (Some MasksSpent)) ↔ (test ≡ true)) →
      test ≡ are_spent book words
  other-count test each =
      let tells = each all One complete in
      elim (all-ended book words b runs all complete) [
        | inr spent ↦ tells.0 (spent.1 One) ∙ sym spent.0
        | inl opened ↦ elim (cases_Bool test) [
          | inl told ↦
              absurd (never-spent (outcome_of book)
              (sym (same-end MasksSpent (finish_of (outcome_of book)) (standing book words all One) (tells.1 told) (opened.1 One))))
          | inr not_told ↦ not_told ∙ sym opened.0
        ]
      ]

  pub none-opened : (es : List Triple) (s : Point) (outcome : Outcome) → are_spent book words ≡ true →
      standing book words es s ≢ Ends (Some (finish_of outcome))
  none-opened es s outcome many e =
      never-spent outcome (same_Some (finish_of outcome) MasksSpent
      ((stands book words b runs es s).spent many (Some (finish_of outcome)) e))

  pub other-rounds : (rounds : ℕ) → HasRounds (setup_for book words) rounds → rounds ≡ book_rounds book words.masks
  other-rounds rounds h = one-number (setup_for book words) rounds (book_rounds book words.masks) h (ends book words b runs).has_rounds

  pub none-waits : (es : List Triple) → ((s : Point) (round : ℕ) → standing book words es s ≢ Waits round) → AllDelivered book words es
  none-waits es never =
      let rounds : ℕ = rounds_for book words in
      none_undelivered three-is rounds (after rounds es)
      (λ s. elim (cases_eq (passed rounds (after rounds es) s) rounds) [
        | inl all_passed ↦ all_passed
        | inr some ↦ absurd (never s (passed rounds (after rounds es) s) (waiting book words b runs es s some))
      ])

  pub all-wait : (s : Point) → 1 ≤ book_rounds book words.masks → standing book words [] s ≡ Waits 0
  all-wait s some =
      let rounds : ℕ = rounds_for book words in
      let none : passed rounds nothing s ≡ 0 = elim (cases_lt 0 (passed rounds nothing s)) [
        | inl more ↦ absurd (true≢false (sym (passed_in rounds nothing s 0 more Low)))
        | inr not_more ↦ omega (arith, not_more)
      ] in
      let before : passed rounds nothing s ≢ rounds = λ e. absurd (omega (arith, e, none, some, (ends book words b runs).counted)) in
      waiting book words b runs [] s before ∙ ap Waits none
