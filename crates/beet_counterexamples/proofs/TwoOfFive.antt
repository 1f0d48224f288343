-- Two of five servers see the same of other bids, as no third server does.
use Rattle.std.proofs.Common.{◌≡◌, ◌≢◌, ◌≤◌, ◌<◌, ◌⊎◌, ⊎_elim, ℕ, zero, suc, None, Some}
use Rattle.std.proofs.Common.{inl, inr, refl, sym, ap, arith, ◌∙◌}
use Rattle.std.proofs.Math.Nat.{eq-or-lt_of_le}
use Rattle.std.proofs.lemmas.Bool.{cases_lt}
use Rattle.std.proofs.lemmas.Option.{same_Some}
use Rattle.beet_field.specs.declared.point.Point.{Point}
use Rattle.beet_gates.specs.declared.Gates.TheVariants.{Chain}
use Rattle.beet_bids.specs.Books.{Book}
use Rattle.beet_bids.specs.declared.book.Bidder.{Bidder}
use Rattle.beet_bids.specs.declared.outcomes.Outcome.TheVariants.{No, Price}
use Rattle.beet_two_books.specs.Agreement.{SameKnown}
use Rattle.beet_weights.specs.Quadratics.{IsServer}
use Rattle.beet_five_dealing.proofs.Zeros.{zeros-run}
use Rattle.beet_five_dealing.specs.FiveWords.{CanRun, FiveWords}
use Rattle.beet_five_map.proofs.Joined.{second-pair}
use Rattle.beet_five_map.specs.FiveWorlds.{AreTwoBooks}
use Rattle.beet_five_view.specs.JointBooks.{joint_view_of, view_at}
use Rattle.beet_five_view.specs.JointViews.{JointView}
use Rattle.beet_five_view.proofs.SameViews.{joint-same}
use Rattle.beet_headline.proofs.ThreeServers.{three-views-tell}
use Rattle.beet_counterexamples.proofs.TwoBooks.{different, is-book}
use Rattle.beet_counterexamples.specs.Examples.{book_selling, buyer, seller_of}
use Rattle.beet_counterexamples.specs.TwoOfFive.{SeeAlone}

side : (k a : ℕ) → k ≢ a → (k < a) ⊎ (a < k)
side k a apart = elim (cases_lt k a) [
  | inl below ↦ inl below
  | inr le ↦ inr (⊎_elim (λ (e : a ≡ k). absurd (apart (sym e))) (λ (lt : a < k). lt) (eq-or-lt_of_le le))
]

-- with a third server they would tell the book
third : (a b : ℕ) (first second : Book) (words words' : FiveWords) → 1 ≤ a → a < b → b ≤ 5 → AreTwoBooks a b first second →
    CanRun first words → CanRun second words' → joint_view_of a b second words' ≡ joint_view_of a b first words →
    (k : ℕ) → IsServer k → k ≢ a → k ≢ b → view_at second words' k ≡ view_at first words k → second ≡ first
third a b first second words words' some less few two runs runs' same k is ka kb e =
    let low = ap (λ (v : JointView). v.lower) same in
    let high = ap (λ (v : JointView). v.higher) same in
    let one = two.first_book in
    let other = two.second_book in
    let is_a : IsServer a = (some, omega (arith, less, few)) in
    let is_b : IsServer b = (omega (arith, some, less), few) in
    elim (side k a ka) [
      | inl below ↦ three-views-tell k a b first second words words' is below less is_b one other runs runs' e low high
      | inr above ↦ elim (side k b kb) [
        | inl within ↦ three-views-tell a k b first second words words' is_a above within is_b one other runs runs' low e high
        | inr beyond ↦ three-views-tell a b k first second words words' is_a less beyond is one other runs runs' low high e
      ]
    ]

pub see-alone : (a b : ℕ) (first second : Book) (words : FiveWords) → 1 ≤ a → a < b → b ≤ 5 → first.grid.gates ≡ Chain →
    AreTwoBooks a b first second → second ≢ first → CanRun first words →
    (words' : FiveWords) × SeeAlone a b first words second words'
see-alone a b first second words some less few chain two differ runs =
    let found = second-pair a b some less few first second two words runs in
    let same = joint-same a b some less few first second words found.0 two found.1 in (
      found.0,
      record {
        runs = found.1.second_runs;
        same = same;
        others = λ k is ka kb e.
            differ (third a b first second words found.0 some less few two runs found.1.second_runs same k is ka kb e);
      },
    )

-- server s knows no bidder that the books tell apart
own : (s : Point) → SameKnown s (book_selling 5) (book_selling 7)
own s zero one other e f known = ap (λ (b : Bidder). b.curve) (sym (same_Some buyer other f) ∙ same_Some buyer one e)
own s (suc zero) one other e f known =
    let none : None ≡ Some s = ap (λ (b : Bidder). b.known) (same_Some (seller_of 5) one e) ∙ known in cc none
own s (suc (suc k)) one other e f known = cc e

pub agree-for-two : (a b : ℕ) → AreTwoBooks a b (book_selling 5) (book_selling 7)
agree-for-two a b = record {
  first_book = is-book 5 (omega arith);
  second_book = is-book 7 (omega arith);
  agree = record { grids = refl; marks = refl; own = λ s watched. own s; outcomes = refl };
}

pub two-apart : (a b : ℕ) → AreTwoBooks a b (book_selling 5) (book_selling 4) → ⊥
two-apart a b two =
    let same : No ≡ Price 1 110 (Some 5) None = two.agree.outcomes in cc same

pub bids-alone : (a b : ℕ) → 1 ≤ a → a < b → b ≤ 5 →
    (words : FiveWords) × (words' : FiveWords) × CanRun (book_selling 5) words
    × SeeAlone a b (book_selling 5) words (book_selling 7) words'
bids-alone a b some less few =
    let w = zeros-run (book_selling 5) in
    let found = see-alone a b (book_selling 5) (book_selling 7) w.0 some less few refl (agree-for-two a b)
    (λ e. different (sym e)) w.1 in
    (w.0, found.0, w.1, found.1)
