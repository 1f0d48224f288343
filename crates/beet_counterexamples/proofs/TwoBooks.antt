-- Two books that clear alike.
use Rattle.std.proofs.Common.{◌≡◌, ◌≢◌, ◌≤◌, ℕ, zero, suc, [], ◌∷◌, slice_get, slice_index, Option, Some, None, refl}
use Rattle.std.proofs.Common.{sym, ap, ◌∙◌, arith, AllPairs}
use Rattle.std.specs.Prelude.{All}
use Rattle.std.proofs.lemmas.List.Elements.{All-cons, All-nil}
use Rattle.std.proofs.lemmas.List.Kept.{AllPairs-cons}
use Rattle.std.proofs.lemmas.Option.{same_Some}
use Rattle.beet_field.specs.declared.point.Point.TheVariants.{One}
use Rattle.beet_bids.specs.Books.{Book, IsBook}
use Rattle.beet_bids.specs.Curves.{IsCurve, IsOfGrid}
use Rattle.beet_bids.specs.declared.book.Bidder.{Bidder}
use Rattle.beet_bids.specs.declared.curve.TheConstants.{LARGEST_QUANTITY}
use Rattle.beet_bids.specs.declared.outcomes.Outcome.TheVariants.{No, Price}
use Rattle.beet_two_books.specs.Agreement.{SameKnown}
use Rattle.beet_counterexamples.specs.Examples.{book_selling, buyer, seller_of, two_prices}
use Rattle.beet_headline.specs.Statements.{AreTwoBooks}

both : (P : ℕ → Type 0) (a b : ℕ) → P a → P b → All P (a ∷ b ∷ [])
both P a b one other = All-cons P a (b ∷ []) one (All-cons P b [] other (All-nil P))

in-order : (R : ℕ → ℕ → Type 0) (a b : ℕ) → R a b → AllPairs R (a ∷ b ∷ [])
in-order R a b h =
    AllPairs-cons R a (b ∷ []) (All-cons (R a) b [] h (All-nil (R a)))
    (AllPairs-cons R b [] (All-nil (R b)) (λ i j d lt within. absurd (omega arith)))

buys : IsCurve buyer.curve
buys = record {
  one_length = refl;
  buy_limit = both (λ quantity. quantity ≤ LARGEST_QUANTITY) 5 5 (omega arith) (omega arith);
  sell_limit = both (λ quantity. quantity ≤ LARGEST_QUANTITY) 0 0 (omega arith) (omega arith);
  buy_never_rises = in-order (λ before after. after ≤ before) 5 5 (omega arith);
  sell_never_falls = in-order (λ before after. before ≤ after) 0 0 (omega arith);
}

pub sells : (amount : ℕ) → amount ≤ 7 → IsCurve (seller_of amount).curve
sells amount few = record {
  one_length = refl;
  buy_limit = both (λ quantity. quantity ≤ LARGEST_QUANTITY) 0 0 (omega arith) (omega arith);
  sell_limit = both (λ quantity. quantity ≤ LARGEST_QUANTITY) 0 amount (omega arith) (omega (arith, few));
  buy_never_rises = in-order (λ before after. after ≤ before) 0 0 (omega arith);
  sell_never_falls = in-order (λ before after. before ≤ after) 0 amount (omega arith);
}

pub is-book : (amount : ℕ) → amount ≤ 7 → IsBook (book_selling amount)
is-book amount few = record {
  few = omega arith;
  curves =
      All-cons (λ (b : Bidder). IsCurve b.curve) buyer (seller_of amount ∷ []) buys
      (All-cons (λ (b : Bidder). IsCurve b.curve) (seller_of amount) [] (sells amount few) (All-nil (λ (b : Bidder). IsCurve b.curve)));
  of_grid =
      All-cons (λ (b : Bidder). IsOfGrid two_prices b.curve) buyer (seller_of amount ∷ [])
      (record { buy_length = refl; sell_length = refl })
      (All-cons (λ (b : Bidder). IsOfGrid two_prices b.curve) (seller_of amount) [] (record { buy_length = refl; sell_length = refl })
      (All-nil (λ (b : Bidder). IsOfGrid two_prices b.curve)));
}

own : SameKnown One (book_selling 5) (book_selling 7)
own zero one other e f known = ap (λ (b : Bidder). b.curve) (sym (same_Some buyer other f) ∙ same_Some buyer one e)
own (suc zero) one other e f known =
    let none : None ≡ Some One = ap (λ (b : Bidder). b.known) (same_Some (seller_of 5) one e) ∙ known in cc none
own (suc (suc k)) one other e f known = cc e

pub agree : AreTwoBooks One (book_selling 5) (book_selling 7)
agree = record {
  first_book = is-book 5 (omega arith);
  second_book = is-book 7 (omega arith);
  agree = record { grids = refl; marks = refl; own = own; outcomes = refl };
}

-- what the second bidder sells at the second price
abbrev sold : Option Bidder → ℕ
sold None = 0
sold (Some b) = slice_index b.curve.sell 1

pub different : book_selling 5 ≢ book_selling 7
different e =
    let amounts : 5 ≡ 7 = ap (λ (b : Book). sold (slice_get b.bidders 1)) e in absurd (omega (arith, amounts))

pub apart : AreTwoBooks One (book_selling 5) (book_selling 4) → ⊥
apart two =
    let same : No ≡ Price 1 110 (Some 5) None = two.agree.outcomes in cc same
