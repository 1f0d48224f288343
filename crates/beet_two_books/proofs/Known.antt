-- What is known of bidders to servers that watch.
use Rattle.std.proofs.Common.{◌≡◌, ◌≢◌, ◌≤◌, ◌+◌, ℕ, Bool, true, false, true≢false, List, length, Option, Some, None, slice_get}
use Rattle.std.proofs.Common.{refl, sym, ap, ◌∙◌}
use Rattle.std.specs.Prelude.{◌↔◌}
use Rattle.beet_field.specs.Trio.{member}
use Rattle.beet_field.specs.declared.point.Point.{Point}
use Rattle.beet_field.specs.declared.point.Point.TheVariants.{One, Two, Three}
use Rattle.beet_field.specs.declared.trio.Trio.{Trio}
use Rattle.beet_bids.specs.Books.{Book}
use Rattle.beet_bids.specs.declared.book.Bidder.{Bidder}
use Rattle.beet_map.specs.Agreement.{SameKnownBefore}
use Rattle.beet_map.proofs.Disagreeing.{known-all, known-more}
use Rattle.beet_two_books.specs.Agreement.{AllSame, is_known}
use Rattle.beet_two_books.specs.Disagreement.{DiffersFor}

module _ (knows : Point → Bool) where
  -- the server that a mark names
  named : (mark : Option Point) → is_known knows mark ≡ true → (s : Point) × (mark ≡ Some s) × (knows s ≡ true)
  named None e = absurd (true≢false (sym e))
  named (Some s) e = (s, refl, e)

  is-named : (mark : Option Point) (s : Point) → mark ≡ Some s → knows s ≡ true → is_known knows mark ≡ true
  is-named mark s e k = ap (is_known knows) e ∙ k

  module _ (first second : List Bidder) where
    -- the bidders before a place that are known to such servers have the same curves
    abbrev pub SameSoFar : ℕ → Type 0
    SameSoFar n = (s : Point) → knows s ≡ true → SameKnownBefore (λ (b : Bidder). b.known) (λ (b : Bidder). b.curve) s first second n

    pub so-far-more : (i : ℕ) (one other : Bidder) → slice_get first i ≡ Some one → slice_get second i ≡ Some other →
        (is_known knows one.known ≡ true → other.curve ≡ one.curve) → SameSoFar i → SameSoFar (i + 1)
    so-far-more i one other a b keep same s k =
        known-more (λ (b : Bidder). b.known) (λ (b : Bidder). b.curve) first second s i one other a b
        (λ e. keep (is-named one.known s e k)) (same s k)

    pub differs : (i : ℕ) (one other : Bidder) → slice_get first i ≡ Some one → slice_get second i ≡ Some other →
        is_known knows one.known ≡ true → other.curve ≢ one.curve → SameSoFar i → DiffersFor knows first second i
    differs i one other a b known ne same =
        let at = named one.known known in
        record {
          before = same;
          server = at.0;
          is_known = at.2;
          here = record { before = same at.0 at.2; one = one; other = other; is_one = a; is_other = b; known = at.1; here = ne };
        }

  pub so-far-all : (first second : Book) (n : ℕ) → length first.bidders ≤ n → SameSoFar first.bidders second.bidders n →
      AllSame knows first second
  so-far-all first second n past same s k =
      known-all (λ (b : Bidder). b.known) (λ (b : Bidder). b.curve) first.bidders second.bidders s n past (same s k)

-- one server of three watches
abbrev marked : Bool → Bool → Bool → Trio Bool
marked a b c = record { one = a; two = b; three = c }

not-true : {A : Type 0} → false ≡ true → A
not-true e = absurd (true≢false (sym e))

pub first-alone : (s : Point) → (member (marked true false false) s ≡ true) ↔ (s ≡ One)
first-alone One = (λ e. refl, λ e. refl)
first-alone Two = (λ e. not-true e, λ e. absurd (cc e))
first-alone Three = (λ e. not-true e, λ e. absurd (cc e))

pub second-alone : (s : Point) → (member (marked false true false) s ≡ true) ↔ (s ≡ Two)
second-alone One = (λ e. not-true e, λ e. absurd (cc e))
second-alone Two = (λ e. refl, λ e. refl)
second-alone Three = (λ e. not-true e, λ e. absurd (cc e))

pub third-alone : (s : Point) → (member (marked false false true) s ≡ true) ↔ (s ≡ Three)
third-alone One = (λ e. not-true e, λ e. absurd (cc e))
third-alone Two = (λ e. not-true e, λ e. absurd (cc e))
third-alone Three = (λ e. refl, λ e. refl)
