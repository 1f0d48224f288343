-- Choices of words for two books, one by one.
use Rattle.std.proofs.Common.{◌≡◌, ◌≢◌, ◌<◌, ℕ, zero, suc, List, [], ◌∷◌, length, get_or, slice_get, Some, refl, sym}
use Rattle.std.proofs.Common.{subst, ◌∙◌, arith, AllPairs}
use Rattle.std.specs.Prelude.{All}
use Rattle.std.proofs.lemmas.List.Elements.{All-cons, All-head, All-tail}
use Rattle.std.proofs.lemmas.Option.{same_Some, slice_get-get_or}
use Rattle.beet_field.specs.declared.point.Point.{Point}
use Rattle.beet_words.specs.Bundles.{Words}
use Rattle.beet_bids.specs.Books.{Book}
use Rattle.beet_auction_map.specs.MappedWords.{Mapped}
use Rattle.beet_headline.specs.Statements.{AllShow, AreChoices, AreOnePair, ArePairs, AreTwoBooks, CanRun}
use Rattle.beet_headline.proofs.Pairing.{first-there, second-there}

-- lists of words, each of which goes with the one at its place
record Together (Pair : Words → Words → Type 0) (these those : List Words) : Type 0 where
  as_many : length those ≡ length these
  each_one : (k : ℕ) (a b : Words) → slice_get these k ≡ Some a → slice_get those k ≡ Some b → Pair a b

pairs-more : (Pair : Words → Words → Type 0) (a b : Words) (these those : List Words) → Pair a b →
    Together Pair these those → Together Pair (a ∷ these) (b ∷ those)
pairs-more Pair a b these those p ps = record { as_many = omega (arith, ps.as_many); each_one = each_one } where
  each_one : (k : ℕ) (words words' : Words) → slice_get (a ∷ these) k ≡ Some words →
      slice_get (b ∷ those) k ≡ Some words' → Pair words words'
  each_one zero words words' e f =
      subst (λ x. Pair x words') (same_Some a words e) (subst (λ y. Pair a y) (same_Some b words' f) p)
  each_one (suc k) words words' e f = ps.each_one k words words' e f

-- a choice of words for another book, one for each of these
record Chosen (Pair : Words → Words → Type 0) (Other : Words → Type 0) (these : List Words) : Type 0 where
  those : List Words
  pairs : Together Pair these those
  all : All Other those

choose : (Pair : Words → Words → Type 0) (One Other : Words → Type 0) →
    ((a : Words) → One a → (b : Words) × Pair a b × Other b) →
    (these : List Words) → All One these → Chosen Pair Other these
choose Pair One Other there [] all = record {
  those = [];
  pairs = record { as_many = refl; each_one = λ k words words' e f. cc e };
  all = λ k d lt. absurd (omega arith);
}
choose Pair One Other there (a ∷ these) all =
    let r = choose Pair One Other there these (All-tail One a these all) in
    let b = there a (All-head One a these all) in
    record {
      those = b.0 ∷ r.those;
      pairs = pairs-more Pair a b.0 these r.those b.1 r.pairs;
      all = All-cons Other b.0 r.those b.2 r.all;
    }

module _ (s : Point) (first second : Book) where
  -- the pair at a place
  module _ (these those : List Words) (p : ArePairs s first these second those) where
    pair-at : (k : ℕ) (d : Words) → k < length these → AreOnePair s first (get_or these k d) second (get_or those k d)
    pair-at k d lt =
        p.each_one k (get_or these k d) (get_or those k d) (slice_get-get_or these k d lt)
        (slice_get-get_or those k d (omega (arith, lt, p.as_many)))

    seconds-once : AllPairs (λ a b. a ≢ b) these → AllPairs (λ a b. a ≢ b) those
    seconds-once once i j d lt within same =
        let last : j < length these = omega (arith, within, p.as_many) in
        let one = pair-at i d (omega (arith, lt, last)) in
        let other = pair-at j d last in
        let moved : Mapped s first (get_or these j d) second (get_or those i d) =
        subst (λ x. Mapped s first (get_or these j d) second x) (sym same) other.mapped in
        once i j d lt last (sym (one.only_first (get_or these j d) moved))

    firsts-once : AllPairs (λ a b. a ≢ b) those → AllPairs (λ a b. a ≢ b) these
    firsts-once once i j d lt within same =
        let last : j < length those = omega (arith, within, p.as_many) in
        let one = pair-at i d (omega (arith, lt, within)) in
        let other = pair-at j d within in
        let moved : Mapped s first (get_or these i d) second (get_or those j d) =
        subst (λ x. Mapped s first x second (get_or those j d)) (sym same) other.mapped in
        once i j d lt last (sym (one.only_second (get_or those j d) moved))

    -- words that go with each other show one transcript
    module _ (transcript : List ℕ) where
      seconds-shown : AllShow s first transcript these → AllShow s second transcript those
      seconds-shown shown k d lt =
          let within : k < length these = omega (arith, lt, p.as_many) in
          (pair-at k d within).transcripts ∙ shown k d within

      firsts-shown : AllShow s second transcript those → AllShow s first transcript these
      firsts-shown shown k d lt = sym (pair-at k d lt).transcripts ∙ shown k d (omega (arith, lt, p.as_many))

  module _ (two : AreTwoBooks s first second) where
    pub seconds-there : (these : List Words) → AreChoices first these →
        (those : List Words) × AreChoices second those × ArePairs s first these second those
    seconds-there these c =
        let r = choose (λ a b. AreOnePair s first a second b) (CanRun first) (CanRun second)
        (λ a runs. let b = second-there s first second a two runs in (b.0, b.1, b.1.second_runs)) these c.can_run in
        let pairs : ArePairs s first these second r.those =
        record { as_many = r.pairs.as_many; each_one = r.pairs.each_one } in
        (r.those, record { can_run = r.all; once = seconds-once these r.those pairs c.once }, pairs)

    pub firsts-there : (those : List Words) → AreChoices second those →
        (these : List Words) × AreChoices first these × ArePairs s first these second those
    firsts-there those c =
        let r = choose (λ b a. AreOnePair s first a second b) (CanRun second) (CanRun first)
        (λ b runs. let a = first-there s first second two b runs in (a.0, a.1, a.1.first_runs)) those c.can_run in
        let pairs : ArePairs s first r.those second those =
        record {
          as_many = sym r.pairs.as_many;
          each_one = λ k words words' e f. r.pairs.each_one k words' words f e;
        } in
        (r.those, record { can_run = r.all; once = firsts-once r.those those pairs c.once }, pairs)

    -- choices that show a transcript go with choices that show it
    pub seconds-show : (transcript : List ℕ) (these : List Words) → AreChoices first these →
        AllShow s first transcript these →
        (those : List Words) × AreChoices second those × AllShow s second transcript those × ArePairs s first these
        second those
    seconds-show transcript these c shown =
        let r = seconds-there these c in (r.0, r.1, seconds-shown these r.0 r.2 transcript shown, r.2)

    pub firsts-show : (transcript : List ℕ) (those : List Words) → AreChoices second those →
        AllShow s second transcript those →
        (these : List Words) × AreChoices first these × AllShow s first transcript these × ArePairs s first these
        second those
    firsts-show transcript those c shown =
        let r = firsts-there those c in (r.0, r.1, firsts-shown r.0 those r.2 transcript shown, r.2)
