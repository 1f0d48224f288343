-- The words of two worlds of a script that go with each other.
use Rattle.std.proofs.Common.{◌≡◌, ◌≤◌, ◌<◌, ◌+◌, ℕ, List, [], length, slice_index, sym, refl, ap, subst, ◌∙◌, arith}
use Rattle.beet_field.specs.Trio.{member}
use Rattle.beet_field.specs.declared.point.Point.{Point}
use Rattle.beet_field.specs.declared.point.Point.TheVariants.{One, Two, Three}
use Rattle.beet_field.specs.declared.trio.Trio.{Trio}
use Rattle.beet_words.specs.Words.{IsWord, accepted}
use Rattle.beet_words.proofs.Putting.{PutBack, put-back}
use Rattle.beet_gates.specs.Clear.{rounds_run}
use Rattle.beet_gates.specs.Scripts.{HasWords, LawFrom, bounds_of, start_of}
use Rattle.beet_gates.specs.declared.Batch.{Batch}
use Rattle.beet_gates.specs.Draws.{draws_in}
use Rattle.beet_sharing.proofs.LinesLaw.{same-rounds}
use Rattle.beet_sharing.proofs.Lined.{member-each}
use Rattle.beet_sharing.proofs.Rounds.{among-rounds, lawful-rounds}
use Rattle.beet_sharing.specs.Runs.{coming, numbers_of, rounds_among, shared_at}
use Rattle.beet_map.specs.Mapped.{AreWords, GateMapped, run_with}
use Rattle.beet_map.specs.Secrets.{Secrets, begin_in, slopes_of, values_of}
use Rattle.beet_map.proofs.Grounds.{are_alike, has_room}
use Rattle.beet_map.proofs.Symmetry.{map_back, may_back}
use Rattle.beet_map.proofs.Whole.{AreAlike, WholeWords, all_small, whole_words}
use Rattle.beet_map_laws.specs.Pairs.{AreTwoWorlds, CanDraw, GoTogether}
use Rattle.beet_map_laws.proofs.Reaching.{Reached, reach}

pub two-back : (next : ℕ → List ℕ → Batch) (most inputs deals : ℕ) (me : Point) (w w' : Secrets) →
    AreTwoWorlds next most inputs deals me w w' → AreTwoWorlds next most inputs deals me w' w
two-back next most inputs deals me w w' two = record {
  first = two.second;
  second = two.first;
  elements = two.elements';
  elements' = two.elements;
  same = record { shares = sym two.same.shares; words = sym two.same.words; opened = sym two.same.opened };
}

module _ (next : ℕ → List ℕ → Batch) (most inputs wires deals wanted : ℕ)
    (law : LawFrom next (bounds_of wires deals wanted) most (start_of inputs) []) (me : Point) where
  module _ (w w' : Secrets) (two : AreTwoWorlds next most inputs deals me w w') where
    abbrev rounds : ℕ
    rounds = rounds_run next most (values_of w.inputs) w.masks

    alike : AreAlike next most me rounds w w'
    alike =
        are_alike next most inputs deals wires wanted law me w w' two.first two.second two.elements two.elements' two.same rounds refl

    rounds-are : (numbers : Trio (List ℕ)) → rounds_among (begin_in next w numbers) most ≡ rounds
    rounds-are numbers =
        among-rounds (begin_in next w numbers) rounds most
        ((same-rounds (begin_in next w numbers) (values_of w.inputs) (slopes_of w.inputs) alike.may.lines rounds).1 alike.ends) alike.few

    pair-of : (words words' : Trio (List ℕ)) → WholeWords next most me rounds w w' alike words words' →
        GoTogether next most me w w' words words'
    pair-of words words' whole = record {
      mapped = whole.mapped;
      looks = whole.looks_alike;
      only = whole.only_image;
      back = whole.only_source;
    }

    -- the words of the second world
    module _ (words : Trio (List ℕ)) (enough : CanDraw wanted words) where
      abbrev numbers : Trio (List ℕ)
      numbers = numbers_of words

      fits : (t : ℕ) (j : Point) → t < rounds →
          (shared_at (begin_in next w numbers) t).drawn + draws_in (coming (begin_in next w numbers) t).act ≤ length (member numbers j)
      fits =
          (has_room next most inputs deals wires wanted law me w w' two.first two.second two.elements two.elements'
          two.same rounds refl numbers
          enough.numbers).numbers

      image-of : Reached next me rounds w w' alike.may numbers fits rounds →
          (words' : Trio (List ℕ)) × CanDraw wanted words' × GoTogether next most me w w' words words'
      image-of r =
          let put : (j : Point) → PutBack (member words j) (member r.reached j) =
          λ j. put-back (member words j) (member r.reached j)
          (r.mapped.lengths j ∙ ap length (member-each accepted words j)) (r.are_elements j) in
          let words' : Trio (List ℕ) = record { one = (put One).back; two = (put Two).back; three = (put Three).back } in
          let accepts : numbers_of words' ≡ r.reached =
          λ i. record { one = (put One).accepts i; two = (put Two).accepts i; three = (put Three).accepts i } in
          let one : length r.reached.one ≡ length (accepted words.one) = r.mapped.lengths One in
          let two : length r.reached.two ≡ length (accepted words.two) = r.mapped.lengths Two in
          let three : length r.reached.three ≡ length (accepted words.three) = r.mapped.lengths Three in
          let has : HasWords wanted r.reached =
          (omega (arith, one, enough.numbers.0), omega (arith, two, enough.numbers.1), omega (arith, three, enough.numbers.2)) in
          let whole = whole_words next most me rounds w w' alike words words' numbers r.reached enough.are_words refl r.mapped accepts
          (record { one = (put One).places; two = (put Two).places; three = (put Three).places }) in (
            words',
            record {
              are_words = each-word words' (put One).are_words (put Two).are_words (put Three).are_words;
              numbers = subst (λ n. HasWords wanted n) (sym accepts) has;
            },
            pair-of words words' whole,
          )
        where
          each-word : (words' : Trio (List ℕ)) → ((n : ℕ) → IsWord (slice_index words'.one n)) →
              ((n : ℕ) → IsWord (slice_index words'.two n)) →
              ((n : ℕ) → IsWord (slice_index words'.three n)) → AreWords words'
          each-word words' one two three One n = one n
          each-word words' one two three Two n = two n
          each-word words' one two three Three n = three n

      pub image : (words' : Trio (List ℕ)) × CanDraw wanted words' × GoTogether next most me w w' words words'
      image = image-of (reach next me rounds w w' alike.may numbers fits (all_small words enough.are_words) rounds (omega arith))

    -- a pair of the worlds the other way round
    pair-back : (words words' : Trio (List ℕ)) → AreWords words → AreWords words' → GoTogether next most me w' w words' words →
        GoTogether next most me w w' words words'
    pair-back words words' are are' p =
        let n : Trio (List ℕ) = numbers_of words in
        let n' : Trio (List ℕ) = numbers_of words' in
        let r' : ℕ = rounds_among (run_with next w' words') most in
        let few : r' ≤ most = (lawful-rounds (run_with next w' words') (bounds_of wires deals wanted) most inputs law).1 in
        let same : r' ≡ rounds = sym (among-rounds (run_with next w words) r' most p.looks.second_ends few) ∙ rounds-are n in
        let there : GateMapped me rounds (begin_in next w' n') (begin_in next w n) =
        subst (λ r. GateMapped me r (begin_in next w' n') (begin_in next w n)) same p.mapped.numbers in
        let here : GateMapped me rounds (begin_in next w n) (begin_in next w' n') =
        map_back next me rounds w' w (may_back next me rounds w w' alike.may) n' n (all_small words' are') there in
        pair-of words words'
        (whole_words next most me rounds w w' alike words words' n n' are refl here refl
        (record { one = sym (p.mapped.places One); two = sym (p.mapped.places Two); three = sym (p.mapped.places Three) }))

  pub source : (w w' : Secrets) → AreTwoWorlds next most inputs deals me w w' → (words' : Trio (List ℕ)) → CanDraw wanted words' →
      (words : Trio (List ℕ)) × CanDraw wanted words × GoTogether next most me w w' words words'
  source w w' two words' enough =
      let found = image w' w (two-back next most inputs deals me w w' two) words' enough in
      (found.0, found.1, pair-back w w' two found.0 words' found.1.are_words enough.are_words found.2)
