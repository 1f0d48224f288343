-- Without the places of the coefficient words that are all ones there are other mapped words.
use Rattle.std.proofs.Common.{◌≡◌, ◌≢◌, ℕ, List, [], ◌∷◌, ◌++◌, length, refl, sym, ap, subst, ◌∙◌, arith, append-nil, length-append}
use Rattle.std.specs.Prelude.{All}
use Rattle.std.proofs.lemmas.List.Elements.{All-append, All-cons}
use Rattle.beet_field.specs.Trio.{member}
use Rattle.beet_field.specs.declared.point.Point.{Point}
use Rattle.beet_field.specs.declared.point.Point.TheVariants.{One, Two, Three}
use Rattle.beet_field.specs.declared.trio.Trio.{Trio}
use Rattle.beet_words.specs.Bundles.{Words}
use Rattle.beet_words.specs.Words.{IsWord, accepted, ones}
use Rattle.beet_words.proofs.WordLists.{accepted-append}
use Rattle.beet_bids.specs.Books.{Book}
use Rattle.beet_sharing.specs.Runs.{Setup, numbers_of}
use Rattle.beet_auction.specs.Setups.{rounds_for, setup_for}
use Rattle.beet_map.specs.Mapped.{GateMapped}
use Rattle.beet_auction_map.specs.MappedWords.{Mapped}
use Rattle.beet_counterexamples.specs.Places.{MappedWithoutPlaces}

-- one word more, that is all ones
abbrev pub longer : List ℕ → List ℕ
longer words = words ++ ones ∷ []

pub longer-accepted : (words : List ℕ) → accepted (longer words) ≡ accepted words
longer-accepted words = accepted-append words (ones ∷ []) ∙ append-nil (accepted words)

pub longer-other : (words : List ℕ) → longer words ≢ words
longer-other words e = absurd (omega (arith, ap length e, length-append words (ones ∷ [])))

pub longer-words : (words : List ℕ) → All IsWord words → All IsWord (longer words)
longer-words words all = All-append IsWord words (ones ∷ []) all (All-cons IsWord ones [] (omega arith) (λ k d lt. absurd (omega arith)))

-- at another server than s
abbrev longer-beside : Point → Trio (List ℕ) → Trio (List ℕ)
longer-beside One words = record words { two = longer words.two }
longer-beside Two words = record words { one = longer words.one }
longer-beside Three words = record words { one = longer words.one }

beside-own : (s : Point) (words : Trio (List ℕ)) → member (longer-beside s words) s ≡ member words s
beside-own One words = refl
beside-own Two words = refl
beside-own Three words = refl

beside-numbers : (s : Point) (words : Trio (List ℕ)) → numbers_of (longer-beside s words) ≡ numbers_of words
beside-numbers One words = λ i. record { one = accepted words.one; two = longer-accepted words.two i; three = accepted words.three }
beside-numbers Two words = λ i. record { one = longer-accepted words.one i; two = accepted words.two; three = accepted words.three }
beside-numbers Three words = λ i. record { one = longer-accepted words.one i; two = accepted words.two; three = accepted words.three }

beside-other : (s : Point) (words : Trio (List ℕ)) → longer-beside s words ≢ words
beside-other One words e = longer-other words.two (ap (λ (t : Trio (List ℕ)). t.two) e)
beside-other Two words e = longer-other words.one (ap (λ (t : Trio (List ℕ)). t.one) e)
beside-other Three words e = longer-other words.one (ap (λ (t : Trio (List ℕ)). t.one) e)

abbrev AreBelow : Trio (List ℕ) → Type 0
AreBelow words = All IsWord words.one × All IsWord words.two × All IsWord words.three

beside-words : (s : Point) (words : Trio (List ℕ)) → AreBelow words → AreBelow (longer-beside s words)
beside-words One words all = (all.0, longer-words words.two all.1, all.2)
beside-words Two words all = (longer-words words.one all.0, all.1, all.2)
beside-words Three words all = (longer-words words.one all.0, all.1, all.2)

pub other-words : (s : Point) (first second : Book) (words words' : Words) → Mapped s first words second words' →
    (other : Words) × MappedWithoutPlaces s first words second other × (other ≢ words')
other-words s first second words words' m =
    let other : Words = record words' { coefficients = longer-beside s words'.coefficients } in
    let same : setup_for second words' ≡ setup_for second other =
    ap (λ (numbers : Trio (List ℕ)). record (setup_for second words') { numbers = numbers })
    (sym (beside-numbers s words'.coefficients)) in (
      other,
      record {
        lists = m.lists;
        are_words = m.are_words;
        are_words' = record {
          masks = m.are_words'.masks;
          coefficients = beside-words s words'.coefficients m.are_words'.coefficients;
          bidders = m.are_words'.bidders;
        };
        masks = m.masks;
        bidders = m.dealers;
        own = beside-own s words'.coefficients ∙ m.own;
        numbers = subst (λ (o : Setup). GateMapped s (rounds_for first words) (setup_for first words) o) same m.numbers;
      },
      λ e. beside-other s words'.coefficients (ap (λ (w : Words). w.coefficients) e),
    )
