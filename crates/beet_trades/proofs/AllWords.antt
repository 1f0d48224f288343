-- Words of three servers and of those who deal, each below 2^61.
use Rattle.std.proofs.Common.{◌≡◌, ℕ, List, slice_index, Result, Ok, Err, IfOk, MatchResult, subst, sym, ◌∙◌}
use Rattle.std.specs.Prelude.{All}
use Rattle.std.proofs.lemmas.List.Elements.{All-from_get_or}
use Rattle.std.proofs.lemmas.Result.{IfOk-at_ok}
use Rattle.beet_field.specs.declared.point.Point.TheVariants.{One, Two, Three}
use Rattle.beet_field.specs.declared.trio.Trio.{Trio}
use Rattle.beet_words.specs.Bundles.{AreWords, Words}
use Rattle.beet_words.specs.Words.{IsWord}
use Rattle.beet_masking.specs.Masks.{AreMasks}
use Rattle.beet_map.specs.Mapped.{AreWords as AreAllWords}

words-of : (list : List ℕ) → ((n : ℕ) → IsWord (slice_index list n)) → All IsWord list
words-of list few = All-from_get_or IsWord list 0 (λ i lt. few i)

pub all-are : (masks coefficients : Trio (List ℕ)) (bidders : List (List ℕ)) → AreMasks masks → AreAllWords coefficients →
    All (λ list. All IsWord list) bidders → AreWords (record { masks = masks; coefficients = coefficients; bidders = bidders })
all-are masks coefficients bidders m c all = record {
  masks = (m.one, m.two, m.three);
  coefficients = (words-of coefficients.one (c One), words-of coefficients.two (c Two), words-of coefficients.three (c Three));
  bidders = all;
}

-- what holds of the words of the servers with these lists holds of all words that are made of them
pub words-hold : {E : Type 0} (P : Words → Type 0) (servers : Result (Trio (List ℕ) × Trio (List ℕ)) E) (lists bidders : List (List ℕ))
    (all : Result Words E) → lists ≡ bidders →
    MatchResult all (λ words. (servers ≡ Ok (words.masks, words.coefficients)) × (words.bidders ≡ bidders)) (λ e. servers ≡ Err e) →
    IfOk servers (λ found. P (record { masks = found.0; coefficients = found.1; bidders = lists })) → IfOk all P
words-hold P servers lists bidders (Ok words) same made holds =
    subst (λ l. P (record { masks = words.masks; coefficients = words.coefficients; bidders = l })) (same ∙ sym made.1)
    (IfOk-at_ok _ made.0 holds)
words-hold P servers lists bidders (Err e) same made holds = tt
