-- Mapped words are enough if the first are.
use Rattle.std.proofs.Common.{◌≡◌, ℕ, List, [], ◌∷◌, map, take, length, sym, ap, ◌∙◌, arith}
use Rattle.std.specs.Prelude.{All, ◌==◌}
use Rattle.std.proofs.lemmas.List.{take-map}
use Rattle.std.proofs.lemmas.List.Elements.{All-cons, All-head, All-tail}
use Rattle.beet_field.specs.Trio.{member}
use Rattle.beet_field.specs.declared.point.Point.{Point}
use Rattle.beet_field.specs.declared.point.Point.TheVariants.{One, Two, Three}
use Rattle.beet_field.specs.declared.trio.Trio.{Trio}
use Rattle.beet_words.specs.Bundles.{Words}
use Rattle.beet_words.specs.Words.{ones, ones_in}
use Rattle.beet_gates.specs.Scripts.{HasWords}
use Rattle.beet_turned.specs.MappedMasks.{MasksMapped}
use Rattle.beet_mapped.specs.Dealers.{Party, DealersMapped, dealers_of}
use Rattle.beet_mapped.specs.Trades.{Trade, TradesMapped}
use Rattle.beet_mapped.proofs.DealerFacts.{lists-alike}
use Rattle.beet_mapped.proofs.WordPlaces.{accepted-length}
use Rattle.beet_trades.specs.Enough.{HasAccepted, HasEnough, Wants}
use Rattle.beet_masking.specs.Masks.{with_spare}
use Rattle.std.proofs.Common.{◌≤◌, subst}
use Rattle.std.proofs.lemmas.List.{take_all}
use Rattle.beet_words.specs.Words.{accepted}

-- words that are no more than are kept have as many numbers among those that are read
pub has-accepted : (wanted : ℕ) (words : List ℕ) → length words ≤ with_spare wanted → wanted ≤ length (accepted words) →
    HasAccepted wanted words
has-accepted wanted words short h =
    subst (λ (w : List ℕ). wanted ≤ length (accepted w)) (sym (take_all (with_spare wanted) words short)) h

-- as many words are accepted where the same are all ones
pub has-accepted-same : (wanted : ℕ) (xs ys : List ℕ) → ones_in ys ≡ ones_in xs → HasAccepted wanted xs → HasAccepted wanted ys
has-accepted-same wanted xs ys e h =
    let n : ℕ = with_spare wanted in
    let front : ones_in (take n ys) ≡ ones_in (take n xs) =
    sym (take-map (λ w. w == ones) n ys) ∙ ap (take n) e ∙ take-map (λ w. w == ones) n xs in
    omega (arith, h, accepted-length (take n ys) (take n xs) front)

pub lists-enough : (wanted : ℕ) (words words' : List (List ℕ)) → map ones_in words' ≡ map ones_in words → All (HasAccepted wanted) words →
    All (HasAccepted wanted) words'
lists-enough wanted [] [] e all = λ k d lt. absurd (omega arith)
lists-enough wanted [] (v ∷ vs) e all = cc e
lists-enough wanted (w ∷ ws) [] e all = cc e
lists-enough wanted (w ∷ ws) (v ∷ vs) e all =
    let head : ones_in v ≡ ones_in w = cc e in
    let tail : map ones_in vs ≡ map ones_in ws = cc e in
    All-cons (HasAccepted wanted) v vs (has-accepted-same wanted w v head (All-head (HasAccepted wanted) w ws all))
    (lists-enough wanted ws vs tail (All-tail (HasAccepted wanted) w ws all))

pub masks-enough : (s : Point) (losses : List ℕ) (masks masks' : Trio (List ℕ)) (n : ℕ) → MasksMapped s losses masks masks' →
    HasWords n masks → HasWords n masks'
masks-enough s losses masks masks' n m h =
    let one = m.lengths One in
    let two = m.lengths Two in
    let three = m.lengths Three in
    (omega (arith, one, h.0), omega (arith, two, h.1), omega (arith, three, h.2))

-- of the words of the servers and of those who deal
pub parts-enough : (s : Point) (losses : List ℕ) (parties others : List Party) (words words' : Words) (wants : Wants) (many : ℕ) →
    MasksMapped s losses words.masks words'.masks →
    ((j : Point) → ones_in (member words'.coefficients j) ≡ ones_in (member words.coefficients j)) →
    length words'.bidders ≡ length words.bidders → DealersMapped s (dealers_of parties words.bidders) (dealers_of others words'.bidders) →
    length parties ≡ many → length others ≡ many → HasEnough wants many words → HasEnough wants many words'
parts-enough s losses parties others words words' wants many masks places lists dealers here there e =
    let count : length words'.bidders ≡ many = lists ∙ e.count in
    record {
      masks = masks-enough s losses words.masks words'.masks wants.masks masks e.masks;
      one = has-accepted-same wants.coefficients words.coefficients.one words'.coefficients.one (places One) e.one;
      two = has-accepted-same wants.coefficients words.coefficients.two words'.coefficients.two (places Two) e.two;
      three = has-accepted-same wants.coefficients words.coefficients.three words'.coefficients.three (places Three) e.three;
      count = count;
      bidders = lists-enough wants.quantities words.bidders words'.bidders
          (lists-alike s parties others words.bidders words'.bidders (e.count ∙ sym here) (count ∙ sym there) dealers)
          e.bidders;
    }

pub mapped-enough : (s : Point) (losses : List ℕ) (first second : Trade) (words words' : Words) (wants : Wants) (many : ℕ) →
    TradesMapped s losses first words second words' → length first.parties ≡ many → length second.parties ≡ many →
    HasEnough wants many words → HasEnough wants many words'
mapped-enough s losses first second words words' wants many m =
    parts-enough s losses first.parties second.parties words words' wants many m.masks m.places m.lists m.dealers
