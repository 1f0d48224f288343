-- There are mapped mask words.
use Rattle.std.proofs.Common.{◌≡◌, ℕ, List, length, slice_index, refl, ap, ◌∙◌, arith}
use Rattle.beet_field.specs.Trio.{member}
use Rattle.beet_field.specs.declared.point.Point.{Point}
use Rattle.beet_field.specs.declared.point.Point.TheVariants.{One, Two, Three}
use Rattle.beet_field.specs.declared.trio.Trio.{Trio}
use Rattle.beet_gates.specs.Each.{each}
use Rattle.beet_gates.proofs.EachFacts.{item-each, length-each}
use Rattle.beet_masking.specs.Masks.{mask_at}
use Rattle.beet_turned.specs.MappedMasks.{MasksMapped, loss_in, word_mapped}
use Rattle.beet_turned.proofs.TurnedWords.{TurnsList, first-list, second-list}

module _ (losses : List ℕ) (words : Trio (List ℕ)) where
  abbrev word : Point → ℕ → ℕ
  word j i = word_mapped (mask_at words i) (slice_index (member words j) i) (loss_in losses words i)

  abbrev turned_list : Point → List ℕ
  turned_list j = each (word j) (length (member words j))

  turns-list : (words' : Trio (List ℕ)) (j : Point) → member words' j ≡ turned_list j → TurnsList losses words words' j
  turns-list words' j is =
      let long : length (member words' j) ≡ length (member words j) = ap length is ∙ length-each (word j) (length (member words j)) in
      record {
        same_length = long;
        turns = λ i lt. ap (λ l. slice_index l i) is ∙ item-each (word j) (length (member words j)) i (omega (arith, lt, long));
      }

  pub masks-there : (s : Point) → (words' : Trio (List ℕ)) × MasksMapped s losses words words'
  masks-there One =
      let words' : Trio (List ℕ) = record { one = words.one; two = turned_list Two; three = words.three } in
      (words', second-list losses words words' (turns-list words' Two refl) refl refl)
  masks-there Two =
      let words' : Trio (List ℕ) = record { one = turned_list One; two = words.two; three = words.three } in
      (words', first-list losses words words' Two refl (turns-list words' One refl) refl refl)
  masks-there Three =
      let words' : Trio (List ℕ) = record { one = turned_list One; two = words.two; three = words.three } in
      (words', first-list losses words words' Three refl (turns-list words' One refl) refl refl)
