-- Mapped mask words are words.
use Rattle.std.proofs.Common.{◌≢◌, ℕ, ◌^◌, ◌<◌, List, length, slice_index, Option, Some, None, arith}
use Rattle.std.specs.Prelude.{All}
use Rattle.std.proofs.lemmas.List.Elements.{All-from_get_or}
use Rattle.std.proofs.lemmas.Nat.{xor_lt}
use Rattle.beet_field.proofs.Trios.{at-each}
use Rattle.beet_field.specs.Trio.{member}
use Rattle.beet_field.specs.declared.point.Point.{Point}
use Rattle.beet_field.specs.declared.point.Point.TheVariants.{One, Two, Three}
use Rattle.beet_field.specs.declared.trio.Trio.{Trio}
use Rattle.beet_words.specs.Words.{IsWord}
use Rattle.beet_masking.specs.Masks.{AreMasks, mask_at}
use Rattle.beet_round.specs.Sides.{peer}
use Rattle.beet_round.specs.declared.sides.Side.TheVariants.{Low}
use Rattle.beet_turned.specs.MappedMasks.{MasksMapped, loss_in, word_mapped}
use Rattle.beet_turned.proofs.Turned.{turned-small}
use Rattle.beet_masking.proofs.Words.{mask-small, word-small}

module _ (losses : List ℕ) where
  mapped-small : (mask word : ℕ) (place : Option ℕ) → mask < 2 ^ 61 → word < 2 ^ 61 → word_mapped mask word place < 2 ^ 61
  mapped-small mask word None h l = l
  mapped-small mask word (Some m) h l = xor_lt 61 _ _ (xor_lt 61 _ _ l h) (turned-small mask m h)

  module _ (s : Point) (words words' : Trio (List ℕ)) (m : AreMasks words) (mapped : MasksMapped s losses words words') where
    member-words : (j : Point) → All IsWord (member words j)
    member-words = at-each (All IsWord) words (m.one, m.two, m.three)

    lower-words : All IsWord (member words' (peer s Low))
    lower-words =
        let l = peer s Low in
        All-from_get_or IsWord (member words' l) 0
        (λ i lt.
        let h : i < length (member words l) = omega (arith, mapped.lengths l) in
        rw (mapped.turns i h)
        (mapped-small (mask_at words i) (slice_index (member words l) i) (loss_in losses words i) (mask-small words m i)
        (word-small (member words l) (member-words l) i)))

    other-words : (j : Point) → j ≢ peer s Low → All IsWord (member words' j)
    other-words j ne = rw (mapped.others j ne) (member-words j)

  pub mapped-masks : (s : Point) (words words' : Trio (List ℕ)) → AreMasks words → MasksMapped s losses words words' → AreMasks words'
  mapped-masks One words words' m mapped = record {
    one = other-words One words words' m mapped One (λ e. cc);
    two = lower-words One words words' m mapped;
    three = other-words One words words' m mapped Three (λ e. cc);
  }
  mapped-masks Two words words' m mapped = record {
    one = lower-words Two words words' m mapped;
    two = other-words Two words words' m mapped Two (λ e. cc);
    three = other-words Two words words' m mapped Three (λ e. cc);
  }
  mapped-masks Three words words' m mapped = record {
    one = lower-words Three words words' m mapped;
    two = other-words Three words words' m mapped Two (λ e. cc);
    three = other-words Three words words' m mapped Three (λ e. cc);
  }
