-- Mapped mask words: each mask that is compared is turned, the same are all ones, and so they count alike.
use Rattle.std.proofs.Common.{◌≡◌, ℕ, ◌<◌, ◌≤◌, inl, inr, List, length, slice_index, Option, Some, None, refl}
use Rattle.std.proofs.Common.{sym, ap, ◌∙◌, arith}
use Rattle.std.specs.Prelude.{◌==◌}
use Rattle.std.proofs.lemmas.Bool.{cases_lt}
use Rattle.std.proofs.lemmas.List.{get_or_past}
use Rattle.beet_field.specs.Field.{p}
use Rattle.beet_field.specs.Trio.{member}
use Rattle.beet_field.specs.declared.point.Point.{Point}
use Rattle.beet_field.specs.declared.point.Point.TheVariants.{One, Two, Three}
use Rattle.beet_field.specs.declared.trio.Trio.{Trio}
use Rattle.beet_mask.specs.Mask.{mask_of}
use Rattle.beet_masking.specs.Masks.{mask_at}
use Rattle.beet_round.specs.Sides.{peer}
use Rattle.beet_round.specs.declared.sides.Side.TheVariants.{Low}
use Rattle.beet_turned.specs.Turn.{turned}
use Rattle.beet_turned.specs.MappedMasks.{MasksMapped, loss_in, mask_mapped, word_mapped}
use Rattle.beet_turned.proofs.Turned.{turned-ones, first-word, second-word}

module _ (losses : List ℕ) where
  first-mapped : (a b c : ℕ) (place : Option ℕ) → mask_of (word_mapped (mask_of a b c) a place) b c ≡ mask_mapped (mask_of a b c) place
  first-mapped a b c None = refl
  first-mapped a b c (Some m) = first-word a b c (turned (mask_of a b c) m)

  second-mapped : (a b c : ℕ) (place : Option ℕ) → mask_of a (word_mapped (mask_of a b c) b place) c ≡ mask_mapped (mask_of a b c) place
  second-mapped a b c None = refl
  second-mapped a b c (Some m) = second-word a b c (turned (mask_of a b c) m)

  mapped-ones : (mask : ℕ) (place : Option ℕ) → (mask_mapped mask place == p) ≡ (mask == p)
  mapped-ones mask None = refl
  mapped-ones mask (Some m) = turned-ones mask m

  module _ (words words' : Trio (List ℕ)) where
    -- the server's own words are the same
    pub own-same : (s : Point) → MasksMapped s losses words words' → member words' s ≡ member words s
    own-same One m = m.others One (λ e. cc e)
    own-same Two m = m.others Two (λ e. cc e)
    own-same Three m = m.others Three (λ e. cc e)

    -- each mask that is compared is turned
    pub mask-turned : (s : Point) → MasksMapped s losses words words' → (i : ℕ) → i < length (member words (peer s Low)) →
        mask_at words' i ≡ mask_mapped (mask_at words i) (loss_in losses words i)
    mask-turned One m i lt =
        (λ j. mask_of (slice_index (m.others One (λ e. cc) j) i) (m.turns i lt j) (slice_index (m.others Three (λ e. cc) j) i))
        ∙ second-mapped (slice_index words.one i) (slice_index words.two i) (slice_index words.three i) (loss_in losses words i)
    mask-turned Two m i lt =
        (λ j. mask_of (m.turns i lt j) (slice_index (m.others Two (λ e. cc) j) i) (slice_index (m.others Three (λ e. cc) j) i))
        ∙ first-mapped (slice_index words.one i) (slice_index words.two i) (slice_index words.three i) (loss_in losses words i)
    mask-turned Three m i lt =
        (λ j. mask_of (m.turns i lt j) (slice_index (m.others Two (λ e. cc) j) i) (slice_index (m.others Three (λ e. cc) j) i))
        ∙ first-mapped (slice_index words.one i) (slice_index words.two i) (slice_index words.three i) (loss_in losses words i)

    both_past : (xs ys : List ℕ) (i : ℕ) → length ys ≡ length xs → length xs ≤ i → slice_index ys i ≡ slice_index xs i
    both_past xs ys i e le = get_or_past ys i 0 (omega arith) ∙ sym (get_or_past xs i 0 le)

    mask-past : (s : Point) → MasksMapped s losses words words' → (i : ℕ) → length (member words (peer s Low)) ≤ i →
        mask_at words' i ≡ mask_at words i
    mask-past One m i le =
        λ j. mask_of (slice_index (m.others One (λ e. cc) j) i) (both_past words.two words'.two i (m.lengths Two) le j)
        (slice_index (m.others Three (λ e. cc) j) i)
    mask-past Two m i le =
        λ j. mask_of (both_past words.one words'.one i (m.lengths One) le j) (slice_index (m.others Two (λ e. cc) j) i)
        (slice_index (m.others Three (λ e. cc) j) i)
    mask-past Three m i le =
        λ j. mask_of (both_past words.one words'.one i (m.lengths One) le j) (slice_index (m.others Two (λ e. cc) j) i)
        (slice_index (m.others Three (λ e. cc) j) i)

    -- the same masks are all ones
    pub mask-ones : (s : Point) → MasksMapped s losses words words' → (i : ℕ) → (mask_at words' i == p) ≡ (mask_at words i == p)
    mask-ones s m i = elim (cases_lt i (length (member words (peer s Low)))) [
      | inl lt ↦ ap (λ r. r == p) (mask-turned s m i lt) ∙ mapped-ones (mask_at words i) (loss_in losses words i)
      | inr past ↦ ap (λ r. r == p) (mask-past s m i past)
    ]
