-- A word put into a list so that the exclusive or is a given one.
use Rattle.std.proofs.Common.{◌≡◌, ◌<◌, ℕ, zero, suc, List, [], ◌∷◌, length, slice_index, refl, sym, ap, ◌∙◌, arith}
use Rattle.std.specs.Prelude.{bit_xor}
use Rattle.std.specs.Int.Bits.{xor_self, xor_zero_l, xor_zero_r, xor_assoc}
use Rattle.std.proofs.lemmas.Nat.{xor_comm}
use Rattle.beet_mask.specs.Mask.{xor_of, xor_with}
use Rattle.beet_coalition.specs.Lists.{with_item}

from-first : (w : ℕ) (ws : List ℕ) → xor_with w ws ≡ bit_xor w (xor_with 0 ws)
from-first w [] = sym (xor_zero_r w)
from-first w (x ∷ xs) =
    from-first (bit_xor w x) xs ∙ xor_assoc w x (xor_with 0 xs)
    ∙ ap (bit_xor w) (sym (ap (λ z. xor_with z xs) (xor_zero_l x) ∙ from-first x xs))

whole : (ws : List ℕ) → xor_of ws ≡ xor_with 0 ws
whole [] = refl
whole (w ∷ ws) = sym (ap (λ z. xor_with z ws) (xor_zero_l w))

and-first : (x : ℕ) (xs : List ℕ) → xor_with 0 (x ∷ xs) ≡ bit_xor x (xor_with 0 xs)
and-first x xs = ap (λ z. xor_with z xs) (xor_zero_l x) ∙ from-first x xs

gone : (a x : ℕ) → bit_xor a (bit_xor a x) ≡ x
gone a x = sym (xor_assoc a a x) ∙ ap (λ z. bit_xor z x) (xor_self a) ∙ xor_zero_l x

-- with one word taken out and another put in
taken : (ws : List ℕ) (l y : ℕ) → l < length ws → xor_with 0 (with_item ws l y) ≡ bit_xor (bit_xor (xor_with 0 ws) (slice_index ws l)) y
taken [] l y h = absurd (omega arith)
taken (w ∷ ws) zero y h =
    let t : ℕ = xor_with 0 ws in
    and-first y ws ∙ xor_comm y t
    ∙ ap (λ z. bit_xor z y) (sym (ap (λ z. bit_xor z w) (and-first w ws) ∙ xor_comm (bit_xor w t) w ∙ gone w t))
taken (w ∷ ws) (suc l) y h =
    let t : ℕ = xor_with 0 ws in
    let x : ℕ = slice_index ws l in
    and-first w (with_item ws l y) ∙ ap (bit_xor w) (taken ws l y (omega arith))
    ∙ sym (xor_assoc w (bit_xor t x) y) ∙ ap (λ z. bit_xor z y) (sym (xor_assoc w t x))
    ∙ ap (λ z. bit_xor (bit_xor z x) y) (sym (and-first w ws))

-- with the exclusive or taken out of one word, and another put in, the exclusive or is that one
pub word-put : (ws : List ℕ) (l r : ℕ) → l < length ws → xor_of (with_item ws l (bit_xor (bit_xor (slice_index ws l) (xor_of ws)) r)) ≡ r
word-put ws l r h =
    let a : ℕ = xor_with 0 ws in
    let x : ℕ = slice_index ws l in
    whole (with_item ws l (bit_xor (bit_xor x (xor_of ws)) r)) ∙ taken ws l (bit_xor (bit_xor x (xor_of ws)) r) h
    ∙ ap (λ z. bit_xor (bit_xor a x) (bit_xor (bit_xor x z) r)) (whole ws)
    ∙ ap (λ z. bit_xor (bit_xor a x) (bit_xor z r)) (xor_comm x a) ∙ gone (bit_xor a x) r
