-- The masks of five servers as those of three.
use Rattle.std.proofs.Common.{◌≡◌, ◌<◌, ◌≤◌, ◌+◌, ℕ, zero, suc, Bool, List, [], ◌∷◌, ◌++◌, length, map, slice_index, take}
use Rattle.std.proofs.Common.{get_or, refl, sym, ap, ◌∙◌, arith}
use Rattle.std.specs.Prelude.{bit_xor, filter, ◌==◌}
use Rattle.std.specs.List.{range_with_len}
use Rattle.std.specs.Int.Bits.{xor_self, xor_zero_l, xor_zero_r, xor_assoc}
use Rattle.std.proofs.lemmas.List.{map_more, take_all}
use Rattle.beet_field.specs.Field.{p}
use Rattle.beet_field.specs.declared.point.Point.TheVariants.{One, Two}
use Rattle.beet_field.specs.declared.trio.Trio.{Trio}
use Rattle.beet_mask.specs.Mask.{mask_of, xor_of, xor_with}
use Rattle.beet_masking.specs.Compared.{item_after, item_compared}
use Rattle.beet_masking.specs.Masks.{accepted_among, is_accepted, mask_among, mask_at, rejected_among}
use Rattle.beet_turned.specs.MappedMasks.{MasksMapped, word_mapped}
use Rattle.beet_five_map.specs.FiveMasks.{loss_among}

with-more : (w : ℕ) (ws : List ℕ) (x : ℕ) → xor_with w (ws ++ x ∷ []) ≡ bit_xor (xor_with w ws) x
with-more w [] x = refl
with-more w (y ∷ ys) x = with-more (bit_xor w y) ys x

of-more : (ws : List ℕ) (x : ℕ) → xor_of (ws ++ x ∷ []) ≡ bit_xor (xor_of ws) x
of-more [] x = sym (xor_zero_l x)
of-more (w ∷ ws) x = with-more w ws x

-- the exclusive or with the mask of one list more
pub mask-more : (lists : List (List ℕ)) (i place word with after : ℕ) → i < length lists →
    with ≡ bit_xor word (mask_among (take i lists) place) → after ≡ bit_xor with (slice_index (get_or lists i []) place) →
    after ≡ bit_xor word (mask_among (take (i + 1) lists) place)
mask-more lists i place word with after lt e f =
    let x : ℕ = slice_index (get_or lists i []) place in
    let more : mask_among (take (i + 1) lists) place ≡ bit_xor (mask_among (take i lists) place) x =
    ap xor_of (map_more (λ (list : List ℕ). slice_index list place) lists i [] lt)
    ∙ of-more (map (λ (list : List ℕ). slice_index list place) (take i lists)) x in
    f ∙ ap (λ z. bit_xor z x) e ∙ xor_assoc word (mask_among (take i lists) place) x ∙ ap (bit_xor word) (sym more)

pub mask-all : (lists : List (List ℕ)) (i place word with : ℕ) → length lists ≤ i → with ≡ bit_xor word (mask_among (take i lists) place) →
    with ≡ bit_xor word (mask_among lists place)
mask-all lists i place word with past e = e ∙ ap (λ l. bit_xor word (mask_among l place)) (take_all i lists past)

-- a word, the exclusive or of it and the mask, and nothing have this mask
pub mask-three : (w m : ℕ) → mask_of w (bit_xor w m) 0 ≡ m
mask-three w m =
    xor_zero_r (bit_xor w (bit_xor w m)) ∙ sym (xor_assoc w w m) ∙ ap (λ z. bit_xor z m) (xor_self w) ∙ xor_zero_l m

-- the mask of three servers at a place
pub three-same : (words others : List ℕ) (masks : List (List ℕ)) (three : Trio (List ℕ)) (i : ℕ) → three.one ≡ words → three.two ≡ others →
    three.three ≡ [] → slice_index others i ≡ bit_xor (slice_index words i) (mask_among masks i) →
    mask_at three i ≡ mask_among masks i
three-same words others masks three i one two three' is =
    (λ j. mask_of (slice_index (one j) i) (slice_index (two j) i) (slice_index (three' j) i))
    ∙ ap (λ z. mask_of (slice_index words i) z 0) is ∙ mask-three (slice_index words i) (mask_among masks i)

filter-below : (f g : ℕ → Bool) (a n : ℕ) → ((x : ℕ) → a ≤ x → x < a + n → g x ≡ f x) →
    filter g (range_with_len a n) ≡ filter f (range_with_len a n)
filter-below f g a zero same = refl
filter-below f g a (suc n) same =
    let rest = filter-below f g (a + 1) n (λ x ge lt. same x (omega arith) (omega arith)) in
    rw (same a (omega arith) (omega arith), rest) refl

-- what a mask is compared for, by the masks up to it
pub compared-below : {A : Type 0} (items : List A) (masks masks' : ℕ → ℕ) (i : ℕ) → ((k : ℕ) → k ≤ i → masks' k ≡ masks k) →
    item_compared items masks' i ≡ item_compared items masks i
compared-below items masks masks' i same =
    let rejected : rejected_among masks' i ≡ rejected_among masks i =
    filter-below (λ k. masks k == p) (λ k. masks' k == p) 0 i (λ x ge lt j. same x (omega arith) j == p) in
    let accepted : accepted_among masks' i ≡ accepted_among masks i =
    filter-below (λ k. is_accepted (masks k)) (λ k. is_accepted (masks' k)) 0 i (λ x ge lt j. is_accepted (same x (omega arith) j)) in
    λ j. item_after items (same i (omega arith) j) (length (rejected j)) (length (accepted j))

-- the words of the first of three servers turn the masks of five
pub turned-five : (losses : List ℕ) (masks : List (List ℕ)) (own : List ℕ) (three mapped : Trio (List ℕ)) → three.one ≡ own →
    ((k : ℕ) → k < length three.one → mask_at three k ≡ mask_among masks k) → MasksMapped Two losses three mapped →
    (i : ℕ) → i < length own →
    slice_index mapped.one i ≡ word_mapped (mask_among masks i) (slice_index own i) (loss_among losses masks i)
turned-five losses masks own three mapped is same m i lt =
    let below : i < length three.one = omega (arith, lt, ap length is) in
    let loss = compared-below losses (mask_among masks) (mask_at three) i (λ k le. same k (omega arith)) in
    m.turns i below ∙ (λ j. word_mapped (same i below j) (slice_index (is j) i) (loss j))

pub turned-long : (losses : List ℕ) (own : List ℕ) (three mapped : Trio (List ℕ)) → three.one ≡ own → MasksMapped Two losses three mapped →
    length mapped.one ≡ length own
turned-long losses own three mapped is m = m.lengths One ∙ ap length is
