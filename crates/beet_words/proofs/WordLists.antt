-- Words are known from their numbers and the places of the words that are all ones.
use Rattle.std.proofs.Common.{◌≡◌, ◌≢◌, ◌<◌, ◌≤◌, ◌+◌, ℕ, zero, suc, Bool, true, false, not, cond, ◌==◌, List, [], ◌∷◌}
use Rattle.std.proofs.Common.{◌++◌, length, slice_index, get_or, take, drop, sym, refl, subst, ap, ◌∙◌, ⊎_elim, arith}
use Rattle.std.proofs.Common.{append-nil, append_assoc}
use Rattle.std.proofs.lemmas.Bool.{cases_lt}
use Rattle.std.proofs.lemmas.Bool.Decides.{nat_tests}
use Rattle.std.proofs.lemmas.List.{length-map, map-append, get_or_default, get_or_past}
use Rattle.std.proofs.lemmas.List.Elements.{filter-append}
use Rattle.beet_field.specs.Field.{p, IsElement}
use Rattle.beet_words.specs.Words.{IsWord, accepted, ones, ones_in}
use Rattle.std.specs.Prelude.{All}
use Rattle.std.proofs.lemmas.List.{take_all}
use Rattle.std.proofs.lemmas.List.Elements.{All-head, All-tail}
use Rattle.std.proofs.Common.{map}

abbrev pub is_ones : ℕ → Bool
is_ones w = w == ones

-- a word before the accepted ones
abbrev pub accept_if : Bool → ℕ → List ℕ → List ℕ
accept_if b w ws = cond (not b) (w ∷ ws) ws

ones_is : (x : ℕ) → is_ones x ≡ true → x ≡ ones
ones_is x e = grind (arith, nat_tests)

pub not_ones : (x : ℕ) → x ≢ ones → is_ones x ≡ false
not_ones x ne = grind (arith, nat_tests)

first_same : (b : Bool) (x y : ℕ) (xs ys : List ℕ) → is_ones x ≡ b → is_ones y ≡ b → accept_if b x xs ≡ accept_if b y ys → x ≡ y
first_same true x y xs ys p q e = ones_is x p ∙ sym (ones_is y q)
first_same false x y xs ys p q e = cc

rest_same : (b : Bool) (x y : ℕ) (xs ys : List ℕ) → accept_if b x xs ≡ accept_if b y ys → xs ≡ ys
rest_same true x y xs ys e = e
rest_same false x y xs ys e = cc

pub words_same : (xs ys : List ℕ) → ones_in xs ≡ ones_in ys → accepted xs ≡ accepted ys → xs ≡ ys
words_same [] [] p e = refl
words_same [] (y ∷ ys) p e = cc
words_same (x ∷ xs) [] p e = cc
words_same (x ∷ xs) (y ∷ ys) p e =
    let b : is_ones x ≡ is_ones y = cc in
    let ps : ones_in xs ≡ ones_in ys = cc in
    let e' : accept_if (is_ones y) x (accepted xs) ≡ accept_if (is_ones y) y (accepted ys) =
    (λ i. accept_if (sym b i) x (accepted xs)) ∙ e in
    let here = first_same (is_ones y) x y (accepted xs) (accepted ys) b refl e' in
    let others = words_same xs ys ps (rest_same (is_ones y) x y (accepted xs) (accepted ys) e') in λ i. here i ∷ others i

-- lists with words of all ones at the same places are as long
pub ones-long : (xs ys : List ℕ) → ones_in ys ≡ ones_in xs → length ys ≡ length xs
ones-long xs ys e = sym (length-map ys is_ones) ∙ ap length e ∙ length-map xs is_ones

pub accepted-append : (xs ys : List ℕ) → accepted (xs ++ ys) ≡ accepted xs ++ accepted ys
accepted-append xs ys = filter-append (λ w. not (w == ones)) xs ys

-- the loop that takes the accepted words, at one word more
pub accepted_more : (words numbers more : List ℕ) (i w : ℕ) → drop i words ≡ w ∷ drop (i + 1) words →
    numbers ++ accepted (drop i words) ≡ accepted words →
    more ≡ numbers ++ accepted (w ∷ []) → more ++ accepted (drop (i + 1) words) ≡ accepted words
accepted_more words numbers more i w behind rest kept =
    let others : List ℕ = drop (i + 1) words in
    (λ j. kept j ++ accepted others) ∙ append_assoc numbers (accepted (w ∷ [])) (accepted others)
    ∙ (λ j. numbers ++ (sym (accepted-append (w ∷ []) others) ∙ ap accepted (sym behind)) j) ∙ rest

-- accepted words are numbers of the field
accept_small : (b : Bool) (w : ℕ) (ws : List ℕ) → is_ones w ≡ b → IsWord w → ((n : ℕ) → IsElement (slice_index ws n)) →
    (n : ℕ) → IsElement (slice_index (accept_if b w ws) n)
accept_small true w ws e small others n = others n
accept_small false w ws e small others zero = below_ones w e small
  where
    below_ones : (w : ℕ) → is_ones w ≡ false → IsWord w → w < 2305843009213693951
    below_ones w e small = grind (arith, nat_tests)
accept_small false w ws e small others (suc n) = others n

pub accepted_small : (ws : List ℕ) → ((k : ℕ) → IsWord (slice_index ws k)) → (n : ℕ) → IsElement (slice_index (accepted ws) n)
accepted_small [] few n = omega arith
accepted_small (w ∷ ws) few n = accept_small (is_ones w) w (accepted ws) refl (few 0) (accepted_small ws (λ k. few (suc k))) n

-- the loop that puts numbers back
pub record Back (words numbers out : List ℕ) (i place : ℕ) : Type 0 where
  pub flags : ones_in out ≡ ones_in (take i words)
  pub taken : accepted out ≡ take place numbers
  pub left : place + length (accepted (drop i words)) ≡ length numbers

module _ (words numbers out : List ℕ) (i place : ℕ) (g : Back words numbers out i place) (w : ℕ)
    (behind : drop i words ≡ w ∷ drop (i + 1) words) (front : take (i + 1) words ≡ take i words ++ w ∷ []) where
  flags_more : (x : ℕ) → is_ones x ≡ is_ones w → ones_in (out ++ x ∷ []) ≡ ones_in (take (i + 1) words)
  flags_more x e = map-append is_ones out (x ∷ []) ∙ (λ j. g.flags j ++ e j ∷ [])
      ∙ sym (map-append is_ones (take i words) (w ∷ [])) ∙ ap ones_in (sym front)

  pub back_ones : w ≡ ones → Back words numbers (out ++ w ∷ []) (i + 1) place
  back_ones e = record {
    flags = flags_more w refl;
    taken = accepted-append out (w ∷ []) ∙ (λ j. accepted out ++ accepted (e j ∷ [])) ∙ append-nil (accepted out) ∙ g.taken;
    left = let a : accepted (drop i words) ≡ accepted (drop (i + 1) words) =
        ap accepted behind ∙ (λ j. accept_if (is_ones (e j)) (e j) (accepted (drop (i + 1) words))) in
        (λ j. place + length (sym a j)) ∙ g.left;
  }

  one_more : w ≢ ones → length (accepted (drop i words)) ≡ suc (length (accepted (drop (i + 1) words)))
  one_more ne = ap (λ l. length (accepted l)) behind ∙ (λ j. length (accept_if (not_ones w ne j) w (accepted (drop (i + 1) words))))

  pub back_number : w ≢ ones → (x : ℕ) → x ≢ ones → take (place + 1) numbers ≡ take place numbers ++ x ∷ [] →
      Back words numbers (out ++ x ∷ []) (i + 1) (place + 1)
  back_number ne x nx more =
      let p : is_ones w ≡ false = not_ones w ne in
      let q : is_ones x ≡ false = not_ones x nx in
      record {
        flags = flags_more x (q ∙ sym p);
        taken = accepted-append out (x ∷ []) ∙ (λ j. g.taken j ++ accept_if (q j) x []) ∙ sym more;
        left = let a = one_more ne in let b = g.left in omega arith;
      }

  pub has_room : w ≢ ones → place < length numbers
  has_room ne = let a = one_more ne in let b = g.left in omega arith

-- one word more that was looked at
pub words_more : (ws : List ℕ) (i w : ℕ) → i < length ws → w ≡ get_or ws i w → IsWord w →
    ((k : ℕ) → k < i → IsWord (slice_index ws k)) → (k : ℕ) → k < i + 1 → IsWord (slice_index ws k)
words_more ws i w within is h few k lt = ⊎_elim
    (λ (before : k < i). few k before)
    (λ (last : i ≤ k).
    let here : k ≡ i = omega arith in
    subst (λ n. IsWord (slice_index ws n)) (sym here) (subst (λ x. IsWord x) (is ∙ get_or_default ws i w 0 within) h))
    (cases_lt k i)

-- all were looked at
pub words_all : (ws : List ℕ) (i : ℕ) → length ws ≤ i → ((k : ℕ) → k < i → IsWord (slice_index ws k)) → (k : ℕ) → IsWord (slice_index ws k)
words_all ws i le few k = ⊎_elim
    (λ (before : k < i). few k before)
    (λ (past : i ≤ k). subst (λ x. IsWord x) (sym (get_or_past ws k 0 (omega arith))) (omega arith))
    (cases_lt k i)

-- lists that are short enough are not cut
pub lists-uncut : (n : ℕ) (lists : List (List ℕ)) → All (λ (list : List ℕ). length list ≤ n) lists → map (take n) lists ≡ lists
lists-uncut n [] all = refl
lists-uncut n (l ∷ ls) all =
    let here = take_all n l (All-head (λ (list : List ℕ). length list ≤ n) l ls all) in
    let rest = lists-uncut n ls (All-tail (λ (list : List ℕ). length list ≤ n) l ls all) in
    λ i. here i ∷ rest i
