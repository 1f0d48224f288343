-- Masks of which the same are all ones count alike.
use Rattle.std.proofs.Common.{◌≡◌, ℕ, zero, suc, ◌+◌, Bool, true, false, List, [], ◌∷◌, length, slice_index, slice_get, None, refl, ap}
use Rattle.std.specs.Prelude.{if◌then◌else◌, ◌==◌, filter, nat_le}
use Rattle.std.specs.List.{range_with_len}
use Rattle.beet_field.specs.Field.{p}
use Rattle.beet_masking.specs.Compared.{item_compared}
use Rattle.beet_masking.specs.Masks.{is_accepted, rejected_among, accepted_among, is_spent, dealt_until_spent, dealt_for}
use Rattle.beet_masking.specs.declared.TheConstants.{SPARE_MASKS}

filter-same : (f g : ℕ → Bool) (xs : List ℕ) → ((x : ℕ) → g x ≡ f x) → filter g xs ≡ filter f xs
filter-same f g [] same = refl
filter-same f g (x ∷ xs) same = rw (same x, filter-same f g xs same) refl

pub record Alike (masks masks' : ℕ → ℕ) : Type 0 where
  pub same : (i : ℕ) → (masks' i == p) ≡ (masks i == p)

module _ (masks masks' : ℕ → ℕ) (a : Alike masks masks') where
  pub rejected-same : (n : ℕ) → rejected_among masks' n ≡ rejected_among masks n
  rejected-same n = filter-same (λ i. masks i == p) (λ i. masks' i == p) (range_with_len 0 n) a.same

  pub accepted-same : (n : ℕ) → accepted_among masks' n ≡ accepted_among masks n
  accepted-same n = filter-same (λ i. is_accepted (masks i)) (λ i. is_accepted (masks' i)) (range_with_len 0 n)
      (λ i. ap (λ b. if b then false else true) (a.same i))

  pub spent-same : (c : ℕ) → is_spent masks' c ≡ is_spent masks c
  spent-same c = ap (λ l. nat_le 3 (length l)) (rejected-same (c + 2))

  pub dealt-spent-same : (c : ℕ) → dealt_until_spent masks' c ≡ dealt_until_spent masks c
  dealt-spent-same c = ap (λ l. slice_index l 2 + 1) (rejected-same (c + 2))

  pub dealt-for-same : (c : ℕ) → dealt_for masks' c ≡ dealt_for masks c
  dealt-for-same zero = refl
  dealt-for-same (suc k) = ap (λ l. slice_index l k + 1) (accepted-same (suc k + 2))

-- the same masks are compared for the same items
pub compared-same : {A : Type 0} (items : List A) (masks masks' : ℕ → ℕ) (i : ℕ) → Alike masks masks' →
    item_compared items masks' i ≡ item_compared items masks i
compared-same items masks masks' i a =
    λ j. if (if a.same i j then false else true) then
    (if nat_le (length (rejected-same masks masks' a i j)) SPARE_MASKS then
    slice_get items (length (accepted-same masks masks' a i j)) else None)
    else None
