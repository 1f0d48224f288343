-- The list of a set has each of its messages once, and so equal lists are of equal sets.
use Rattle.std.proofs.Common.{◌≡◌, ◌<◌, ◌&&◌, ℕ, Bool, true, false, List, [], ◌∷◌, length, cond, sym, refl, ap, ◌∙◌, arith}
use Rattle.std.proofs.lemmas.List.Elements.{filter_passes}
use Rattle.std.proofs.lemmas.List.Sums.{length-filter}
use Rattle.std.specs.Prelude.{All, filter, count_by}
use Rattle.beet_delivery.specs.Networks.{Network, Triple, Delivered, has, all_triples, listed}
use Rattle.beet_delivery.proofs.NetworkFacts.{IsNetwork, WasSent, bool_same, is_at, sent_parts, triple_is}
use Rattle.beet_delivery.proofs.Counting.{count_none, one_there}

-- what passes one test and then another
filter_and : {X : Type 0} (p q : X → Bool) (xs : List X) → filter q (filter p xs) ≡ filter (λ x. p x && q x) xs
filter_and p q [] = refl
filter_and p q (x ∷ xs) = by (p x) (filter_and p q xs) where
  by : (b : Bool) → filter q (filter p xs) ≡ filter (λ y. p y && q y) xs
      → filter q (cond b (x ∷ filter p xs) (filter p xs)) ≡ cond (b && q x) (x ∷ filter (λ y. p y && q y) xs) (filter (λ y. p y && q y) xs)
  by true rest = ap (λ l. cond (q x) (x ∷ l) l) rest
  by false rest = rest

module _ {P : Type 0} {net : Network P} (law : IsNetwork net) (rounds : ℕ) where
  -- each message of the set stands in its list once, and no other does
  pub listed_once : (x : Delivered P) (e : Triple P) → net.sends e.from e.to ≡ true → e.round < rounds
      → count_by (is_at net e) (listed net rounds x) ≡ cond (has x e) 1 0
  listed_once x e may lt =
      sym (length-filter (is_at net e) (listed net rounds x))
      ∙ ap length (filter_and (has x) (is_at net e) (all_triples net rounds))
      ∙ length-filter (λ d. has x d && is_at net e d) (all_triples net rounds)
      ∙ ap (λ (p : Triple P → Bool). count_by p (all_triples net rounds)) (λ i d. at d i)
      ∙ by (has x e)
    where
      same_if : (a b c : Bool) → (c ≡ true → a ≡ b) → (a && c) ≡ (b && c)
      same_if a b true is = ap (λ y. y && true) (is refl)
      same_if true true false is = refl
      same_if true false false is = refl
      same_if false true false is = refl
      same_if false false false is = refl

      at : (d : Triple P) → (has x d && is_at net e d) ≡ (has x e && is_at net e d)
      at d = same_if (has x d) (has x e) (is_at net e d) (λ h. ap (has x) (triple_is law d e h))

      by : (b : Bool) → count_by (λ d. b && is_at net e d) (all_triples net rounds) ≡ cond b 1 0
      by true = one_there law e may rounds lt
      by false = count_none (λ d. false && is_at net e d) (λ d. refl) (all_triples net rounds)

  -- each item of the list is in the set
  pub listed_has : (x : Delivered P) → All (λ d. has x d ≡ true) (listed net rounds x)
  listed_has x = filter_passes (has x) (all_triples net rounds)

  -- a message of one set is in another with the same list
  pub listed_within : (x y : Delivered P) → WasSent net rounds x → listed net rounds x ≡ listed net rounds y → (e : Triple P)
      → has x e ≡ true → has y e ≡ true
  listed_within x y was h e there =
      let p = sent_parts law rounds x e (was e there) in
      let count : cond {A = ℕ} (has x e) 1 0 ≡ cond (has y e) 1 0 =
      sym (listed_once x e p.0 p.1.0) ∙ ap (count_by (is_at net e)) h ∙ listed_once y e p.0 p.1.0 in
      by (has y e) (ap (λ b. cond b 1 0) (sym there) ∙ count)
    where
      by : (b : Bool) → 1 ≡ cond {A = ℕ} b 1 0 → b ≡ true
      by true is = refl
      by false is = absurd (omega (arith, is))

  -- equal lists are of equal sets
  pub listed_tells : (x y : Delivered P) → WasSent net rounds x → WasSent net rounds y → listed net rounds x ≡ listed net rounds y → x ≡ y
  listed_tells x y was_x was_y h = λ i from to t. at (record { from = from; to = to; round = t }) i where
    at : (e : Triple P) → has x e ≡ has y e
    at e = bool_same (has x e) (has y e) (listed_within x y was_x h e) (listed_within y x was_y (sym h) e)
