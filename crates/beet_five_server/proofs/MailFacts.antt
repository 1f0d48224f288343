-- Places of messages.
use Rattle.std.proofs.Common.{◌≡◌, ℕ, zero, suc, List, Option, None, arith, ap, refl, subst, ◌∙◌}
use Rattle.std.specs.Prelude.{slice_index_or}
use Rattle.beet_weights.specs.Quadratics.{IsServer}
use Rattle.beet_five_server.specs.Mails.{cell, kept, place_of}
use Rattle.beet_five_server.specs.declared.mail.FiveMessage.{FiveMessage}

-- a statement of each server
pub by-server : (P : ℕ → Type 0) → P 1 → P 2 → P 3 → P 4 → P 5 → (j : ℕ) → IsServer j → P j
by-server P a b c d e zero h = absurd (omega (arith, h.0))
by-server P a b c d e (suc zero) h = a
by-server P a b c d e (suc (suc zero)) h = b
by-server P a b c d e (suc (suc (suc zero))) h = c
by-server P a b c d e (suc (suc (suc (suc zero)))) h = d
by-server P a b c d e (suc (suc (suc (suc (suc zero))))) h = e
by-server P a b c d e (suc (suc (suc (suc (suc (suc j)))))) h = absurd (omega (arith, h.1))

-- a statement of each two of them
pub by-peers : (P : ℕ → ℕ → Type 0) → P 1 2 → P 1 3 → P 1 4 → P 1 5 → P 2 1 → P 2 3 → P 2 4 → P 2 5 → P 3 1 → P 3 2 → P 3 4 → P 3 5 →
    P 4 1 → P 4 2 → P 4 3 → P 4 5 → P 5 1 → P 5 2 → P 5 3 → P 5 4 → (i j : ℕ) → IsServer i → IsServer j → (i ≡ j → ⊥) → P i j
by-peers P a b c d e f g h k l m n p q r s t u v w i j is to other =
    by-server (λ x. (y : ℕ) → IsServer y → (x ≡ y → ⊥) → P x y)
    (by-server (λ y. (1 ≡ y → ⊥) → P 1 y) (λ o. absurd (o refl)) (λ _. a) (λ _. b) (λ _. c) (λ _. d))
    (by-server (λ y. (2 ≡ y → ⊥) → P 2 y) (λ _. e) (λ o. absurd (o refl)) (λ _. f) (λ _. g) (λ _. h))
    (by-server (λ y. (3 ≡ y → ⊥) → P 3 y) (λ _. k) (λ _. l) (λ o. absurd (o refl)) (λ _. m) (λ _. n))
    (by-server (λ y. (4 ≡ y → ⊥) → P 4 y) (λ _. p) (λ _. q) (λ _. r) (λ o. absurd (o refl)) (λ _. s))
    (by-server (λ y. (5 ≡ y → ⊥) → P 5 y) (λ _. t) (λ _. u) (λ _. v) (λ _. w) (λ o. absurd (o refl)))
    i is j to other

-- the place of a message tells its round and sender
pub one-place : (t u i j : ℕ) → IsServer i → IsServer j → place_of t i ≡ place_of u j → (t ≡ u) × (i ≡ j)
one-place t u i j a b e = (omega (arith, a.0, a.1, b.0, b.1, e), omega (arith, a.0, a.1, b.0, b.1, e))

abbrev pub Places : Type 0
Places = List (Option FiveMessage)

-- what is left where a message of the wrong length is dropped from one place
pub record Kept (want place : ℕ) (old new : Places) : Type 0 where
  pub at : slice_index_or new place None ≡ kept want (slice_index_or old place None)
  pub others : (k : ℕ) → (k ≡ place → ⊥) → slice_index_or new k None ≡ slice_index_or old k None

pub kept-step : (want p q : ℕ) (old new : Places) → p ≡ q → slice_index_or new p None ≡ kept want (slice_index_or old p None) →
    ((k : ℕ) → (k ≡ p → ⊥) → slice_index_or new k None ≡ slice_index_or old k None) → Kept want q old new
kept-step want p q old new e at others = subst (λ z. Kept want z old new) e (record { at = at; others = others })

pub five-kept : (want round : ℕ) (a b c d e f : Places) →
    Kept want (place_of round 1) a b → Kept want (place_of round 2) b c → Kept want (place_of round 3) c d →
    Kept want (place_of round 4) d e → Kept want (place_of round 5) e f →
    (j : ℕ) → IsServer j → cell f round j ≡ kept want (cell a round j)
five-kept want round a b c d e f k1 k2 k3 k4 k5 =
    by-server (λ j. cell f round j ≡ kept want (cell a round j))
    (k5.others (place_of round 1) (λ x. absurd (omega (arith, x))) ∙ k4.others (place_of round 1) (λ x. absurd (omega (arith, x)))
    ∙ k3.others (place_of round 1) (λ x. absurd (omega (arith, x))) ∙ k2.others (place_of round 1) (λ x. absurd (omega (arith, x))) ∙ k1.at)
    (k5.others (place_of round 2) (λ x. absurd (omega (arith, x))) ∙ k4.others (place_of round 2) (λ x. absurd (omega (arith, x)))
    ∙ k3.others (place_of round 2) (λ x. absurd (omega (arith, x))) ∙ k2.at
    ∙ ap (kept want) (k1.others (place_of round 2) (λ x. absurd (omega (arith, x)))))
    (k5.others (place_of round 3) (λ x. absurd (omega (arith, x))) ∙ k4.others (place_of round 3) (λ x. absurd (omega (arith, x)))
    ∙ k3.at ∙ ap (kept want)
    (k2.others (place_of round 3) (λ x. absurd (omega (arith, x))) ∙ k1.others (place_of round 3) (λ x. absurd (omega (arith, x)))))
    (k5.others (place_of round 4) (λ x. absurd (omega (arith, x)))
    ∙ k4.at ∙ ap (kept want)
    (k3.others (place_of round 4) (λ x. absurd (omega (arith, x))) ∙ k2.others (place_of round 4) (λ x. absurd (omega (arith, x)))
    ∙ k1.others (place_of round 4) (λ x. absurd (omega (arith, x)))))
    (k5.at ∙ ap (kept want)
    (k4.others (place_of round 5) (λ x. absurd (omega (arith, x))) ∙ k3.others (place_of round 5) (λ x. absurd (omega (arith, x)))
    ∙ k2.others (place_of round 5) (λ x. absurd (omega (arith, x)))
    ∙ k1.others (place_of round 5) (λ x. absurd (omega (arith, x)))))
