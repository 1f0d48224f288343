-- Lists that never rise, and lists that never fall.
use Rattle.std.proofs.Common.{◌≡◌, ℕ, suc, zero, ◌<◌, ◌≤◌, ◌+◌, ◌↔◌, Bool, true, false, IsTrue, nat_le, List, length}
use Rattle.std.proofs.Common.{get_or, AllPairs, arith, rules, sym}
use Rattle.std.specs.List.{IsAllAdjacentAnswer}
use Rattle.std.proofs.lemmas.Bool.{leb-true, leb-false, true≢false}

falls_to : (xs : List ℕ) → ((k : ℕ) (d : ℕ) → k + 1 < length xs → get_or xs (k + 1) d ≤ get_or xs k d) →
    (i j : ℕ) (d : ℕ) → i ≤ j → j < length xs → get_or xs j d ≤ get_or xs i d
falls_to xs step i zero d h k = grind arith
falls_to xs step i (suc j) d h k = grind (arith, step j d, falls_to xs step i j d)

rises_to : (xs : List ℕ) → ((k : ℕ) (d : ℕ) → k + 1 < length xs → get_or xs k d ≤ get_or xs (k + 1) d) →
    (i j : ℕ) (d : ℕ) → i ≤ j → j < length xs → get_or xs i d ≤ get_or xs j d
rises_to xs step i zero d h k = grind arith
rises_to xs step i (suc j) d h k = grind (arith, step j d, rises_to xs step i j d)

pub falls_answer : (xs : List ℕ) (r : Bool) → IsAllAdjacentAnswer (λ x y b. b ≡ nat_le y x) xs r →
    IsTrue r ↔ AllPairs (λ before after. after ≤ before) xs
falls_answer xs true a =
    ((λ _. λ i j d h k. falls_to xs (λ n e q. leb-true _ _ (sym (a n e q))) i j d (omega arith) k), λ _. search rules)
falls_answer xs false a =
    ((λ e. absurd (true≢false (sym e))), λ all. absurd (omega (arith, leb-false _ _ (sym (a.2 0)), all a.0 (a.0 + 1) 0 (omega arith) a.1)))

pub rises_answer : (xs : List ℕ) (r : Bool) → IsAllAdjacentAnswer (λ x y b. b ≡ nat_le x y) xs r →
    IsTrue r ↔ AllPairs (λ before after. before ≤ after) xs
rises_answer xs true a =
    ((λ _. λ i j d h k. rises_to xs (λ n e q. leb-true _ _ (sym (a n e q))) i j d (omega arith) k), λ _. search rules)
rises_answer xs false a =
    ((λ e. absurd (true≢false (sym e))), λ all. absurd (omega (arith, leb-false _ _ (sym (a.2 0)), all a.0 (a.0 + 1) 0 (omega arith) a.1)))
