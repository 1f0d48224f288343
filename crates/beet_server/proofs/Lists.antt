-- Lists.
use Rattle.std.proofs.Common.{◌≡◌, ℕ, zero, suc, ◌+◌, List, [], ◌∷◌, ◌++◌, take, drop, ap, add-one}

-- the next item of a list, of which k are taken
pub take-next : (xs : List ℕ) (k : ℕ) (x : ℕ) (rest : List ℕ) → drop k xs ≡ x ∷ rest → take (k + 1) xs ≡ take k xs ++ x ∷ []
take-next [] zero x rest e = cc e
take-next [] (suc k) x rest e = cc e
take-next (y ∷ ys) zero x rest e = cc e
take-next (y ∷ ys) (suc k) x rest e = rw add-one (ap (λ l. y ∷ l) (rw add-one at (take-next ys k x rest e)))

pub drop-next : (xs : List ℕ) (k : ℕ) (x : ℕ) (rest : List ℕ) → drop k xs ≡ x ∷ rest → drop (k + 1) xs ≡ rest
drop-next [] zero x rest e = cc e
drop-next [] (suc k) x rest e = cc e
drop-next (y ∷ ys) zero x rest e = cc e
drop-next (y ∷ ys) (suc k) x rest e = rw add-one (rw add-one at (drop-next ys k x rest e))
