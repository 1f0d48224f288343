-- The lists of words of five servers.
use Rattle.std.proofs.Common.{◌≡◌, ℕ, ◌-◌, List, ◌∷◌, slice_index, arith, refl, inl, inr, zero, suc}
use Rattle.beet_linear_sharing.specs.Schemes.{five_servers}
use Rattle.beet_linear_sharing.specs.Sharings.{IsAmong}
use Rattle.beet_weights.specs.Quadratics.{of_five}
use Rattle.beet_coalition.specs.Lists.{at_server}
use Rattle.beet_coalition.specs.Words.{AreWords}
use Rattle.beet_five_dealing.specs.FiveWords.{AreWordLists}
use Rattle.beet_words.specs.Words.{IsWord}

-- one list more
pub lists-cons : (list : List ℕ) (lists : List (List ℕ)) → ((i : ℕ) → IsWord (slice_index list i)) → AreWordLists lists →
    AreWordLists (list ∷ lists)
lists-cons list lists here rest zero i = here i
lists-cons list lists here rest (suc k) i = rest k i

-- the lists of five servers
pub at-five : (c : ℕ → List ℕ) (j : ℕ) → IsAmong five_servers.servers j → at_server (of_five c) j ≡ c j
at-five c j (inl e) = rw e refl
at-five c j (inr (inl e)) = rw e refl
at-five c j (inr (inr (inl e))) = rw e refl
at-five c j (inr (inr (inr (inl e)))) = rw e refl
at-five c j (inr (inr (inr (inr (inl e))))) = rw e refl
at-five c j (inr (inr (inr (inr (inr e))))) = absurd e

pub words-five : (c : ℕ → List ℕ) → AreWords five_servers c → AreWordLists (of_five c)
words-five c are zero i = are 1 i (inl refl)
words-five c are (suc zero) i = are 2 i (inr (inl refl))
words-five c are (suc (suc zero)) i = are 3 i (inr (inr (inl refl)))
words-five c are (suc (suc (suc zero))) i = are 4 i (inr (inr (inr (inl refl))))
words-five c are (suc (suc (suc (suc zero)))) i = are 5 i (inr (inr (inr (inr (inl refl)))))
words-five c are (suc (suc (suc (suc (suc k))))) i = omega arith

pub at-words : (lists : List (List ℕ)) → AreWordLists lists → AreWords five_servers (at_server lists)
at-words lists small j n at = small (j - 1) n
