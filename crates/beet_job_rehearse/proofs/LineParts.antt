-- A line of a number and a text, put together from both ends.
use Rattle.std.proofs.Common.{◌≡◌, ℕ, List, [], ◌∷◌, ◌++◌, append_assoc, sym, ◌∙◌}

pub line-parts : (number text : List ℕ) → number ++ (32 ∷ (text ++ 10 ∷ [])) ≡ ((number ++ 32 ∷ []) ++ text) ++ 10 ∷ []
line-parts number text = sym (append_assoc (number ++ 32 ∷ []) text (10 ∷ []) ∙ append_assoc number (32 ∷ []) (text ++ 10 ∷ []))
