-- A line of three numbers and the words between them, put together from both ends.
use Rattle.std.proofs.Common.{◌≡◌, ℕ, List, ◌++◌, append_assoc, sym, ◌∙◌}

pub line-parts : (a m b n c end : List ℕ) → a ++ (m ++ (b ++ (n ++ (c ++ end)))) ≡ ((((a ++ m) ++ b) ++ n) ++ c) ++ end
line-parts a m b n c end =
    sym (append_assoc (((a ++ m) ++ b) ++ n) c end ∙ append_assoc ((a ++ m) ++ b) n (c ++ end)
    ∙ append_assoc (a ++ m) b (n ++ (c ++ end)) ∙ append_assoc a m (b ++ (n ++ (c ++ end))))
