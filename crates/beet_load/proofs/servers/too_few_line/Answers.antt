use Rattle.std.proofs.Common.{◌≡◌, ℕ, List, [], ◌∷◌, ◌++◌, append_assoc, ap, ◌∙◌}
use Rattle.std.specs.Prelude.{codes, decimal, string_bytes}
use Rattle.beet_load.proofs.servers.too_few_line.Goals as goal

-- eleven parts, one after another
in-a-row : (a l s b c d e f g h i : List ℕ) → a ++ (l ++ (s ++ (b ++ (c ++ (d ++ (e ++ (f ++ (g ++ (h ++ i)))))))))
    ≡ a ++ l ++ s ++ b ++ c ++ d ++ e ++ f ++ g ++ h ++ i
in-a-row a l s b c d e f g h i = simp append_assoc

pub returns : goal.returns
returns c =
    rw (← c.in_ok-of.ensures) (ap (λ v. v.items) c.into_bytes.ensures.value
    ∙ (c.in_ok-line.ensures.ok
    ∙ in-a-row (codes "too few words: ") (string_bytes c.in_ok-of.of) (codes "server ") (decimal c.args.server)
    (codes " ") c.args.kind.now (codes " ") (decimal c.args.held) (codes " of ") (decimal c.args.wanted) (10 ∷ [])))
