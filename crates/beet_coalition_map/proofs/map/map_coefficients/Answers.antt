use Rattle.std.proofs.Common.{◌≡◌, ◌*◌, ◌≤◌, ◌-◌, length, sym, ap, subst, ◌∙◌}
use Rattle.beet_words.specs.Words.{accepted}
use Rattle.beet_coalition.specs.Lists.{at_server}
use Rattle.beet_coalition_map.proofs.Fives.{five-drawn, fit-back, words-mapped, words-there}
use Rattle.beet_coalition_map.proofs.map.map_coefficients.Goals as goal

pub map_numbers-requires : goal.map_numbers-requires
map_numbers-requires g c = λ j at.
    let is : at_server c.in_ok-drawn.drawn j ≡ accepted (at_server c.args.coefficients.now j) =
    ap (λ l. at_server l j) c.in_ok-drawn.ensures ∙ five-drawn c.args.coefficients.now c.requires.five j in
    subst (λ l. 2 * g.S.Script.secrets_of c.args.script.now ≤ length l) (sym is) (c.requires.numbers j at)

pub all_back-requires : goal.all_back-requires
all_back-requires g c =
    fit-back c.args.coefficients.now c.in_ok-numbers.numbers (λ j at.
    let is : at_server c.in_ok-drawn.drawn j ≡ accepted (at_server c.args.coefficients.now j) =
    ap (λ l. at_server l j) c.in_ok-drawn.ensures ∙ five-drawn c.args.coefficients.now c.requires.five j in
    c.in_ok-numbers.ensures.lengths j at ∙ ap length is)

pub returns-clause-words : goal.returns-clause-words
returns-clause-words g c = λ j n at. words-there c.in_ok-words.words.items (j - 1) n c.in_ok-words.ensures.below

pub returns-clause-mapped : goal.returns-clause-mapped
returns-clause-mapped g c =
    words-mapped c.args.two.a c.args.two.b (g.S.Script.batch_of c.args.script.now) c.args.first.now c.args.second.now
    c.args.coefficients.now c.in_ok-drawn.drawn c.in_ok-numbers.numbers c.in_ok-words.words.items c.requires.five
    c.in_ok-drawn.ensures c.in_ok-words.ensures.numbers c.in_ok-words.ensures.places c.in_ok-numbers.ensures.mapped
