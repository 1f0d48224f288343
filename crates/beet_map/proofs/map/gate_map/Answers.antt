use Rattle.std.proofs.Common.{sym, subst, refl}
use Rattle.beet_gates.specs.Scripts.{HasWords}
use Rattle.beet_map.specs.Secrets.{begin_in}
use Rattle.beet_map.proofs.Grounds.{are_alike, has_room}
use Rattle.beet_map.proofs.Whole.{AreAlike, WholeWords, fit_back, whole_words}
use Rattle.beet_map.proofs.map.gate_map.Given.{Over}
use Rattle.beet_map.proofs.map.gate_map.Goals.{In_ok-rounds, In_ok-mapped}
use Rattle.beet_map.proofs.map.gate_map.Goals as goal

-- the inputs and masks of both worlds are alike
alike : (g : Over) (c : In_ok-rounds g) →
    AreAlike (g.S.Script.batch_of c.args.script.now)
    (g.S.Script.rounds_of c.args.script.now) c.args.me c.in_ok-rounds.rounds c.args.first.now c.args.second.now
alike g c =
    let script = g.S.Script in
    let s = c.args.script.now in
    are_alike (script.batch_of s) (script.rounds_of s) (script.inputs_of s) (script.masks_of s) (script.wires_of s)
    (script.secrets_of s) (g.met.S.Script.lawful s)
    c.args.me c.args.first.now c.args.second.now c.requires.first c.requires.second
    c.in_ok-rounds.ensures.first_elements c.in_ok-rounds.ensures.second_elements
    c.in_ok-rounds.ensures.same c.in_ok-rounds.rounds c.in_ok-rounds.ensures.rounds

-- what holds of the mapped words
whole : (g : Over) (c : In_ok-mapped g)
    (a : AreAlike (g.S.Script.batch_of c.args.script.now)
    (g.S.Script.rounds_of c.args.script.now) c.args.me c.in_ok-rounds.rounds c.args.first.now c.args.second.now) →
    WholeWords (g.S.Script.batch_of c.args.script.now)
    (g.S.Script.rounds_of c.args.script.now) c.args.me c.in_ok-rounds.rounds c.args.first.now c.args.second.now a
    c.args.coefficients.now c.in_ok-mapped.mapped
whole g c a =
    whole_words (g.S.Script.batch_of c.args.script.now)
    (g.S.Script.rounds_of c.args.script.now) c.args.me c.in_ok-rounds.rounds c.args.first.now c.args.second.now a
    c.args.coefficients.now c.in_ok-mapped.mapped c.in_ok-drawn.drawn c.in_ok-numbers.numbers
    c.in_ok-drawn.ensures.below c.in_ok-drawn.ensures.numbers
    c.in_ok-numbers.ensures c.in_ok-mapped.ensures.numbers c.in_ok-mapped.ensures.places

pub map_numbers-requires-clause-may : goal.map_numbers-requires-clause-may
map_numbers-requires-clause-may g c = (alike g (goal.at.map_numbers-requires-clause-may g c).In_ok-rounds).may

pub map_numbers-requires-clause-room : goal.map_numbers-requires-clause-room
map_numbers-requires-clause-room g c =
    let script = g.S.Script in
    let s = c.args.script.now in
    has_room (script.batch_of s) (script.rounds_of s) (script.inputs_of s) (script.masks_of s) (script.wires_of s)
    (script.secrets_of s) (g.met.S.Script.lawful s)
    c.args.me c.args.first.now c.args.second.now c.requires.first c.requires.second
    c.in_ok-rounds.ensures.first_elements c.in_ok-rounds.ensures.second_elements
    c.in_ok-rounds.ensures.same c.in_ok-rounds.rounds c.in_ok-rounds.ensures.rounds
    c.in_ok-drawn.drawn (subst (λ n. HasWords (script.secrets_of s) n) (sym c.in_ok-drawn.ensures.numbers) c.requires.numbers)

pub all_back-requires : goal.all_back-requires
all_back-requires g c =
    let script = g.S.Script in
    let s = c.args.script.now in
    fit_back c.args.me c.in_ok-rounds.rounds (begin_in (script.batch_of s) c.args.first.now c.in_ok-drawn.drawn)
    (begin_in (script.batch_of s) c.args.second.now c.in_ok-numbers.numbers) c.args.coefficients.now
    c.in_ok-numbers.numbers c.in_ok-drawn.ensures.numbers refl c.in_ok-numbers.ensures

pub returns-clause-mapped : goal.returns-clause-mapped
returns-clause-mapped g c = (whole g (goal.at.returns-clause-mapped g c).In_ok-mapped
    (alike g (goal.at.returns-clause-mapped g c).In_ok-rounds)).mapped

pub returns-clause-looks : goal.returns-clause-looks
returns-clause-looks g c = (whole g (goal.at.returns-clause-looks g c).In_ok-mapped
    (alike g (goal.at.returns-clause-looks g c).In_ok-rounds)).looks_alike

pub returns-clause-only : goal.returns-clause-only
returns-clause-only g c = (whole g (goal.at.returns-clause-only g c).In_ok-mapped
    (alike g (goal.at.returns-clause-only g c).In_ok-rounds)).only_image

pub returns-clause-back : goal.returns-clause-back
returns-clause-back g c = (whole g (goal.at.returns-clause-back g c).In_ok-mapped
    (alike g (goal.at.returns-clause-back g c).In_ok-rounds)).only_source
