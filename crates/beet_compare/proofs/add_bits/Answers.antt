use Rattle.std.proofs.Common.{◌≡◌, ℕ, ◌+◌, ◌-◌, ◌*◌, List, [], ◌∷◌, ◌++◌, length, ap, ◌∙◌}
use Rattle.std.specs.Int.{bit_at}
use Rattle.beet_gates.specs.declared.Linear.{Linear}
use Rattle.beet_gates.specs.Each.{each, by_turns}
use Rattle.beet_gates.specs.Linears.{one_term}
use Rattle.beet_gates.proofs.EachFacts.{length-each, turns-push}
use Rattle.beet_compare.specs.Compare.{same_let}
use Rattle.beet_compare.proofs.add_bits.Goals as goal

pub loop-k-init : goal.loop-k-init
unfolding each
loop-k-init c = record { so_far = c.requires.none; count = ap length c.requires.none }

pub loop-k-preserved : goal.loop-k-preserved
loop-k-preserved c =
    let f = λ (k : ℕ). one_term 0 (1 - bit_at c.args.c k, c.args.mask + 366 + k) in
    let g = λ (k : ℕ). same_let (bit_at c.args.c k) (c.args.mask + 366 + k) in
    let k = c.loop-k.k in
    let wire = c.args.mask + 366 + k in
    let x : c.borrow_past.result ≡ f k = c.borrow_past.ensures ∙ ap (λ (b : ℕ). one_term 0 (1 - b, wire)) c.bit.ensures in
    let y : c.same.result ≡ g k = c.same.ensures ∙ ap (λ (b : ℕ). same_let b wire) c.bit-in-loop-k.ensures in
    let more : c.push-in-loop-k.new.self.items ≡ each (by_turns f g) (2 * (k + 1)) =
    c.push-in-loop-k.ensures.items ∙ ap (λ (l : List Linear). l ++ c.same.result ∷ []) c.push.ensures.items
    ∙ turns-push f g k c.loop-k.lets.items c.borrow_past.result c.same.result c.loop-k.invariant.so_far x y in
    record { so_far = more; count = ap length more ∙ length-each (by_turns f g) (2 * (k + 1)) }
