use Rattle.std.proofs.Common.{◌≡◌, ◌+◌, ◌*◌, ℕ, List, length, drop, arith, sym, ap, ◌∙◌, subst}
use Rattle.std.specs.List.{remove}
use Rattle.beet_words.specs.Tapes.{Tape, left_of}
use Rattle.beet_words.specs.Words.{accepted}
use Rattle.beet_weights.specs.Quadratics.{IsServer}
use Rattle.beet_coalition.specs.Lists.{at_server}
use Rattle.beet_five_server.specs.Answers.{fresh_core}
use Rattle.beet_five_run.specs.FiveRuns.{IsEnough, unpassed}
use Rattle.beet_five_run.proofs.FiveStarts.{HaveBegun, all-begun, more-begun, only-memory, taken-first}
use Rattle.beet_five_run.proofs.running.start_five.Given.{Over}
use Rattle.beet_five_run.proofs.running.start_five.Goals.{After-remove-drawn}
use Rattle.beet_five_run.proofs.running.start_five.Goals as goal

-- what is taken for the next server
module _ (g : Over) (c : After-remove-drawn g) where
  abbrev k : ℕ
  k = c.loop-k.k

  server : IsServer (k + 1)
  server = (omega arith, omega (arith, c.loop-k-test.true))

  shares : (c.remove-shares.result ≡ at_server c.args.inputs.items (k + 1))
      × (remove c.loop-k.inputs.items 0 ≡ drop (k + 1) c.args.inputs.items)
  shares =
      taken-first c.args.inputs.items c.loop-k.inputs.items k c.remove-shares.result c.loop-k.invariant.inputs
      (omega (arith, c.loop-k-test.true, c.requires.has_inputs.five)) c.remove-shares.ensures.value

  dealt : (c.remove-dealt.result ≡ at_server c.args.masks.items (k + 1))
      × (remove c.loop-k.masks.items 0 ≡ drop (k + 1) c.args.masks.items)
  dealt =
      taken-first c.args.masks.items c.loop-k.masks.items k c.remove-dealt.result c.loop-k.invariant.masks
      (omega (arith, c.loop-k-test.true, c.requires.has_masks.five)) c.remove-dealt.ensures.value

  drawn : (c.remove-drawn.result ≡ at_server c.args.coefficients.items (k + 1))
      × (remove c.loop-k.coefficients.items 0 ≡ drop (k + 1) c.args.coefficients.items)
  drawn =
      taken-first c.args.coefficients.items c.loop-k.coefficients.items k c.remove-drawn.result c.loop-k.invariant.coefficients
      (omega (arith, c.loop-k-test.true, c.requires.has_coefficients.five)) c.remove-drawn.ensures.value

  enough-masks : IsEnough (g.S.Script.masks_of c.args.script) (length c.remove-dealt.result) c.remove-dealt.result
  enough-masks =
      subst (λ (l : List ℕ). IsEnough (g.S.Script.masks_of c.args.script) (length l) l) (sym dealt.0)
      (c.requires.has_masks.are (k + 1) server)

  enough-numbers : IsEnough (2 * g.S.Script.secrets_of c.args.script) (length (accepted c.remove-drawn.result)) c.remove-drawn.result
  enough-numbers =
      subst (λ (l : List ℕ). IsEnough (2 * g.S.Script.secrets_of c.args.script) (length (accepted l)) l) (sym drawn.0)
      (c.requires.has_coefficients.are (k + 1) server)

pub of_words-words-requires : goal.of_words-words-requires
of_words-words-requires g c = (enough-masks g (goal.at.of_words-words-requires g c).After-remove-drawn).few

pub of_words-numbers-requires : goal.of_words-numbers-requires
of_words-numbers-requires g c = (enough-numbers g (goal.at.of_words-numbers-requires g c).After-remove-drawn).few

pub start-requires-clause-me : goal.start-requires-clause-me
start-requires-clause-me g c = server g (goal.at.start-requires-clause-me g c).After-remove-drawn

pub start-requires-clause-inputs : goal.start-requires-clause-inputs
start-requires-clause-inputs g c =
    let at = (goal.at.start-requires-clause-inputs g c).After-remove-drawn in
    ap (λ (l : List ℕ). length l) (shares g at).0 ∙ c.requires.has_inputs.are (c.loop-k.k + 1) (server g at)

pub no_memory-requires : goal.no_memory-requires
no_memory-requires g c =
    let at = (goal.at.no_memory-requires g c).After-remove-drawn in
    rw c.in-Err.is at (only-memory c.start.result
    (λ have e.
    let few = (c.start.ensures.words have).0 e in
    let left = ap (λ (tape : Tape). length (left_of tape)) c.of_words-numbers.ensures in
    let enough = (enough-numbers g at).enough in
    omega (arith, few.0, few.1, left, enough))
    (λ have e.
    let few = (c.start.ensures.masks have).0 e in
    let left = ap (λ (tape : Tape). length tape.words) c.of_words-words.ensures in
    let enough = (enough-masks g at).enough in
    omega (arith, few.1, few.2, left, enough)))

pub loop-k-preserved : goal.loop-k-preserved
loop-k-preserved g c =
    let s = g.S.Script in
    let a = c.args in
    let k = c.loop-k.k in
    let inv = c.loop-k.invariant in
    let at = (goal.at.loop-k-preserved g c).After-remove-drawn in
    record {
      within = omega (arith, c.loop-k-test.true);
      inputs = c.remove-shares.ensures.items ∙ (shares g at).1;
      masks = c.remove-dealt.ensures.items ∙ (dealt g at).1;
      coefficients = c.remove-drawn.ensures.items ∙ (drawn g at).1;
      begun = more-begun s.batch_of s.rounds_of a.script a.inputs.items a.masks.items a.coefficients.items k c.loop-k.cores.items _
          c.in-Ok.core inv.begun
          (c.in-Ok.ensures.core
          ∙ (λ i. fresh_core s.batch_of (k + 1) a.script ((shares g at).0 i) (c.of_words-words.ensures i) (c.of_words-numbers.ensures i)
          (s.rounds_of a.script))
          ∙ (λ i. fresh_core s.batch_of (k + 1) a.script (at_server a.inputs.items (k + 1)) (unpassed ((dealt g at).0 i))
          (unpassed ((drawn g at).0 i)) (s.rounds_of a.script)))
          c.push_reserved.ensures.items;
      room = omega (arith, c.push_reserved.ensures.capacity, inv.room);
    }

pub returns-clause-starts : goal.returns-clause-starts
returns-clause-starts g c =
    let s = g.S.Script in
    let a = c.args in
    let last : c.loop-k.k ≡ 5 = omega (arith, c.loop-k-test.false, c.loop-k.invariant.within) in
    all-begun s.batch_of s.rounds_of a.script a.inputs.items a.masks.items a.coefficients.items c.loop-k.cores.items
    (subst (λ n. HaveBegun s.batch_of s.rounds_of a.script a.inputs.items a.masks.items a.coefficients.items n c.loop-k.cores.items) last
    c.loop-k.invariant.begun)
