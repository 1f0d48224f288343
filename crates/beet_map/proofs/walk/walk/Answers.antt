use Rattle.std.proofs.Common.{◌≡◌, ◌+◌, ◌++◌, ℕ, List, sym, ap, subst, ◌∙◌, arith}
use Rattle.beet_sharing.specs.Runs.{opened_by, with_batch_lets}
use Rattle.beet_map.specs.declared.walk.World.{World}
use Rattle.beet_map.proofs.Turning.{Turned, turned}
use Rattle.beet_map.proofs.walk.walk.Given.{Over}
use Rattle.beet_map.proofs.walk.walk.Goals.{After-refill}
use Rattle.beet_map.proofs.walk.walk.Goals as goal

-- the batch that comes in this round
module _ (g : Over) (c : After-refill g) where
  read : c.as_slice-opened.result.now ≡ c.loop-t.here.stage.opened
  read = c.as_slice-opened.ensures.value ∙ ap (λ (w : World). w.stage.opened) c.here.view_is

  batch_is : c.refill.new.batch ≡ g.S.Script.batch_of c.args.script.now c.loop-t.t c.loop-t.here.stage.opened
  batch_is = c.refill.ensures.batch ∙ ap (g.S.Script.batch_of c.args.script.now c.loop-t.t) read

  turning : Turned (g.S.Script.batch_of c.args.script.now) c.args.me c.args.here.now.secrets.now c.args.there.now.secrets.now
      c.args.here.now.numbers c.loop-t.there.numbers c.loop-t.t c.loop-t.here.stage c.loop-t.there.stage c.refill.new.batch
  turning =
      turned (g.S.Script.batch_of c.args.script.now) c.args.me c.args.rounds c.args.here.now.secrets.now
      c.args.there.now.secrets.now c.requires.may c.args.here.now.numbers c.loop-t.there.numbers c.loop-t.t (omega arith)
      c.requires.room c.loop-t.invariant.mapped c.loop-t.here.stage c.loop-t.there.stage
      c.loop-t.invariant.first c.loop-t.invariant.second c.refill.new.batch batch_is

pub refill-requires : goal.refill-requires
refill-requires g c =
    subst (λ l. g.S.Script.is_at c.args.script.now c.loop-t.t l c.loop-t.place)
    (sym (c.as_slice-opened.ensures.value ∙ ap (λ (w : World). w.stage.opened) c.here.view_is)) c.loop-t.invariant.placed

pub step-requires-clause-first : goal.step-requires-clause-first
step-requires-clause-first g c =
    let turn = turning g (goal.at.step-requires-clause-first g c).After-refill in
    rw (c.loop-t.invariant.secrets, c.loop-t.invariant.numbers) turn.first

pub step-requires-clause-moving : goal.step-requires-clause-moving
step-requires-clause-moving g c =
    let turn = turning g (goal.at.step-requires-clause-moving g c).After-refill in
    rw c.loop-t.invariant.secrets turn.moving

pub step-requires-clause-second : goal.step-requires-clause-second
step-requires-clause-second g c =
    let turn = turning g (goal.at.step-requires-clause-second g c).After-refill in
    rw (c.loop-t.invariant.secrets, c.loop-t.invariant.secrets') turn.second

pub loop-t-preserved : goal.loop-t-preserved
loop-t-preserved g c =
    let after = (goal.at.loop-t-preserved g c).After-refill in
    let turn = turning g after in
    let inv = c.loop-t.invariant in
    let step = c.in_ok-step.ensures in
    let moves = rw (inv.secrets, inv.secrets') at step.moves in
    let goes : (l : List ℕ) → g.S.Script.is_at c.args.script.now c.loop-t.t l c.refill.new.place → (more : List ℕ) →
    g.S.Script.is_at c.args.script.now (c.loop-t.t + 1) (l ++ more) c.refill.new.place =
    λ l there more. g.met.S.Script.goes_on c.args.script.now c.loop-t.t (c.loop-t.t + 1) l more c.refill.new.place there (omega arith) in
    let more = opened_by (with_batch_lets c.refill.new.batch c.loop-t.here.stage) c.refill.new.batch.act in
    record {
      secrets = ap (λ (w : World). w.secrets) step.first ∙ inv.secrets;
      numbers = ap (λ (w : World). w.numbers) step.first ∙ inv.numbers;
      secrets' = ap (λ (w : World). w.secrets) step.second ∙ inv.secrets';
      first = ap (λ (w : World). w.stage) step.first ∙ rw (inv.secrets, inv.numbers) turn.next_first;
      second = ap (λ (w : World). w.stage) step.second ∙ rw inv.secrets' (turn.next_second c.step.new.there.numbers moves);
      mapped = turn.mapped c.step.new.there.numbers moves;
      placed = subst (λ l. g.S.Script.is_at c.args.script.now (c.loop-t.t + 1) l c.refill.new.place)
          (sym (ap (λ (w : World). w.stage.opened) step.first))
          (goes c.loop-t.here.stage.opened (subst (λ l. g.S.Script.is_at c.args.script.now c.loop-t.t l c.refill.new.place)
          (read g after) c.refill.ensures.place) more);
    }
