use Rattle.std.proofs.Common.{◌≡◌, ◌+◌, ◌++◌, ℕ, List, refl, sym, ap, subst, ◌∙◌, arith}
use Rattle.beet_gates.specs.Scripts.{Standing, bounds_of}
use Rattle.beet_linear_sharing.specs.Runs.{opened_by}
use Rattle.beet_linear_sharing.specs.Schemes.{five_servers}
use Rattle.beet_coalition_map.specs.Steps.{acted, lets_added, run_of}
use Rattle.beet_coalition_map.specs.declared.walk.World.{World}
use Rattle.beet_coalition_map.proofs.Turning.{Walked, at-end, at-last, begins, fits, fits', fits-moved, walked}
use Rattle.beet_coalition_map.proofs.walk.walk.Given.{Over}
use Rattle.beet_coalition_map.proofs.walk.walk.Goals.{After-refill}
use Rattle.beet_coalition_map.proofs.walk.walk.Goals as goal

-- the batch that comes in this round
module _ (g : Over) (c : After-refill g) where
  read : c.as_slice-opened.result.now ≡ c.loop-t.here.stage.opened
  read = c.as_slice-opened.ensures.value ∙ ap (λ (w : World). w.stage.opened) c.here.view_is

  batch_is : c.refill.new.batch ≡ g.S.Script.batch_of c.args.script.now c.loop-t.t c.loop-t.here.stage.opened
  batch_is = c.refill.ensures.batch ∙ ap (g.S.Script.batch_of c.args.script.now c.loop-t.t) read

  abbrev bounds : Standing
  bounds =
      bounds_of (g.S.Script.wires_of c.args.script.now) (g.S.Script.masks_of c.args.script.now)
      (g.S.Script.secrets_of c.args.script.now)

pub loop-t-init : goal.loop-t-init
loop-t-init g c =
    let start = begins c.args.two.a c.args.two.b (g.S.Script.batch_of c.args.script.now) c.args.here.now.secrets.now
    c.args.there.now.secrets.now c.args.here.now.numbers in
    record {
      secrets = refl;
      numbers = refl;
      secrets' = refl;
      walked = rw (c.requires.here, c.requires.there, c.requires.numbers) start;
      end = c.rounds-t-end.ensures.value;
      placed = rw c.requires.here c.begin-place.ensures;
    }

pub refill-requires : goal.refill-requires
refill-requires g c =
    subst (λ l. g.S.Script.is_at c.args.script.now c.loop-t.t l c.loop-t.place)
    (sym (c.as_slice-opened.ensures.value ∙ ap (λ (w : World). w.stage.opened) c.here.view_is)) c.loop-t.invariant.placed

pub returns-then-is_end-clause-mapped : goal.returns-then-is_end-clause-mapped
returns-then-is_end-clause-mapped g c =
    let after = (goal.at.returns-then-is_end-clause-mapped g c).After-refill in
    at-end c.args.two.a c.args.two.b (g.S.Script.batch_of c.args.script.now) c.args.here.now.secrets.now
    c.args.there.now.secrets.now c.args.here.now.numbers c.args.two.lowest c.args.two.order c.args.two.highest
    c.loop-t.here.stage c.loop-t.there.stage c.loop-t.there.numbers c.loop-t.t c.loop-t.invariant.walked c.refill.new.batch
    (batch_is g after) (sym c.is_end.ensures ∙ c.if-is_end.true)

pub returns-then-is_end-clause-lengths : goal.returns-then-is_end-clause-lengths
returns-then-is_end-clause-lengths g c = c.loop-t.invariant.walked.lengths

pub step-requires-clause-first : goal.step-requires-clause-first
step-requires-clause-first g c =
    let after = (goal.at.step-requires-clause-first g c).After-refill in
    rw c.loop-t.invariant.numbers
    (fits c.args.two.a c.args.two.b (g.S.Script.batch_of c.args.script.now) c.args.here.now.secrets.now
    c.args.there.now.secrets.now c.args.here.now.numbers c.args.two.lowest c.args.two.order c.args.two.highest
    c.loop-t.here.stage c.loop-t.there.stage c.loop-t.there.numbers c.loop-t.t c.loop-t.invariant.walked c.refill.new.batch
    (batch_is g after) (sym c.is_end.ensures ∙ c.if-is_end.false) (bounds g after)
    (g.S.Script.rounds_of c.args.script.now) (g.S.Script.inputs_of c.args.script.now)
    (g.met.S.Script.lawful c.args.script.now) c.requires.enough (omega arith))

pub step-requires-clause-moving : goal.step-requires-clause-moving
step-requires-clause-moving g c =
    let after = (goal.at.step-requires-clause-moving g c).After-refill in
    fits' c.args.two.a c.args.two.b (g.S.Script.batch_of c.args.script.now) c.args.here.now.secrets.now
    c.args.there.now.secrets.now c.args.here.now.numbers c.args.two.lowest c.args.two.order c.args.two.highest
    c.loop-t.here.stage c.loop-t.there.stage c.loop-t.there.numbers c.loop-t.t c.loop-t.invariant.walked c.refill.new.batch
    (batch_is g after) (sym c.is_end.ensures ∙ c.if-is_end.false) (bounds g after)
    (g.S.Script.rounds_of c.args.script.now) (g.S.Script.inputs_of c.args.script.now)
    (g.met.S.Script.lawful c.args.script.now) c.requires.enough (omega arith)

pub step-requires-clause-second : goal.step-requires-clause-second
step-requires-clause-second g c =
    let after = (goal.at.step-requires-clause-second g c).After-refill in
    rw (c.loop-t.invariant.secrets, c.loop-t.invariant.secrets')
    (fits-moved c.args.two.a c.args.two.b (g.S.Script.batch_of c.args.script.now) c.args.here.now.secrets.now
    c.args.there.now.secrets.now c.args.here.now.numbers c.args.two.lowest c.args.two.order c.args.two.highest
    c.loop-t.here.stage c.loop-t.there.stage c.loop-t.there.numbers c.loop-t.t c.loop-t.invariant.walked c.refill.new.batch
    (batch_is g after) (sym c.is_end.ensures ∙ c.if-is_end.false) (bounds g after)
    (g.S.Script.rounds_of c.args.script.now) (g.S.Script.inputs_of c.args.script.now)
    (g.met.S.Script.lawful c.args.script.now) c.requires.enough (omega arith))

pub loop-t-preserved : goal.loop-t-preserved
loop-t-preserved g c =
    let after = (goal.at.loop-t-preserved g c).After-refill in
    let inv = c.loop-t.invariant in
    let step = c.in_ok-step.ensures in
    let batch = c.refill.new.batch in
    let moves = rw (inv.secrets, inv.secrets') at step.moves in
    let here : c.step.new.here.stage
    ≡ acted c.args.here.now.secrets.now.masks c.args.here.now.numbers batch.act (lets_added batch c.loop-t.here.stage) =
    ap (λ (w : World). w.stage) step.first
    ∙ (λ i. acted (inv.secrets i).now.masks (inv.numbers i) batch.act (lets_added batch c.loop-t.here.stage)) in
    let there : c.step.new.there.stage
    ≡ acted c.args.there.now.secrets.now.masks c.step.new.there.numbers batch.act (lets_added batch c.loop-t.there.stage) =
    ap (λ (w : World). w.stage) step.second
    ∙ (λ i. acted (inv.secrets' i).now.masks c.step.new.there.numbers batch.act (lets_added batch c.loop-t.there.stage)) in
    let stands = walked c.args.two.a c.args.two.b (g.S.Script.batch_of c.args.script.now) c.args.here.now.secrets.now
    c.args.there.now.secrets.now c.args.here.now.numbers c.args.two.lowest c.args.two.order c.args.two.highest
    c.loop-t.here.stage c.loop-t.there.stage c.loop-t.there.numbers c.loop-t.t inv.walked batch
    (batch_is g after) (sym c.is_end.ensures ∙ c.if-is_end.false) c.step.new.there.numbers moves in
    let goes : (l : List ℕ) → g.S.Script.is_at c.args.script.now c.loop-t.t l c.refill.new.place → (more : List ℕ) →
    g.S.Script.is_at c.args.script.now (c.loop-t.t + 1) (l ++ more) c.refill.new.place =
    λ l there more.
    g.met.S.Script.goes_on c.args.script.now c.loop-t.t (c.loop-t.t + 1) l more c.refill.new.place there (omega arith) in
    let more = opened_by five_servers (run_of (lets_added batch c.loop-t.here.stage)) batch.act in
    record {
      secrets = ap (λ (w : World). w.secrets) step.first ∙ inv.secrets;
      numbers = ap (λ (w : World). w.numbers) step.first ∙ inv.numbers;
      secrets' = ap (λ (w : World). w.secrets) step.second ∙ inv.secrets';
      walked = rw (here, there) stands;
      end = inv.end;
      placed = subst (λ l. g.S.Script.is_at c.args.script.now (c.loop-t.t + 1) l c.refill.new.place)
          (sym (ap (λ (w : World). w.stage.opened) step.first))
          (goes c.loop-t.here.stage.opened (subst (λ l. g.S.Script.is_at c.args.script.now c.loop-t.t l c.refill.new.place)
          (read g after) c.refill.ensures.place) more);
    }

pub returns-clause-mapped : goal.returns-clause-mapped
returns-clause-mapped g c =
    let script = g.S.Script in
    let s = c.args.script.now in
    let inv = c.loop-t.invariant in
    let most : c.loop-t.t ≡ script.rounds_of s = omega (arith, inv.end, c.loop-t-test.false, c.loop-t.auto.t-end) in
    at-last c.args.two.a c.args.two.b (script.batch_of s) c.args.here.now.secrets.now c.args.there.now.secrets.now
    c.args.here.now.numbers c.loop-t.here.stage c.loop-t.there.stage c.loop-t.there.numbers (script.rounds_of s)
    (script.inputs_of s) (bounds_of (script.wires_of s) (script.masks_of s) (script.secrets_of s)) (g.met.S.Script.lawful s)
    (subst (λ n. Walked c.args.two.a c.args.two.b (script.batch_of s) c.args.here.now.secrets.now c.args.there.now.secrets.now
    c.args.here.now.numbers c.loop-t.here.stage c.loop-t.there.stage c.loop-t.there.numbers n) most inv.walked)

pub returns-clause-lengths : goal.returns-clause-lengths
returns-clause-lengths g c = c.loop-t.invariant.walked.lengths
