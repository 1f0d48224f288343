use Rattle.std.proofs.Common.{◌≡◌, length, Result, Ok, Err, IfOk, MatchResult, ap, sym, subst, ◌∙◌}
use Rattle.std.proofs.lemmas.Result.{IfErr-weaker, IfOk-at_ok, IfOk-weaker}
use Rattle.beet_map.specs.Refused.{LookSame}
use Rattle.beet_map_laws.specs.Pairs.{GoTogether}
use Rattle.beet_turned.specs.MappedMasks.{MasksMapped}
use Rattle.beet_trades.specs.Servers.{ServersMapped}
use Rattle.beet_trades.proofs.EnoughFacts.{masks-enough}
use Rattle.beet_trades.proofs.OnlyMemory.{only-memory}
use Rattle.beet_trades.proofs.servers.map_from.Given.{Over}
use Rattle.beet_trades.proofs.servers.map_from.Goals.{In_ok-inputs}
use Rattle.beet_trades.proofs.servers.map_from.Goals as goal

-- what is held, and what holds beside it of what is read
beside-holds : {A : Type 0} {B : Type 0} {E : Type 0} (P : A → B → Type 0) (held : A) (read : Result B E) (both : Result (A × B) E) →
    MatchResult both (λ b. (b.0 ≡ held) × (read ≡ Ok b.1)) (λ e. read ≡ Err e) → IfOk read (P held) → IfOk both (λ b. P b.0 b.1)
beside-holds P held read (Ok b) m h = subst (λ a. P a b.1) (sym m.0) (subst (λ r. IfOk r (P held)) m.1 h)
beside-holds P held read (Err e) m h = tt

turned : (g : Over) (c : In_ok-inputs g) → MasksMapped c.args.me c.args.losses.now c.args.here.now.masks c.in_ok-inputs.masks
turned g c =
    subst (λ t. MasksMapped c.args.me c.args.losses.now t c.in_ok-inputs.masks) (λ i. (c.here.view_is i).masks)
    (IfOk-at_ok _ c.in_ok-inputs.ensures.1 c.map_masks.ensures)

same-lines : (g : Over) (c : In_ok-inputs g) → c.in_ok-inputs.inputs.items ≡ c.args.lines.items
same-lines g c = λ i. (c.in_ok-inputs.ensures.0 i).items

look-same : (g : Over) (c : In_ok-inputs g) →
    LookSame (g.S.Script.batch_of c.args.script.now) (g.S.Script.rounds_of c.args.script.now) (g.S.Script.masks_of c.args.script.now)
    c.args.me c.args.here.now (record { inputs = c.in_ok-inputs.inputs.items; masks = c.in_ok-inputs.masks })
look-same g c =
    subst (λ l. LookSame (g.S.Script.batch_of c.args.script.now) (g.S.Script.rounds_of c.args.script.now)
    (g.S.Script.masks_of c.args.script.now) c.args.me c.args.here.now (record { inputs = l; masks = c.in_ok-inputs.masks }))
    (sym (same-lines g c)) (c.requires.same c.in_ok-inputs.masks (turned g c))

pub gate_map-requires-clause-second : goal.gate_map-requires-clause-second
gate_map-requires-clause-second g c =
    let at = (goal.at.gate_map-requires-clause-second g c).In_ok-inputs in
    record {
      inputs = ap length (same-lines g at) ∙ c.requires.long;
      masks = masks-enough c.args.me c.args.losses.now c.args.here.now.masks c.in_ok-inputs.masks
          (g.S.Script.masks_of c.args.script.now) (turned g at) c.requires.secrets.masks;
    }

pub unless_out_of_memory-coefficients-requires : goal.unless_out_of_memory-coefficients-requires
unless_out_of_memory-coefficients-requires g c =
    IfErr-weaker c.gate_map.result _ _
    (only-memory (g.S.Script.batch_of c.args.script.now) (g.S.Script.rounds_of c.args.script.now) (g.S.Script.masks_of c.args.script.now)
    c.args.me c.args.here.now (record { inputs = c.in_ok-inputs.inputs.items; masks = c.in_ok-inputs.masks })
    (look-same g (goal.at.unless_out_of_memory-coefficients-requires g c).In_ok-inputs))
    c.gate_map.ensures.refused

pub returns : goal.returns
returns g c =
    let at = (goal.at.returns g c).In_ok-inputs in
    let next = g.S.Script.batch_of c.args.script.now in
    let most = g.S.Script.rounds_of c.args.script.now in
    let lines = c.args.lines.items in
    let masks = c.in_ok-inputs.masks in
    let gate = c.gate_map.ensures in
    beside-holds (λ masks words. ServersMapped next most c.args.me c.args.losses.now c.args.here.now lines c.args.words.now masks words)
    c.into_masks.result c.unless_out_of_memory-coefficients.result c.beside-2.result c.beside-2.ensures
    (IfOk-weaker c.unless_out_of_memory-coefficients.result _ _
    (λ words found. subst (λ masks. ServersMapped next most c.args.me c.args.losses.now c.args.here.now lines c.args.words.now
    masks words)
    (sym c.into_masks.ensures)
    (record {
      turned = turned g at;
      together = subst (λ l. GoTogether next most c.args.me c.args.here.now (record { inputs = l; masks = masks }) c.args.words.now words)
          (same-lines g at)
          (record {
            mapped = IfOk-at_ok _ found.0 gate.mapped;
            looks = IfOk-at_ok _ found.0 gate.looks;
            only = IfOk-at_ok _ found.0 gate.only;
            back = IfOk-at_ok _ found.0 gate.back;
          });
      masks_below = c.look_at.ensures;
      below = found.1;
    }))
    c.unless_out_of_memory-coefficients.ensures)
