use Rattle.std.proofs.Common.{◌≡◌, IfOk, sym, subst, ◌∙◌}
use Rattle.std.proofs.lemmas.Result.{IfOk-at_ok}
use Rattle.beet_trades.specs.Servers.{CanMap, ServersMapped, world_with}
use Rattle.beet_trades.proofs.servers.map_servers.Given.{Over}
use Rattle.beet_trades.proofs.servers.map_servers.Goals.{In_ok-inputs}
use Rattle.beet_trades.proofs.servers.map_servers.Goals as goal

masks-same : (g : Over) (c : In_ok-inputs g) → c.in_ok-inputs.masks ≡ c.args.words.now.masks
masks-same g c = IfOk-at_ok _ c.in_ok-inputs.ensures.1 c.copy_of.ensures ∙ (λ i. (c.words.view_is i).masks)

-- the world that is held
same-world : (g : Over) (c : In_ok-inputs g) → world_with c.in_ok-inputs.inputs.items c.in_ok-inputs.masks
    ≡ world_with c.args.here.items c.args.words.now.masks
same-world g c = λ i. world_with (c.in_ok-inputs.ensures.0 i).items (masks-same g c i)

pub map_from-mapped-requires : goal.map_from-mapped-requires
map_from-mapped-requires g c =
    let at = (goal.at.map_from-mapped-requires g c).In_ok-inputs in
    subst (λ t. CanMap (g.S.Script.batch_of c.args.script.now) (g.S.Script.rounds_of c.args.script.now)
    (g.S.Script.inputs_of c.args.script.now) (g.S.Script.masks_of c.args.script.now) (g.S.Script.secrets_of c.args.script.now)
    c.args.me c.args.losses.now (world_with c.in_ok-inputs.inputs.items c.in_ok-inputs.masks) c.args.there.items t)
    (sym (λ i. (c.words.view_is i).coefficients))
    (subst (λ w. CanMap (g.S.Script.batch_of c.args.script.now) (g.S.Script.rounds_of c.args.script.now)
    (g.S.Script.inputs_of c.args.script.now) (g.S.Script.masks_of c.args.script.now) (g.S.Script.secrets_of c.args.script.now)
    c.args.me c.args.losses.now w c.args.there.items c.args.words.now.coefficients) (sym (same-world g at)) c.requires)

pub returns : goal.returns
returns g c =
    let at = (goal.at.returns g c).In_ok-inputs in
    let next = g.S.Script.batch_of c.args.script.now in
    let most = g.S.Script.rounds_of c.args.script.now in
    subst (λ w. IfOk c.map_from-mapped.result (λ both. ServersMapped next most c.args.me c.args.losses.now w c.args.there.items
    c.args.words.now.coefficients both.0 both.1)) (same-world g at)
    (subst (λ t. IfOk c.map_from-mapped.result (λ both. ServersMapped next most c.args.me c.args.losses.now
    (world_with c.in_ok-inputs.inputs.items c.in_ok-inputs.masks) c.args.there.items t both.0 both.1))
    (λ i. (c.words.view_is i).coefficients) c.map_from-mapped.ensures)
