use Rattle.std.proofs.Common.{◌-◌, List, Some, sym, ap, subst, ◌∙◌, arith}
use Rattle.std.proofs.lemmas.Option.{slice_get-get_or}
use Rattle.beet_five_world.specs.Members.{IsAt, Seen}
use Rattle.beet_five_world.proofs.world.FiveWorld.member.Goals as goal

pub returns : goal.returns
returns g c =
    let ms = c.self.inside.members.items in
    let there : IsAt ms (c.args.at - 1) c.index.result.now =
    slice_get-get_or ms (c.args.at - 1) c.index.result.now (omega (arith, c.self.invariant.fit.count, c.requires))
    ∙ ap (λ z. Some z) (sym c.index.ensures) in
    subst (λ (v : List (Seen g.row.S.Denot)). IsAt v (c.args.at - 1) c.index.result.now) c.self.view_is there
