use Rattle.beet_five_world.proofs.world.FiveWorld.core.Goals as goal

pub returns : goal.returns
returns g c = (c.member.result.now, c.member.ensures, c.core.ensures)
