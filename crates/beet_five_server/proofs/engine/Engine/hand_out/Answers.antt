use Rattle.std.proofs.Common.{◌≡◌, ap, ◌∙◌, false}
use Rattle.beet_words.specs.Tapes.{left_of}
use Rattle.beet_words.proofs.DrawnFrom.{left-drawn}
use Rattle.beet_five_server.specs.Runs.{draws_in}
use Rattle.beet_server.proofs.Soundness.{hands-sound}
use Rattle.beet_five_server.specs.Cores.{Work}
use Rattle.beet_five_server.proofs.engine.Engine.hand_out.Goals as goal

pub invariant_of-self : goal.invariant_of-self
invariant_of-self g c =
    let handed : c.self.inside.handed ≡ false = ap (λ (w : Work g.row.S.Denot). w.handed) c.self.view_is ∙ c.requires.handed in (
      hands-sound 5 2 _ _ _ _ _ _ _ _ _ _ _ _ c.self.invariant.0 handed _ _ c.put_numbers.ensures.dealt
          (ap left_of c.put_numbers.ensures.drawn ∙ left-drawn c.self.inside.tapes.coefficients (draws_in c.self.inside.batch.act)),
      c.self.invariant.1,
      c.self.invariant.2,
      c.self.invariant.3,
    )
