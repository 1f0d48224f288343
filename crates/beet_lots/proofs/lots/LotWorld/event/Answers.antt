use Rattle.std.proofs.Common.{◌≡◌, List, Some, ap, arith, length, refl, slice_get, slice_set, subst}
use Rattle.std.proofs.lemmas.Option.{slice_get_read}
use Rattle.beet_world.specs.Worlds.{World}
use Rattle.beet_lots.proofs.lots.LotWorld.event.Goals as goal

pub returns : goal.returns
returns g c =
    let many = ap length c.self.view_is in
    let wanted = c.requires in record {
      before = c.index_mut.result.now;
      changed = c.event.new.self;
      is = subst (λ (ws : List (World g.row.S.Denot)). slice_get ws c.args.lot ≡ Some c.index_mut.result.now) c.self.view_is
          (slice_get_read c.self.inside.worlds.items _ c.args.lot _ refl (omega (arith, many, wanted)) c.index_mut.ensures.value);
      happens = record {
        delivered = c.event.ensures.delivered;
        start = c.event.ensures.start;
        told = c.event.ensures.event;
        unchanged = c.event.ensures.unchanged;
      };
      alone = ap (λ (ws : List (World g.row.S.Denot)). slice_set ws c.args.lot c.event.new.self) c.self.view_is;
    }
