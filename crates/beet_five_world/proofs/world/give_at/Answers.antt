use Rattle.std.proofs.Common.{Some, ap, sym, ◌∙◌}
use Rattle.std.proofs.lemmas.List.{length-set}
use Rattle.std.proofs.lemmas.Option.{same_Some, slice_get-get_or}
use Rattle.beet_five_server.proofs.Places.{get-other, get-set}
use Rattle.beet_five_world.specs.Members.{IsAt, Seen, verdict_at}
use Rattle.beet_five_world.proofs.world.give_at.Given.{Over}
use Rattle.beet_five_world.proofs.world.give_at.Goals.{After-give}
use Rattle.beet_five_world.proofs.world.give_at.Goals as goal

-- the server at the place
module _ (g : Over) (c : After-give g) where
  was-at : IsAt c.args.members.now.items c.args.k c.index_mut-member.result.now
  was-at = slice_get-get_or c.args.members.now.items c.args.k c.index_mut-member.result.now c.requires.place
      ∙ ap (λ z. Some z) (sym c.index_mut-member.ensures.value)

pub returns-clause-gives : goal.returns-clause-gives
returns-clause-gives g c =
    let ms = c.args.members.now.items in
    let at = (goal.at.returns-clause-gives g c).After-give in
    record {
      before = c.index_mut-member.result.now;
      after = c.give.new.self;
      was = was-at g at;
      is = get-set ms c.args.k c.give.new.self c.requires.place;
      gives = c.give.ensures.gives;
      me = c.give.ensures.me;
      script = c.give.ensures.script;
      others = λ i other. get-other ms c.args.k i c.give.new.self other;
      count = length-set ms c.args.k c.give.new.self;
    }

pub returns-clause-verdict : goal.returns-clause-verdict
returns-clause-verdict g c = λ s there.
    let at = (goal.at.returns-clause-verdict g c).After-give in
    c.give.ensures.verdict
    ∙ ap (λ (v : Seen g.row.S.Denot). verdict_at g.S.Script.batch_of v.core c.args.m)
    (same_Some c.index_mut-member.result.now s (sym (was-at g at) ∙ there))
