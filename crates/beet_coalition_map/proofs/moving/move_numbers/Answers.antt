use Rattle.std.proofs.Common.{◌≡◌, ◌+◌, ◌*◌, ap, subst, ◌∙◌, arith}
use Rattle.beet_field.specs.Field.{sub_of}
use Rattle.beet_gates.specs.Draws.{draws_in}
use Rattle.beet_coalition.specs.Watchers.{two_watch}
use Rattle.beet_coalition_map.specs.Steps.{MovesList, Stage, secret_in}
use Rattle.beet_coalition_map.proofs.Moves.{moves-more, moves-none}
use Rattle.beet_coalition_map.proofs.moving.move_numbers.Goals as goal

pub loop-k-init : goal.loop-k-init
loop-k-init c = record {
  moves = moves-none (two_watch c.args.two.a c.args.two.b)
      (secret_in c.args.here.masks.now c.args.here.stage.now c.args.act.now c.args.server)
      (secret_in c.args.there.masks.now c.args.there.stage.now c.args.act.now c.args.server) c.args.here.stage.now.hidden
      c.args.numbers.now;
  end = c.draws-k-end.ensures;
}

pub loop-k-preserved : goal.loop-k-preserved
loop-k-preserved c =
    let pair = c.move_pair.ensures in
    record {
      moves = moves-more (two_watch c.args.two.a c.args.two.b)
          (secret_in c.args.here.masks.now c.args.here.stage.now c.args.act.now c.args.server)
          (secret_in c.args.there.masks.now c.args.there.stage.now c.args.act.now c.args.server) c.args.here.stage.now.hidden
          c.loop-k.k c.args.numbers.now c.loop-k.numbers c.move_pair.new.numbers c.factors-rho.result.0 c.factors-rho.result.1
          c.sub.result (2 * (c.stage.inside.hidden + c.loop-k.k)) c.loop-k.invariant.moves
          (ap (λ (s : Stage). 2 * (s.hidden + c.loop-k.k)) c.stage.view_is)
          (c.sub.ensures ∙ (λ i. sub_of (c.secret-first.ensures i) (c.secret-second.ensures i)))
          c.factors-rho.ensures.rho c.factors-rho.ensures.sigma pair.rho pair.sigma pair.rest pair.length;
      end = c.loop-k.invariant.end;
    }

pub returns : goal.returns
returns c =
    let inv = c.loop-k.invariant in
    let end : c.loop-k.k ≡ draws_in c.args.act.now = omega (arith, inv.end, c.loop-k.auto.k-end, c.loop-k-test.false) in
    subst (λ n. MovesList (two_watch c.args.two.a c.args.two.b) n
    (secret_in c.args.here.masks.now c.args.here.stage.now c.args.act.now c.args.server)
    (secret_in c.args.there.masks.now c.args.there.stage.now c.args.act.now c.args.server) c.args.here.stage.now.hidden
    c.args.numbers.now c.loop-k.numbers) end inv.moves
