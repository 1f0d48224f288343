use Rattle.std.proofs.Common.{◌≡◌, ◌<◌, ◌+◌, ◌∷◌, [], ◌++◌, false, true≢false, length, length-append, arith, sym, refl, subst, ◌∙◌, ap}
use Rattle.std.proofs.lemmas.Bool.{false_from_ne_true}
use Rattle.beet_server.specs.Cores.{Core, is_quiet}
use Rattle.beet_world.specs.Happens.{HasTakenMessages}
use Rattle.beet_world.proofs.GivenFacts.{goes-more, keeps-both, loud, room-for, sends-more, taken-more}
use Rattle.beet_world.proofs.giving.hand_out.Goals as goal

pub push_reserved-requires : goal.push_reserved-requires
push_reserved-requires g c =
    let next = g.S.Script.batch_of in
    let busy : is_quiet next c.loop-turn.core ≡ false =
    false_from_ne_true (is_quiet next c.loop-turn.core) (λ e. true≢false (c.in-Some.ensures.quiet.1 e)) in
    let more : length c.loop-turn.sent.items < g.S.Script.rounds_of c.loop-turn.core.script =
    room-for next c.loop-turn.core (length c.loop-turn.sent.items)
    (g.S.Script.rounds_of c.loop-turn.core.script) busy c.loop-turn.invariant.counted c.in-Some.ensures.within in
    let same = ap g.S.Script.rounds_of c.loop-turn.invariant.keeps.script in
    omega (arith, more, same, c.requires.room, c.loop-turn.invariant.capacity, c.loop-turn.sent.ok)

pub returns-in_default-clause-took : goal.returns-in_default-clause-took
returns-in_default-clause-took g c =
    let next = g.S.Script.batch_of in
    let inv = c.loop-turn.invariant in
    subst (λ (k : Core g.row.S.Denot). HasTakenMessages next (g.S.Script.rounds_of c.args.core.now.script) c.args.core.now k
    c.args.sent.now c.loop-turn.sent) (sym c.in_default.ensures.same) (record {
      capacity = inv.capacity;
      keeps = inv.keeps;
      quiet = c.in_default.ensures.quiet.0 refl;
      counted = inv.counted;
      within = inv.within;
    })

pub returns-in_default-clause-fits : goal.returns-in_default-clause-fits
returns-in_default-clause-fits g c = λ o x f. c.in_default.ensures.fits o x (c.loop-turn.invariant.fits o x f)

pub loop-turn-preserved : goal.loop-turn-preserved
loop-turn-preserved g c =
    let next = g.S.Script.batch_of in
    let inv = c.loop-turn.invariant in
    let busy : is_quiet next c.loop-turn.core ≡ false =
    false_from_ne_true (is_quiet next c.loop-turn.core) (λ e. true≢false (c.in-Some.ensures.quiet.1 e)) in
    let both = loud next c.loop-turn.core busy in
    let moves = c.in-Some.ensures.moves in
    let keeps = c.in-Some.ensures.keeps in
    let more : length c.loop-turn.sent.items < g.S.Script.rounds_of c.loop-turn.core.script =
    room-for next c.loop-turn.core (length c.loop-turn.sent.items)
    (g.S.Script.rounds_of c.loop-turn.core.script) busy inv.counted c.in-Some.ensures.within in
    let same = ap g.S.Script.rounds_of inv.keeps.script in
    let pushed : length c.push_reserved.new.self.items ≡ length c.loop-turn.sent.items + 1 =
    ap length c.push_reserved.ensures.items ∙ length-append c.loop-turn.sent.items (c.in-Some.messages ∷ []) in
    record {
      end = inv.end;
      keeps = keeps-both inv.keeps keeps;
      capacity = c.push_reserved.ensures.capacity ∙ inv.capacity;
      counted = pushed ∙ ap (λ n. n + 1) inv.counted ∙ sym (taken-more next c.loop-turn.core c.out.new.self both.0 moves);
      pushed = omega (arith, pushed, inv.pushed);
      within = omega (arith, pushed, more, same);
      fits = λ o x f. c.in-Some.ensures.fits o x (inv.fits o x f);
      sends = λ o x f e. c.push_reserved.ensures.items
          ∙ (λ i. inv.sends o x f e i ++ c.in-Some.ensures.messages o x (inv.fits o x f) i ∷ [])
          ∙ sym (sends-more next o c.loop-turn.core c.out.new.self both.0 moves keeps.me);
      going = λ o x rounds h f going. goes-more next o x c.loop-turn.core c.out.new.self rounds h (inv.fits o x f) both.1 moves;
    }
