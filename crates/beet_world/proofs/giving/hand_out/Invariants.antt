use Rattle.std.proofs.Common.{◌≡◌, ◌<◌, ◌≤◌, ◌+◌, ℕ, true, length, vec_capacity}
use Rattle.beet_server.specs.Answers.{Keeps}
use Rattle.beet_delivery.specs.Events.{Delivered}
use Rattle.beet_server.specs.Fits.{Fits, taken}
use Rattle.beet_sharing.specs.Runs.{HasRounds, Setup}
use Rattle.beet_world.specs.Worlds.{sent_by}
use Rattle.beet_world.proofs.giving.hand_out.Given as goal

abbrev pub invariant-loop-turn : goal.invariant-loop-turn
invariant-loop-turn g l =
    let next = g.S.Script.batch_of in
    record {
      end : l._turn-end ≡ g.S.Script.rounds_of l.fn.core.script + 1;
      keeps : Keeps l.fn.core l.core;
      capacity : vec_capacity l.sent ≡ vec_capacity l.fn.sent;
      counted : length l.sent.items ≡ taken l.core.round l.core.handed;
      pushed : length l.sent.items ≡ length l.fn.sent.items + l._turn;
      within : length l.sent.items ≤ g.S.Script.rounds_of l.fn.core.script;
      fits : (o : Setup) (x : Delivered) → Fits next o x l.fn.core → Fits next o x l.core;
      sends : (o : Setup) (x : Delivered) → Fits next o x l.fn.core → l.fn.sent.items ≡ sent_by o l.fn.core →
          l.sent.items ≡ sent_by o l.core;
      going : (o : Setup) (x : Delivered) (rounds : ℕ) → HasRounds o rounds → Fits next o x l.fn.core →
          (l.fn.core.handed ≡ true → l.fn.core.round < rounds)
          → l.core.handed ≡ true → l.core.round < rounds;
    }
