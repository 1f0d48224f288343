-- How the servers of a world of five have ended an auction.
use Rattle.std.specs.Prelude.{◌≡◌, ◌≤◌, ◌+◌, ◌-◌, ℕ, List, Some, true}
use Rattle.beet_delivery.specs.Networks.{Delivered, undelivered}
use Rattle.beet_plan.specs.FivePlan.{FiveAuction, five_batch, five_plan}
use Rattle.beet_five_server.specs.Cores.{Work, has_ended}
use Rattle.beet_five_server.specs.Network.{five}
use Rattle.beet_five_world.specs.Members.{IsAt, Seen}
use Rattle.beet_gates.specs.Plans.{plan_finish}
use Rattle.beet_plan.specs.declared.Finish.{Finish}
use Rattle.beet_weights.specs.Quadratics.{IsServer}

-- a server has ended after so many rounds, and its script names this finish after the numbers that it has opened
pub record HasFinished (rounds : ℕ) (finish : Finish) (w : Work FiveAuction) : Type 0 where
  pub ended : has_ended five_batch w ≡ true
  pub finish_named : plan_finish (five_plan w.script) w.opened ≡ Some finish
  pub passed : w.round ≡ rounds

-- the servers of a world with these messages delivered: each that has ended has finished so, no two are more than one
-- round apart, and all five have finished if nothing is undelivered
pub record WorldEnds (rounds : ℕ) (finish : Finish) (x : Delivered ℕ) (ms : List (Seen FiveAuction)) : Type 0 where
  pub once_ended : (s : ℕ) (m : Seen FiveAuction) → IsServer s → IsAt ms (s - 1) m →
      has_ended five_batch m.core.work ≡ true → HasFinished rounds finish m.core.work
  pub near : (s other : ℕ) (m n : Seen FiveAuction) → IsServer s → IsServer other → IsAt ms (s - 1) m →
      IsAt ms (other - 1) n → m.core.work.round ≤ n.core.work.round + 1
  pub all_ended : undelivered five rounds x ≡ 0 → (s : ℕ) (m : Seen FiveAuction) → IsServer s → IsAt ms (s - 1) m →
      HasFinished rounds finish m.core.work
