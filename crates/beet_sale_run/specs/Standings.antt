-- How a server stands in a `World` that runs a sale, after any events.
use Rattle.std.specs.Prelude.{◌≡◌, ◌↔◌, ℕ, List, Bool, Some, true, false}
use Rattle.beet_field.specs.declared.point.Point.{Point}
use Rattle.beet_gates.specs.Plans.{plan_finish}
use Rattle.beet_gates.specs.declared.Gates.{Gates}
use Rattle.beet_words.specs.Bundles.{Words}
use Rattle.beet_masking.specs.Masks.{is_spent, mask_at}
use Rattle.beet_sharing.specs.Runs.{Setup}
use Rattle.beet_delivery.specs.Events.{Triple, after, passed, undelivered}
use Rattle.beet_server.specs.Cores.{Core, has_ended}
use Rattle.beet_world.specs.Worlds.{IsCoreOf, World, delivered_in, setup_in as setup_in_world}
use Rattle.beet_mapped.specs.Trades.{rounds_in, setup_in}
use Rattle.beet_sale_plan.specs.Outcome.{IsSale}
use Rattle.beet_sale_plan.specs.Sale.{Sale, bidders_of, comparisons, most_rounds, sale_batch, sale_plan}
use Rattle.beet_sale_plan.specs.declared.SaleEnd.TheVariants.{Sold, MasksSpent}
use Rattle.beet_sale_file.specs.declared.rows.SaleBid.{SaleBid}
use Rattle.beet_sale_map.specs.Bids.{bids_of, sale_over}
use Rattle.beet_sale_map.specs.Worlds.{trade_of}
use Rattle.beet_sale_run.specs.SaleRuns.{bids_rounds}

-- whether the masks are spent: among as many as the sale of these bids has selections, and the spare ones, more are
-- rejected than there are spare
abbrev pub are_spent : Gates → List SaleBid → Words → Bool
are_spent gates bids words = is_spent (mask_at words.masks) (comparisons (sale_over gates bids))

-- what three servers begin with in the sale of these bids with these words, and the rounds of their run, as the run
-- itself has them; from the bids and the mask words alone they are told by `bids_rounds`
abbrev pub setup_for : Gates → List SaleBid → Words → Setup
setup_for gates bids words = setup_in (trade_of gates bids) words

abbrev pub rounds_for : Gates → List SaleBid → Words → ℕ
rounds_for gates bids words = rounds_in (trade_of gates bids) words

-- this is the core of a server in a `World` that runs a sale, as it is lent after some list of events
abbrev pub IsSaleCore : World Sale → Point → Core Sale → Type 0
IsSaleCore w s c = IsCoreOf sale_batch bidders_of most_rounds w s c

-- the servers of a `World` began with the sale of these bids and these words
pub record Began (gates : Gates) (bids : List SaleBid) (words : Words) (w : World Sale) : Type 0 where
  pub script : w.start.one.script ≡ sale_over gates bids
  pub setup : setup_in_world sale_batch bidders_of most_rounds w ≡ setup_for gates bids words

-- and were given these events
pub record WereGiven (gates : Gates) (bids : List SaleBid) (words : Words) (es : List Triple) (w : World Sale) :
    Type 0 where
  pub began : Began gates bids words w
  pub given : delivered_in w ≡ after (rounds_for gates bids words) es

-- no message is left that was sent and not delivered
abbrev pub AllDelivered : Gates → List SaleBid → Words → List Triple → Type 0
AllDelivered gates bids words es =
    undelivered (rounds_for gates bids words) (after (rounds_for gates bids words) es) ≡ 0

-- so the core of a server stands after these events: it is in the round to which they bring it, and has ended exactly
-- if these are all rounds. Then its script names the winner and the price of the sale after the numbers that it has
-- opened, or that the masks are spent, exactly if they are
pub record StandsRight (gates : Gates) (bids : List SaleBid) (words : Words) (es : List Triple) (s : Point)
    (c : Core Sale) : Type 0 where
  pub rounds : rounds_for gates bids words ≡ bids_rounds gates bids words.masks
  pub round : c.round ≡ passed (rounds_for gates bids words) (after (rounds_for gates bids words) es) s
  pub ended : (has_ended sale_batch c ≡ true) ↔ (c.round ≡ rounds_for gates bids words)
  pub sold : has_ended sale_batch c ≡ true → are_spent gates bids words ≡ false → (winner price : ℕ) →
      IsSale (bids_of bids) winner price → plan_finish (sale_plan c.script) c.opened ≡ Some (Sold winner price)
  pub spent : has_ended sale_batch c ≡ true → are_spent gates bids words ≡ true →
      plan_finish (sale_plan c.script) c.opened ≡ Some MasksSpent
  pub all : AllDelivered gates bids words es → has_ended sale_batch c ≡ true
