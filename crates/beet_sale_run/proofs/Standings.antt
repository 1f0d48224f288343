-- How a server stands in a `World` that runs a sale, after any events.
use Rattle.std.proofs.Common.{◌≡◌, ◌++◌, ℕ, List, [], true, Some, length, sym, ap, subst, ◌∙◌}
use Rattle.std.specs.Prelude.{if◌then◌else◌}
use Rattle.beet_field.specs.declared.point.Point.{Point}
use Rattle.beet_field.specs.declared.trio.Trio.{Trio}
use Rattle.beet_gates.specs.Plans.{plan_finish}
use Rattle.beet_gates.specs.declared.Gates.{Gates}
use Rattle.beet_words.specs.Bundles.{Words}
use Rattle.beet_sharing.specs.Runs.{HasRounds, Setup, rounds_among, shared_at}
use Rattle.beet_sharing.proofs.Rounds.{lawful-rounds}
use Rattle.beet_delivery.specs.Events.{Delivered, Triple, after, after_from, nothing, passed}
use Rattle.beet_delivery.proofs.NetworkFacts.{after_append}
use Rattle.beet_delivery.proofs.ThreeServers.{three-is}
use Rattle.beet_delivery.proofs.Undelivered.{passed_all}
use Rattle.beet_server.specs.Cores.{Core, has_ended, setup_of}
use Rattle.beet_server.specs.Fits.{Fits}
use Rattle.beet_server.proofs.Passing.{at_passed, ended_at}
use Rattle.beet_world.specs.Marks.{set_of, unmarked}
use Rattle.beet_world.specs.Worlds.{World, delivered_in, rounds_in as rounds_in_world}
use Rattle.beet_world.proofs.MarkFacts.{set-unmarked}
use Rattle.beet_mapped.proofs.WorldFacts.{are-masks}
use Rattle.beet_sale_plan.specs.Sale.{Sale, bidders_of, most_rounds, sale_batch, sale_plan}
use Rattle.beet_sale_plan.specs.SaleRuns.{SaleEnds}
use Rattle.beet_sale_plan.specs.declared.SaleEnd.TheVariants.{Sold, MasksSpent}
use Rattle.beet_sale_file.specs.declared.rows.SaleBid.{SaleBid}
use Rattle.beet_sale_map.specs.Bids.{AreSaleBids, bids_of, sale_over}
use Rattle.beet_highbid.specs.SalePairs.{CanSell}
use Rattle.beet_sale_run.specs.Results.{price_of, winner_of}
use Rattle.beet_sale_run.specs.SaleRuns.{bids_finish, bids_rounds}
use Rattle.beet_sale_run.specs.Standings.{Began, IsSaleCore, StandsRight, WereGiven, rounds_for, setup_for}
use Rattle.beet_sale_run.proofs.Held.{alike, bounds, ends, law}
use Rattle.beet_sale_run.proofs.ResultFacts.{told-sale}

module _ (gates : Gates) (bids : List SaleBid) (words : Words) (are : AreSaleBids bids) (sells : CanSell bids words) where
  abbrev sale : Sale
  sale = sale_over gates bids

  abbrev run : Setup
  run = setup_for gates bids words

  abbrev rounds : ℕ
  rounds = rounds_for gates bids words

  has-rounds : HasRounds run rounds
  has-rounds = (lawful-rounds run (bounds gates bids words are sells.enough) (most_rounds sale) (length (bids_of bids))
      (law gates bids words are sells.enough)).0

  how : SaleEnds sale (bids_of bids) words.masks (winner_of (bids_of bids)) (price_of (bids_of bids))
  how = ends gates bids words are sells.enough (are-masks words sells.are_words)

  counted : rounds ≡ bids_rounds gates bids words.masks
  counted = (alike gates bids words are sells.enough).0 ∙ how.rounds

  named : plan_finish (sale_plan sale) (shared_at run rounds).opened ≡ Some (bids_finish gates bids words.masks)
  named = ap (plan_finish (sale_plan sale)) (alike gates bids words are sells.enough).1 ∙ how.ends

  module _ (es : List Triple) (w : World Sale) (s : Point) (c : Core Sale) (given : WereGiven gates bids words es w)
      (core : IsSaleCore w s c) where
    abbrev delivered : Delivered
    delivered = after rounds es

    fits : Fits sale_batch run delivered c
    fits =
        subst (λ (x : Delivered). Fits sale_batch run x c) given.given
        (subst (λ (o : Setup). Fits sale_batch o (delivered_in w) c) given.began.setup core.fits)

    at : c.round ≡ passed rounds delivered s
    at = at_passed sale_batch run delivered c rounds has-rounds fits core.quiet ∙ ap (passed rounds delivered) core.name

    named-here : has_ended sale_batch c ≡ true → plan_finish (sale_plan c.script) c.opened ≡ Some (bids_finish gates bids words.masks)
    named-here over =
        let there = (ended_at sale_batch run delivered c rounds has-rounds fits).0 over in
        ap (λ (script : Sale). plan_finish (sale_plan script) c.opened) (core.script ∙ given.began.script)
        ∙ ap (plan_finish (sale_plan sale)) (fits.opened ∙ ap (λ t. (shared_at run t).opened) there) ∙ named

    pub stands-right : StandsRight gates bids words es s c
    stands-right = record {
      rounds = counted;
      round = at;
      ended = ended_at sale_batch run delivered c rounds has-rounds fits;
      sold = λ over few winner price is.
          let told = told-sale (bids_of bids) winner price is in
          named-here over ∙ (λ i. Some (if few i then MasksSpent else Sold (told.0 i) (told.1 i)));
      spent = λ over many.
          named-here over ∙ (λ i. Some (if many i then MasksSpent else Sold (winner_of (bids_of bids)) (price_of (bids_of bids))));
      all = λ none.
          (ended_at sale_batch run delivered c rounds has-rounds fits).1 (at ∙ passed_all three-is rounds delivered none s);
    }

-- the rounds of a `World` that began so
rounds-begun : (gates : Gates) (bids : List SaleBid) (words : Words) (w : World Sale) → Began gates bids words w →
    rounds_in_world sale_batch bidders_of most_rounds w ≡ rounds_for gates bids words
rounds-begun gates bids words w b = λ i. rounds_among (b.setup i) (most_rounds (b.script i))

-- one that has just begun was given no events
pub given-none : (gates : Gates) (bids : List SaleBid) (words : Words) (w : World Sale) → Began gates bids words w →
    w.marks ≡ unmarked (most_rounds w.start.one.script) → WereGiven gates bids words [] w
given-none gates bids words w b none = record {
  began = b;
  given = ap set_of none ∙ set-unmarked (most_rounds w.start.one.script);
}

-- and one that goes on is given more
pub given-more : (gates : Gates) (bids : List SaleBid) (words : Words) (es more : List Triple) (w w' : World Sale) →
    WereGiven gates bids words es w → w'.start ≡ w.start →
    delivered_in w' ≡ after_from (rounds_in_world sale_batch bidders_of most_rounds w) (delivered_in w) more →
    WereGiven gates bids words (es ++ more) w'
given-more gates bids words es more w w' g same delivered = record {
  began = record {
    script = ap (λ (start : Trio (Core Sale)). start.one.script) same ∙ g.began.script;
    setup = ap (setup_of sale_batch bidders_of) same ∙ g.began.setup;
  };
  given = delivered ∙ (λ i. after_from (rounds-begun gates bids words w g.began i) (g.given i) more)
      ∙ sym (after_append three-is (rounds_for gates bids words) es more nothing);
}
