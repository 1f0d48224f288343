-- The end of a run names a finish.
use Rattle.std.proofs.Common.{◌≡◌, ◌≢◌, ◌<◌, arith, ℕ, zero, suc, List, Some, Option, IsSome, sym, ◌∙◌, ap, refl, subst}
use Rattle.std.proofs.Common.{true, false, true≢false}
use Rattle.beet_field.specs.declared.point.Point.TheVariants.{One}
use Rattle.beet_field.specs.declared.trio.Trio.{Trio}
use Rattle.beet_gates.specs.Clear.{is_end}
use Rattle.beet_gates.specs.Plans.{plan_finish}
use Rattle.beet_gates.specs.declared.Act.{Act}
use Rattle.beet_gates.specs.declared.Act.TheVariants.{Deal, Mul, Reveal, End}
use Rattle.beet_gates.specs.declared.Batch.{Batch}
use Rattle.beet_bids.specs.Grids.{Grid}
use Rattle.beet_plan.specs.Auction.{Auction, auction_batch, auction_plan, most_rounds, auction_over}
use Rattle.beet_gates.specs.Ends.{ComesTo, TellsEnd}
use Rattle.beet_plan.specs.declared.Finish.{Finish}
use Rattle.beet_server.specs.Cores.{Core, setup_of}
use Rattle.beet_delivery.specs.Events.{Delivered, all_delivered}
use Rattle.beet_server.specs.Fits.{Fits}
use Rattle.beet_sharing.specs.Runs.{Setup, coming, opened_by, rounds_among, shared_at, with_batch_lets}
use Rattle.beet_server.specs.Lockstep.{HaveEnded}
use Rattle.beet_load.specs.Servers.{ServerWords}
use Rattle.beet_run.specs.Runs.{EndsAuction, HasEndedRun, HaveRunToEnd, Starts, setup_with}
use Rattle.beet_sharing.proofs.Walk.{length-opened_by}
use Rattle.beet_auction.specs.Setups.{inputs_of}

not-end : (a : Act) → is_end a ≡ false → a ≢ End
not-end a h = λ e. absurd (true≢false (ap is_end (sym e) ∙ h))

-- the numbers that a run has opened after so many rounds are some that the script may have opened
comes-to : (o : Setup) (t : ℕ) → ((k : ℕ) → k < t → is_end (coming o k).act ≡ false) → ComesTo o.next t (shared_at o t).opened
comes-to o zero goes = refl
comes-to o (suc t) goes =
    let s = shared_at o t in
    let b = o.next t s.opened in (
      s.opened,
      opened_by (with_batch_lets b s) b.act,
      comes-to o t (λ k h. goes k (omega (arith, h))),
      not-end b.act (goes t (omega arith)),
      length-opened_by (with_batch_lets b s) b.act,
      refl,
    )

is-the-end : (a : Act) → is_end a ≡ true → a ≡ End
is-the-end Deal h = absurd (true≢false (sym h))
is-the-end (Mul pairs) h = absurd (true≢false (sym h))
is-the-end (Reveal shown) h = absurd (true≢false (sym h))
is-the-end End h = refl

-- so the script names a finish after them
pub named : (core : Core Auction) (answer : Option Finish) → HasEndedRun core →
    TellsEnd (auction_batch core.script) core.opened answer → IsSome answer
named core answer h tells =
    let f = h.fits in
    let came : ComesTo (auction_batch core.script) core.round core.opened =
    subst (λ opened. ComesTo (auction_batch core.script) core.round opened) (sym f.opened)
    (subst (λ (next : ℕ → List ℕ → Batch). ComesTo next core.round (shared_at h.setup core.round).opened) f.script
    (comes-to h.setup core.round f.rounds)) in
    (tells core.round came).1 (is-the-end (auction_batch core.script core.round core.opened).act h.ended)

module _ (grid : Grid) (inputs : Trio (List ℕ)) (words : Trio ServerWords) (cores : Trio (Core Auction))
    (s : Starts grid inputs words cores)
    (ended : Trio (Core Auction)) (h : HaveEnded auction_batch inputs_of most_rounds cores ended) where
  abbrev run : Setup
  run = setup_with grid inputs words

  -- they have run to the end
  pub have-run : HaveRunToEnd grid inputs words ended
  have-run = record { start = cores; starts = s; ended = h }

  -- the first server has ended
  pub has-ended-run : HasEndedRun ended.one
  has-ended-run = record { setup = setup_of auction_batch inputs_of cores; delivered = _; fits = (h.ended One).fits; ended = h.at_end One }

  abbrev rounds : ℕ
  rounds = rounds_among run (most_rounds (auction_over grid))

  at-rounds : ended.one.round ≡ rounds
  at-rounds = (h.ended One).round ∙ ap (λ o. rounds_among o (most_rounds cores.one.script)) s.setup
      ∙ ap (λ a. rounds_among run (most_rounds a)) (s.script One)

  abbrev all : Delivered
  all = all_delivered (rounds_among (setup_of auction_batch inputs_of cores) (most_rounds cores.one.script))

  fits-run : Fits auction_batch run all ended.one
  fits-run = subst (λ o. Fits auction_batch o all ended.one) s.setup (h.ended One).fits

  ends-here : is_end (coming run ended.one.round).act ≡ true
  ends-here =
      ap (λ (next : ℕ → List ℕ → Batch). is_end (next ended.one.round (shared_at run ended.one.round).opened).act) fits-run.script
      ∙ ap (λ opened. is_end (auction_batch ended.one.script ended.one.round opened).act) (sym fits-run.opened)
      ∙ h.at_end One

  -- and the run has ended with the finish that is named after its opened numbers
  pub ends-auction : (finish : Finish) (count : ℕ) → plan_finish (auction_plan ended.one.script) ended.one.opened ≡ Some finish →
      count ≡ ended.one.round → EndsAuction grid inputs words finish count
  ends-auction finish count f r = record {
    ends = record {
      has_rounds = record {
        ends = subst (λ t. is_end (coming run t).act ≡ true) (sym r) ends-here;
        goes = λ t lt. fits-run.rounds t (subst (λ n. t < n) r lt);
      };
      counted = sym (r ∙ at-rounds);
      finish_named =
          ap (λ a. plan_finish (auction_plan a) (shared_at run count).opened) (sym (h.script One ∙ s.script One))
          ∙ ap (λ t. plan_finish (auction_plan ended.one.script) (shared_at run t).opened) r
          ∙ ap (plan_finish (auction_plan ended.one.script)) (sym fits-run.opened)
          ∙ f;
    };
    masks = s.are_masks;
  }
