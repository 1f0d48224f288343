-- Events in several lots.
use Rattle.std.proofs.Common.{◌≡◌, ◌≢◌, ◌<◌, ◌==◌, ℕ, Bool, true, false, List, [], ◌∷◌, length, Some, refl, sym, ap, ◌∙◌, subst, arith}
use Rattle.std.proofs.Common.{slice_get, slice_set}
use Rattle.std.proofs.lemmas.Grind.{common_steps}
use Rattle.std.proofs.lemmas.List.{get_or-set_other, get_or-set_same, length-set}
use Rattle.std.proofs.lemmas.Option.{get_or_from_slice_get, same_Some, slice_get-get_or, slice_get_within}
use Rattle.beet_gates.specs.declared.Batch.{Batch}
use Rattle.beet_field.specs.declared.trio.Trio.{Trio}
use Rattle.beet_server.specs.Cores.{Core, setup_of}
use Rattle.beet_sharing.specs.Runs.{rounds_among}
use Rattle.beet_delivery.specs.Events.{Delivered, after_from, deliver}
use Rattle.beet_world.specs.Worlds.{World, delivered_in, rounds_in}
use Rattle.beet_world.specs.declared.world.Event.{Event}
use Rattle.beet_lots.specs.LotEvents.{LotTriple, after_in, deliver_in, of_lot}
use Rattle.beet_lots.specs.LotWorlds.{HappensIn, PlaysIn}

-- what is delivered in a lot is what its events alone deliver
pub alone : (rounds : ℕ → ℕ) (x : ℕ → Delivered) (es : List LotTriple) (lot : ℕ) →
    after_in rounds x es lot ≡ after_from (rounds lot) (x lot) (of_lot lot es)
alone rounds x [] lot = refl
alone rounds x (e ∷ es) lot = alone rounds (deliver_in rounds x e) es lot ∙ go (lot == e.lot) refl where
  go : (b : Bool) → (lot == e.lot) ≡ b →
      after_from (rounds lot) (deliver_in rounds x e lot) (of_lot lot es) ≡ after_from (rounds lot) (x lot) (of_lot lot (e ∷ es))
  go true is = rw is refl
  go false is = rw is refl

same-number : (n m : ℕ) → (n == m) ≡ true → n ≡ m
same-number n m h = grind (arith, common_steps)

other-number : (n m : ℕ) → (n == m) ≡ false → n ≢ m
other-number n m h e = absurd (grind (arith, common_steps))

other-lot : {X : Type 0} (xs : List X) (i j : ℕ) (x y : X) → j ≢ i → slice_get (slice_set xs i x) j ≡ Some y → slice_get xs j ≡ Some y
other-lot xs i j x y apart e =
    let lt = slice_get_within (slice_set xs i x) j y e in
    let long = length-set xs i x in
    slice_get-get_or xs j y (omega (arith, lt, long))
    ∙ ap Some (sym (get_or-set_other xs i j x y apart) ∙ get_or_from_slice_get (slice_set xs i x) j y y e)

same-lot : {X : Type 0} (xs : List X) (i : ℕ) (x y : X) → i < length xs → slice_get (slice_set xs i x) i ≡ Some y → x ≡ y
same-lot xs i x y lt e = sym (get_or-set_same xs i x y lt) ∙ get_or_from_slice_get (slice_set xs i x) i y y e

module _ {S : Type 0} (next : S → ℕ → List ℕ → Batch) (inputs most : S → ℕ) where
  -- lots in the midst of a list of events: what is left of the events of a lot leads where all of them lead from its begin
  pub record PlaysOn (old here : List (World S)) (rest all : List LotTriple) : Type 0 where
    pub many : length here ≡ length old
    pub each : (lot : ℕ) (before now : World S) → slice_get old lot ≡ Some before → slice_get here lot ≡ Some now →
        (now.start ≡ before.start) × (after_from (rounds_in next inputs most before) (delivered_in now) (of_lot lot rest)
        ≡ after_from (rounds_in next inputs most before) (delivered_in before) (of_lot lot all))

  pub same-rounds : (w v : World S) → v.start ≡ w.start → rounds_in next inputs most v ≡ rounds_in next inputs most w
  same-rounds w v e = ap (λ (t : Trio (Core S)). rounds_among (setup_of next inputs t) (most t.one.script)) e

  -- nothing is played yet
  pub plays-none : (lots : List (World S)) (all : List LotTriple) → PlaysOn lots lots all all
  plays-none lots all = record { many = refl; each = λ lot before now is here. go lot before now (same_Some before now (sym is ∙ here)) }
    where
      go : (lot : ℕ) (before now : World S) → before ≡ now →
          (now.start ≡ before.start) × (after_from (rounds_in next inputs most before) (delivered_in now) (of_lot lot all)
          ≡ after_from (rounds_in next inputs most before) (delivered_in before) (of_lot lot all))
      go lot before now e = (
        ap (λ (w : World S). w.start) (sym e),
        ap (λ (w : World S). after_from (rounds_in next inputs most before) (delivered_in w) (of_lot lot all)) (sym e),
      )

  module _ (lots here now : List (World S)) (e : LotTriple) (rest all : List LotTriple) (event : Event)
      (p : PlaysOn lots here (e ∷ rest) all) (h : HappensIn next inputs most here now e.lot e.triple event) where
    abbrev Goes : ℕ → World S → World S → Type 0
    Goes lot before after =
        (after.start ≡ before.start) × (after_from (rounds_in next inputs most before) (delivered_in after) (of_lot lot rest)
        ≡ after_from (rounds_in next inputs most before) (delivered_in before) (of_lot lot all))

    -- the lot of the event
    in-lot : (lot : ℕ) → (lot == e.lot) ≡ true → (before : World S) → slice_get lots lot ≡ Some before → Goes lot before h.changed
    in-lot lot is before at =
        let was = p.each lot before h.before at (subst (λ n. slice_get here n ≡ Some h.before) (sym (same-number lot e.lot is)) h.is) in
        let rounds = same-rounds before h.before was.0 in
        let delivered : delivered_in h.changed ≡ deliver (rounds_in next inputs most before) (delivered_in h.before) e.triple =
        h.happens.delivered ∙ ap (λ r. deliver r (delivered_in h.before) e.triple) rounds in (
          h.happens.start ∙ was.0,
          ap (λ x. after_from (rounds_in next inputs most before) x (of_lot lot rest)) delivered ∙ rw is at was.1,
        )

    -- another
    beside : (lot : ℕ) → (lot == e.lot) ≡ false → (before after : World S) → slice_get lots lot ≡ Some before →
        slice_get here lot ≡ Some after → Goes lot before after
    beside lot is before after at held = let was = p.each lot before after at held in (was.0, rw is at was.1)

    -- one event more is played
    pub plays-more : PlaysOn lots now rest all
    plays-more = record {
      many = ap length h.alone ∙ length-set here e.lot h.changed ∙ p.many;
      each = λ lot before after at held. go lot before after at held (lot == e.lot) refl;
    } where
      go : (lot : ℕ) (before after : World S) → slice_get lots lot ≡ Some before → slice_get now lot ≡ Some after → (b : Bool) →
          (lot == e.lot) ≡ b →
          Goes lot before after
      go lot before after at held true is =
          let placed = subst (λ (ws : List (World S)). slice_get ws lot ≡ Some after) h.alone held in
          let same : h.changed ≡ after =
          same-lot here e.lot h.changed after (slice_get_within here e.lot h.before h.is)
          (subst (λ n. slice_get (slice_set here e.lot h.changed) n ≡ Some after) (same-number lot e.lot is) placed) in
          subst (Goes lot before) same (in-lot lot is before at)
      go lot before after at held false is =
          beside lot is before after at
          (other-lot here e.lot lot h.changed after (other-number lot e.lot is)
          (subst (λ (ws : List (World S)). slice_get ws lot ≡ Some after) h.alone held))

  -- all are played
  pub plays-all : (lots now : List (World S)) (all : List LotTriple) → PlaysOn lots now [] all → PlaysIn next inputs most lots now all
  plays-all lots now all p = record {
    many = p.many;
    each = λ lot before after at held. let was = p.each lot before after at held in record { delivered = was.1; start = was.0 };
  }
