-- One batch of the walk through both worlds.
use Rattle.std.proofs.Common.{◌≡◌, ◌≤◌, ◌<◌, ◌+◌, ◌*◌, ◌^◌, ℕ, zero, suc, true, false, inl, inr, List, length, slice_index, sym, ap, subst}
use Rattle.std.proofs.Common.{◌∙◌, arith, refl, ⊎_elim, []}
use Rattle.std.proofs.lemmas.Bool.{cases_Bool, cases_lt}
use Rattle.beet_gates.specs.Clear.{is_end, with_lets}
use Rattle.beet_gates.specs.Draws.{draws_in, secret_of}
use Rattle.beet_gates.specs.Scripts.{Standing, LawFrom, deals_in, start_among}
use Rattle.beet_gates.specs.declared.Act.{Act}
use Rattle.beet_gates.specs.declared.Act.TheVariants.{Deal, Mul, Reveal, End}
use Rattle.beet_gates.specs.declared.Batch.{Batch}
use Rattle.beet_gates.proofs.ClearAt.{ends-once}
use Rattle.beet_linear_sharing.specs.Runs.{HasRounds, Setup, batch_among, coming, deals_among, rounds_among, shared_at, standing_at}
use Rattle.beet_linear_sharing.specs.Schemes.{five_servers}
use Rattle.beet_linear_sharing.specs.Sharings.{IsAmong}
use Rattle.beet_linear_sharing.proofs.Arithmetic.{five-laws}
use Rattle.beet_linear_sharing.proofs.AtOne.{same-rounds}
use Rattle.beet_linear_sharing.proofs.Ends.{lawful-rounds}
use Rattle.beet_coalition.specs.Coalitions as coalition
use Rattle.beet_coalition.specs.Coalitions.{Coalition, GateMapped, moved_of}
use Rattle.beet_coalition.specs.Lists.{at_server}
use Rattle.beet_coalition.specs.Premise.{Secrets, begin_in}
use Rattle.beet_coalition.specs.Watchers.{two_watch}
use Rattle.beet_coalition.proofs.Alike.{Alike}
use Rattle.beet_coalition.proofs.Arithmetic.{two-of-five}
use Rattle.beet_coalition.proofs.Enough.{has-numbers}
use Rattle.beet_coalition.proofs.Extending.{Extends, extended, stands_alike, stays_at}
use Rattle.beet_coalition_map.specs.Begins.{AreHeld, AreTwoWorlds, Begins}
use Rattle.beet_coalition_map.specs.Steps.{HasEnough, MovesBatch, NumbersMapped, SameLengths, Stage, acted, lets_added}
use Rattle.beet_coalition_map.specs.Steps.{secret_in, stage_of, start_on}
use Rattle.beet_coalition_map.proofs.Acting.{batch-done, begins-there}
use Rattle.beet_coalition_map.proofs.Fives.{of-server}

few-deals : (a : Act) → deals_in a ≤ 1
few-deals Deal = omega arith
few-deals (Mul pairs) = omega arith
few-deals (Reveal shown) = omega arith
few-deals End = omega arith

-- a run whose first batches are not the end, and which has so many rounds, goes on beyond them
goes-on : (o : Setup) (t rounds : ℕ) → ((k : ℕ) → k < t → is_end (coming five_servers o k).act ≡ false) →
    HasRounds five_servers o rounds → t ≤ rounds
goes-on o t rounds goes h = ⊎_elim
    (λ (early : rounds < t). let here = goes rounds early in let there = h.ends in cc (here, there))
    (λ (late : t ≤ rounds). late)
    (cases_lt rounds t)

goes-more : (o : Setup) (t : ℕ) → ((k : ℕ) → k < t → is_end (coming five_servers o k).act ≡ false) →
    is_end (coming five_servers o t).act ≡ false → (k : ℕ) → k < t + 1 → is_end (coming five_servers o k).act ≡ false
goes-more o t goes here k lt = ⊎_elim
    (λ (early : k < t). goes k early)
    (λ (late : t ≤ k). let is : t ≡ k = omega arith in subst (λ n. is_end (coming five_servers o n).act ≡ false) is here)
    (cases_lt k t)

has-enough : (a : Act) (numbers : List (List ℕ)) (s : Stage) → s.dealt < 2 ^ 32 →
    ((j : ℕ) → IsAmong five_servers.servers j → 2 * (s.hidden + draws_in a) ≤ length (at_server numbers j)) → HasEnough a numbers s
has-enough a numbers s few fit = record {
  few = few;
  one = fit 1 (inl refl);
  two = fit 2 (inr (inl refl));
  three = fit 3 (inr (inr (inl refl)));
  four = fit 4 (inr (inr (inr (inl refl))));
  five = fit 5 (inr (inr (inr (inr (inl refl)))));
}

module _ (a b : ℕ) (next : ℕ → List ℕ → Batch) (first second : Begins) (numbers : List (List ℕ)) where
  abbrev c : Coalition
  c = two_watch a b

  abbrev o : Secrets → Setup
  o w = begin_in next w (at_server numbers)

  abbrev o' : Secrets → List (List ℕ) → Setup
  o' w' e = begin_in next w' (at_server e)

  -- where the run of the first world stands after t batches
  pub record First (w : Secrets) (here : Stage) (t : ℕ) : Type 0 where
    pub run : here ≡ stage_of (shared_at five_servers (begin_in next w (at_server numbers)) t)
    pub goes : (k : ℕ) → k < t → is_end (coming five_servers (begin_in next w (at_server numbers)) k).act ≡ false

  -- and that of the second, if servers a and b cannot tell them apart
  pub record Second (w w' : Secrets) (there : Stage) (numbers' : List (List ℕ)) (t : ℕ) : Type 0 where
    pub run : there ≡ stage_of (shared_at five_servers (begin_in next w' (at_server numbers')) t)
    pub mapped : GateMapped five_servers (two_watch a b) t (begin_in next w (at_server numbers)) (begin_in next w' (at_server numbers'))

  -- where the walk stands after t batches
  pub record Walked (here there : Stage) (numbers' : List (List ℕ)) (t : ℕ) : Type 0 where
    pub first-stands : (w : Secrets) → AreHeld w first → First w here t
    pub dealt : here.dealt ≤ t
    pub hidden' : there.hidden ≡ here.hidden
    pub dealt' : there.dealt ≡ here.dealt
    pub lengths : SameLengths numbers numbers'
    pub second-stands : (rounds : ℕ) (w w' : Secrets) → AreTwoWorlds a b next rounds w w' first second → Second w w' there numbers' t

  pub begins : Walked (start_on first.inputs) (start_on second.inputs) numbers 0
  begins = record {
    first-stands = λ w held. record { run = begins-there first.inputs w.inputs held.inputs; goes = λ k lt. absurd (omega (arith, lt)) };
    dealt = omega arith;
    hidden' = refl;
    dealt' = refl;
    lengths = λ j at. refl;
    second-stands = λ rounds w w' two. record {
      run = begins-there second.inputs w'.inputs two.held'.inputs;
      mapped = record {
        own = λ j at mine. refl;
        lengths = λ j at. refl;
        moves = λ j at other u k n early below small. absurd (omega (arith, early));
        rest = λ j at other n high. refl;
      };
    };
  }

  -- a world that begins so
  abbrev plain : Secrets
  plain = record { values = []; inputs = at_server first.inputs; masks = at_server first.masks }

  is-plain : AreHeld (record { values = []; inputs = at_server first.inputs; masks = at_server first.masks }) first
  is-plain = record { inputs = λ j at. refl; masks = λ j at. refl }

  module _ (some : 1 ≤ a) (less : a < b) (last : b ≤ 5) (here there : Stage) (numbers' : List (List ℕ)) (t : ℕ)
      (walk : Walked here there numbers' t) (batch : Batch)
      (is : batch ≡ next t here.opened) where
    module _ (w : Secrets) (held : AreHeld w first) where
      stands : First w here t
      stands = walk.first-stands w held

      batch_is : batch ≡ coming five_servers (o w) t
      batch_is = is ∙ (λ i. next t (stands.run i).opened)

    -- the end of the first run is the end of the walk
    pub at-end : is_end batch.act ≡ true → NumbersMapped a b next first second numbers numbers'
    at-end end rounds w w' two =
        let now : HasRounds five_servers (o w) t = record {
          ends = ap (λ (x : Batch). is_end x.act) (sym (batch_is w two.held)) ∙ end;
          goes = (stands w two.held).goes;
        } in
        let once : t ≡ rounds = ends-once next (deals_among five_servers w.masks) w.values t rounds
        ((same-rounds five_servers five-laws (o w) w.values two.may.shared t).0 now) two.ends in
        subst (λ r. GateMapped five_servers c r (o w) (o' w' numbers')) once (walk.second-stands rounds w w' two).mapped

    module _ (goes : is_end batch.act ≡ false) where
      still : (w : Secrets) → AreHeld w first → (k : ℕ) → k < t + 1 → is_end (coming five_servers (o w) k).act ≡ false
      still w held = goes-more (o w) t (stands w held).goes (ap (λ (x : Batch). is_end x.act) (sym (batch_is w held)) ∙ goes)

      -- there are numbers for the batch
      module _ (bounds : Standing) (most inputs : ℕ) (law : LawFrom next bounds most (start_among 5 inputs) [])
          (enough : (j : ℕ) → IsAmong five_servers.servers j → 2 * bounds.coefficients ≤ length (at_server numbers j)) where
        fits-at : (j : ℕ) → IsAmong five_servers.servers j → 2 * (here.hidden + draws_in batch.act) ≤ length (at_server numbers j)
        fits-at j at =
            let run = lawful-rounds five_servers (o plain) bounds 5 inputs most law in
            let r : ℕ = rounds_among five_servers (o plain) most in
            let more : t + 1 ≤ r = goes-on (o plain) (t + 1) r (still plain is-plain) run.0 in
            subst (λ n. n ≤ length (at_server numbers j))
            (λ i. 2 * ((sym (stands plain is-plain).run i).hidden + draws_in (sym (batch_is plain is-plain) i).act))
            (has-numbers five_servers (o plain) bounds 5 inputs most r law run.0 enough t j at (omega (arith, more)))

        module _ (small : t < 2 ^ 32) where
          few : here.dealt < 2 ^ 32
          few = let d = walk.dealt in omega (arith, d, small)

          pub fits : HasEnough batch.act numbers (lets_added batch here)
          fits = has-enough batch.act numbers (lets_added batch here) few fits-at

          pub fits' : HasEnough batch.act numbers' (lets_added batch here)
          fits' = has-enough batch.act numbers' (lets_added batch here) few (λ j at.
              subst (λ n. 2 * (here.hidden + draws_in batch.act) ≤ n) (sym (walk.lengths j at)) (fits-at j at))

          -- moved lists are as long
          pub fits-moved : (e : List (List ℕ)) → MovesBatch c batch.act first.masks (lets_added batch here) second.masks
              (lets_added batch there) numbers' e → HasEnough batch.act e (lets_added batch there)
          fits-moved e moves =
              let less : there.dealt < 2 ^ 32 = let d = walk.dealt' in let f = few in omega (arith, d, f) in
              has-enough batch.act e (lets_added batch there) less (λ j at.
              let longs : length (at_server e j) ≡ length (at_server numbers' j) = elim (cases_Bool (c.watches j)) [
                | inl mine ↦ ap length ((moves j at).own mine)
                | inr away ↦ ((moves j at).other away).same_length
              ] in
              let same = walk.hidden' in
              let before = walk.lengths j at in
              omega (arith, longs, same, before, fits-at j at))

      next-run : (w : Secrets) → AreHeld w first →
          acted first.masks numbers batch.act (lets_added batch here) ≡ stage_of (shared_at five_servers (o w) (t + 1))
      next-run w held =
          let s : t + 1 ≡ suc t = omega arith in
          subst (λ n. acted first.masks numbers batch.act (lets_added batch here) ≡ stage_of (shared_at five_servers (o w) n)) (sym s)
          ((λ i. acted first.masks numbers (batch_is w held i).act (lets_added (batch_is w held i) ((stands w held).run i)))
          ∙ batch-done next w first held numbers (coming five_servers (o w) t) (shared_at five_servers (o w) t))

      module _ (e : List (List ℕ))
          (moves : MovesBatch c batch.act first.masks (lets_added batch here) second.masks (lets_added batch there) numbers' e) where
        -- what holds of the list of a server, moved or not
        by-watch : (P : List ℕ → Type 0) (j : ℕ) → IsAmong five_servers.servers j → P (at_server numbers' j) →
            (c.watches j ≡ false → P (at_server e j)) → P (at_server e j)
        by-watch P j at own other = elim (cases_Bool (c.watches j)) [
          | inl mine ↦ subst P (sym ((moves j at).own mine)) own
          | inr away ↦ other away
        ]

        same-lengths : (j : ℕ) → IsAmong five_servers.servers j → length (at_server e j) ≡ length (at_server numbers' j)
        same-lengths j at =
            by-watch (λ l. length l ≡ length (at_server numbers' j)) j at refl (λ away. ((moves j at).other away).same_length)

        -- the worlds look alike
        module _ (rounds : ℕ) (w w' : Secrets) (two : AreTwoWorlds a b next rounds w w' first second) where
          so-far : Second w w' there numbers' t
          so-far = walk.second-stands rounds w w' two

          at-first : First w here t
          at-first = stands w two.held

          coming-is : batch ≡ coming five_servers (o w) t
          coming-is = batch_is w two.held

          within : t < rounds
          within =
              let run = (same-rounds five_servers five-laws (o w) w.values two.may.shared rounds).1 two.ends in
              let more : t + 1 ≤ rounds = goes-on (o w) (t + 1) rounds (still w two.held) run in
              omega (arith, more)

          alike : Alike five_servers c (shared_at five_servers (o w) t) (shared_at five_servers (o' w' numbers') t)
          alike =
              stands_alike five_servers c five-laws (two-of-five a b some less last) next rounds w w' two.may (at_server numbers)
              (at_server numbers') t within so-far.mapped t (omega arith)

          coming-is' : batch ≡ coming five_servers (o' w' numbers') t
          coming-is' = coming-is ∙ (λ i. next t (sym alike.opened i))

          -- the points of a server, once the lets are there
          points : (j : ℕ) → IsAmong five_servers.servers j → at_server (lets_added batch here).wires j
              ≡ (standing_at five_servers (o w) t).wires j
          points j at =
              (λ i. at_server (lets_added (coming-is i) (at-first.run i)).wires j)
              ∙ of-server (λ i. with_lets ((shared_at five_servers (o w) t).wires i) (coming five_servers (o w) t).lets.items) [] j at

          points' : (j : ℕ) → IsAmong five_servers.servers j → at_server (lets_added batch there).wires j
              ≡ (standing_at five_servers (o' w' numbers') t).wires j
          points' j at =
              (λ i. at_server (lets_added (coming-is' i) (so-far.run i)).wires j)
              ∙ of-server (λ i. with_lets ((shared_at five_servers (o' w' numbers') t).wires i)
              (coming five_servers (o' w' numbers') t).lets.items) [] j at

          secrets : (j k : ℕ) → IsAmong five_servers.servers j → secret_in first.masks (lets_added batch here) batch.act j k
              ≡ coalition.secret_at five_servers (o w) t j k
          secrets j k at = λ i.
              secret_of (coming-is i).act (points j at i) (slice_index (sym (two.held.masks j at) i) (at-first.run i).dealt) k

          secrets' : (j k : ℕ) → IsAmong five_servers.servers j → secret_in second.masks (lets_added batch there) batch.act j k
              ≡ coalition.secret_at five_servers (o' w' numbers') t j k
          secrets' j k at = λ i.
              secret_of (coming-is' i).act (points' j at i) (slice_index (sym (two.held'.masks j at) i) (so-far.run i).dealt) k

          -- a number that is moved, at its place in the list
          moved-at : (j k m : ℕ) → IsAmong five_servers.servers j → c.watches j ≡ false →
              slice_index (at_server e j) (2 * (here.hidden + k) + m)
              ≡ moved_of c m (slice_index (at_server numbers' j) (2 * (here.hidden + k) + m))
              (secret_in first.masks (lets_added batch here) batch.act j k)
              (secret_in second.masks (lets_added batch there) batch.act j k) →
              slice_index (at_server e j) (2 * ((shared_at five_servers (o w) t).hidden + k) + m)
              ≡ moved_of c m (coalition.number_at five_servers (o w) t j k m) (coalition.secret_at five_servers (o w) t j k)
              (coalition.secret_at five_servers (o' w' numbers') t j k)
          moved-at j k m at other is-moved =
              let stays : slice_index (at_server numbers' j) (2 * ((shared_at five_servers (o w) t).hidden + k) + m)
              ≡ coalition.number_at five_servers (o w) t j k m =
              so-far.mapped.rest j at other (2 * ((shared_at five_servers (o w) t).hidden + k) + m) (omega arith) in
              (λ i. slice_index (at_server e j) (2 * ((sym at-first.run i).hidden + k) + m)) ∙ is-moved
              ∙ (λ i. moved_of c m (slice_index (at_server numbers' j) (2 * ((at-first.run i).hidden + k) + m)) (secrets j k at i)
              (secrets' j k at i))
              ∙ (λ i. moved_of c m (stays i) (coalition.secret_at five_servers (o w) t j k)
              (coalition.secret_at five_servers (o' w' numbers') t j k))

          both-moved : (j k m : ℕ) → IsAmong five_servers.servers j → c.watches j ≡ false → k < draws_in batch.act → m < 2 →
              slice_index (at_server e j) (2 * (here.hidden + k) + m)
              ≡ moved_of c m (slice_index (at_server numbers' j) (2 * (here.hidden + k) + m))
              (secret_in first.masks (lets_added batch here) batch.act j k)
              (secret_in second.masks (lets_added batch there) batch.act j k)
          both-moved j k zero at other below small =
              let place : 2 * (here.hidden + k) ≡ 2 * (here.hidden + k) + 0 = omega arith in
              subst (λ n. slice_index (at_server e j) n ≡ moved_of c 0 (slice_index (at_server numbers' j) n)
              (secret_in first.masks (lets_added batch here) batch.act j k)
              (secret_in second.masks (lets_added batch there) batch.act j k)) place (((moves j at).other other).rho k below)
          both-moved j k (suc zero) at other below small = ((moves j at).other other).sigma k below
          both-moved j k (suc (suc m)) at other below small = absurd (omega (arith, small))

          extends : Extends five_servers c (o w) (o' w' numbers') t (at_server e)
          extends = record {
            own = λ j at mine. (moves j at).own mine;
            lengths = same-lengths;
            moves = λ j at other k m below small.
                moved-at j k m at other
                (both-moved j k m at other (subst (λ (x : Batch). k < draws_in x.act) (sym coming-is) below) small);
            below = λ j n at low. by-watch (λ l. slice_index l n ≡ slice_index (at_server numbers' j) n) j at refl
                (λ away. ((moves j at).other away).below n (subst (λ (s : Stage). n < 2 * s.hidden) (sym at-first.run) low));
            beyond = λ j n at high. by-watch (λ l. slice_index l n ≡ slice_index (at_server numbers' j) n) j at refl
                (λ away. ((moves j at).other away).beyond n
                (subst (λ m. m ≤ n) (λ i. 2 * ((sym at-first.run i).hidden + draws_in (sym coming-is i).act)) high));
          }

          next-mapped : GateMapped five_servers c (t + 1) (o w) (o' w' e)
          next-mapped =
              let s : t + 1 ≡ suc t = omega arith in
              subst (λ n. GateMapped five_servers c n (o w) (o' w' e)) (sym s)
              (extended five_servers c five-laws (two-of-five a b some less last) next rounds w w' two.may (at_server numbers)
              (at_server numbers') t within so-far.mapped (at_server e) extends)

          next-run' : acted second.masks e batch.act (lets_added batch there) ≡ stage_of (shared_at five_servers (o' w' e) (t + 1))
          next-run' =
              let s : t + 1 ≡ suc t = omega arith in
              let same = stays_at five_servers c five-laws (two-of-five a b some less last) next rounds w w' two.may
              (at_server numbers) (at_server numbers') t within so-far.mapped (at_server e) extends t (omega arith) in
              subst (λ n. acted second.masks e batch.act (lets_added batch there) ≡ stage_of (shared_at five_servers (o' w' e) n)) (sym s)
              ((λ i. acted second.masks e (coming-is' i).act (lets_added (coming-is' i) (so-far.run i)))
              ∙ batch-done next w' second two.held' e (coming five_servers (o' w' numbers') t) (shared_at five_servers (o' w' numbers') t)
              ∙ (λ i. stage_of (batch_among five_servers (o' w' e) (next t (sym same i).opened) (sym same i))))

        pub walked : Walked (acted first.masks numbers batch.act (lets_added batch here))
            (acted second.masks e batch.act (lets_added batch there)) e (t + 1)
        walked = record {
          first-stands = λ w held. record { run = next-run w held; goes = still w held };
          dealt =
              let f = few-deals batch.act in
              let d = walk.dealt in
              let both : here.dealt + deals_in batch.act ≤ t + 1 = omega (arith, f, d) in both;
          hidden' = ap (λ n. n + draws_in batch.act) walk.hidden';
          dealt' = ap (λ n. n + deals_in batch.act) walk.dealt';
          lengths = λ j at. same-lengths j at ∙ walk.lengths j at;
          second-stands = λ rounds w w' two. record { run = next-run' rounds w w' two; mapped = next-mapped rounds w w' two };
        }

  -- a walk through as many batches as the script may have is at the end of the first run
  pub at-last : (here there : Stage) (numbers' : List (List ℕ)) (most inputs : ℕ) (bounds : Standing) →
      LawFrom next bounds most (start_among 5 inputs) [] → Walked here there numbers' most →
      NumbersMapped a b next first second numbers numbers'
  at-last here there numbers' most inputs bounds law walk rounds w w' two =
      let run = lawful-rounds five_servers (o w) bounds 5 inputs most law in
      let r : ℕ = rounds_among five_servers (o w) most in
      let past : most ≤ r = goes-on (o w) most r (walk.first-stands w two.held).goes run.0 in
      let is : r ≡ most = omega (arith, past, run.1) in
      let once : r ≡ rounds = ends-once next (deals_among five_servers w.masks) w.values r rounds
      ((same-rounds five_servers five-laws (o w) w.values two.may.shared r).0 run.0) two.ends in
      subst (λ n. GateMapped five_servers c n (o w) (o' w' numbers')) (sym is ∙ once) (walk.second-stands rounds w w' two).mapped
