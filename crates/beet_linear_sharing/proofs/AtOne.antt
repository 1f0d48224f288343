-- A shared run beside the run on the values of its inputs.
use Rattle.std.proofs.Common.{◌≡◌, ℕ, zero, suc, ◌+◌, List, [], ◌++◌, map, length, slice_index, refl, sym, ◌∙◌, ap, subst}
use Rattle.std.proofs.Common.{append-nil, add-zero}
use Rattle.std.specs.Int.{bit_at}
use Rattle.beet_gates.specs.Clear.{Values, with_lets, product_of, act_on, batch_on, clear_act, clear_at, is_end}
use Rattle.beet_gates.specs.Each.{each}
use Rattle.beet_gates.specs.declared.Act.{Act}
use Rattle.beet_gates.specs.declared.Act.TheVariants.{Deal, Mul, Reveal, End}
use Rattle.beet_gates.specs.declared.Batch.{Batch}
use Rattle.beet_gates.specs.Draws.{pair_at}
use Rattle.beet_gates.proofs.Lists.{map-places, map-same}
use Rattle.beet_linear_sharing.specs.Sharings.{Sharing}
use Rattle.beet_linear_sharing.specs.Runs.{Setup, Shared, act_among, batch_among, coming, deals_among, gained, hidden_at, number_drawn}
use Rattle.beet_linear_sharing.specs.Runs.{product_at, shared_at, with_batch_lets}
use Rattle.beet_linear_sharing.specs.Polynomials.{AreShared, HaveSameRounds, IsAtOne}
use Rattle.beet_linear_sharing.proofs.Laws.{SharingLaws}
use Rattle.beet_linear_sharing.proofs.Closure.{opened-shared, product-shared, shared-append, shared-each, shared-joined, shared-lets}
use Rattle.beet_linear_sharing.proofs.Closure.{shared-nil}
use Rattle.beet_gates.proofs.Acts.{bit-small, product-small}

pub record Beside (q : Sharing) (c : Values) (s : Shared) : Type 0 where
  pub shared : AreShared q c.wires s.wires
  pub opened : s.opened ≡ c.opened
  pub dealt : s.dealt ≡ c.dealt

module _ (q : Sharing) (laws : SharingLaws q) (o : Setup) where
  deals-shared : (s : Shared) → AreShared q (deals_among q o.masks s.dealt) (gained q o s Deal)
  deals-shared s =
      shared-joined q laws q.servers (λ j. each (bit_at (slice_index (o.masks j) s.dealt)) 61) (λ j i. each (hidden_at q o s Deal j i) 61)
      (λ j. shared-each q laws 61 (bit_at (slice_index (o.masks j) s.dealt)) (hidden_at q o s Deal j)
      (λ k. bit-small (slice_index (o.masks j) s.dealt) k)
      (λ k lt. record { numbers = number_drawn q o s j k; points = λ i am. refl }))

  products-shared : (values : List ℕ) (s : Shared) (pairs : List (ℕ × ℕ)) → AreShared q values s.wires →
      AreShared q (map (product_of values) pairs) (gained q o s (Mul (record { items = pairs })))
  products-shared values s pairs a =
      let act : Act = Mul (record { items = pairs }) in
      subst (λ v. AreShared q v (gained q o s act)) (sym (map-places (product_of values) (0, 0) pairs))
      (shared-each q laws (length pairs) (λ k. product_of values (pair_at pairs k)) (product_at q o s act)
      (λ k. product-small (slice_index values (pair_at pairs k).0) (slice_index values (pair_at pairs k).1))
      (λ k lt. product-shared q laws values s.wires a (pair_at pairs k) (λ j. number_drawn q o s j k)))

  still-shared : (values : List ℕ) (f : ℕ → List ℕ) → AreShared q values f → AreShared q values (λ i. f i ++ [])
  still-shared values f a =
      subst (λ v. AreShared q v (λ i. f i ++ [])) (append-nil values) (shared-append q laws values [] f (λ i. []) a (shared-nil q laws))

  acts : (a : Act) (c : Values) (s : Shared) → Beside q c s → Beside q (act_on (deals_among q o.masks) a c) (act_among q o a s)
  acts Deal c s b = record {
    shared = shared-append q laws c.wires (deals_among q o.masks c.dealt) s.wires (gained q o s Deal) b.shared
        (subst (λ n. AreShared q (deals_among q o.masks n) (gained q o s Deal)) b.dealt (deals-shared s));
    opened = append-nil s.opened ∙ b.opened;
    dealt = ap (λ n. n + 1) b.dealt;
  }
  acts (Mul pairs) c s b = record {
    shared = shared-append q laws c.wires (map (product_of c.wires) pairs.items) s.wires (gained q o s (Mul pairs)) b.shared
        (products-shared c.wires s pairs.items b.shared);
    opened = append-nil s.opened ∙ b.opened;
    dealt = add-zero s.dealt ∙ b.dealt;
  }
  acts (Reveal shown) c s b = record {
    shared = still-shared c.wires s.wires b.shared;
    opened = λ j. b.opened j ++ map-same (λ w. q.opened (λ i. slice_index (s.wires i) w)) (slice_index c.wires)
        (opened-shared q laws c.wires s.wires b.shared) shown.items j;
    dealt = add-zero s.dealt ∙ b.dealt;
  }
  acts End c s b = record {
    shared = still-shared c.wires s.wires b.shared;
    opened = append-nil s.opened ∙ b.opened;
    dealt = add-zero s.dealt ∙ b.dealt;
  }

  batches : (b : Batch) (c : Values) (s : Shared) → Beside q c s → Beside q (batch_on (deals_among q o.masks) b c) (batch_among q o b s)
  batches b c s at =
      acts b.act (record c { wires = with_lets c.wires b.lets.items }) (with_batch_lets b s)
      (record { shared = shared-lets q laws b.lets.items c.wires s.wires at.shared; opened = at.opened; dealt = at.dealt })

  beside : (values : List ℕ) → AreShared q values o.inputs → (t : ℕ) →
      Beside q (clear_at o.next (deals_among q o.masks) values t) (shared_at q o t)
  beside values a zero = record { shared = a; opened = refl; dealt = refl }
  beside values a (suc t) =
      let now = beside values a t in
      let c = clear_at o.next (deals_among q o.masks) values t in
      subst (λ x. Beside q (batch_on (deals_among q o.masks) (o.next t x) c) (shared_at q o (suc t))) now.opened
      (batches (o.next t (shared_at q o t).opened) c (shared_at q o t) now)

  pub at-one : (values : List ℕ) → AreShared q values o.inputs → (t : ℕ) → IsAtOne q o values t
  at-one values a t = let now = beside values a t in record { shared = now.shared; opened = now.opened; dealt = now.dealt }

  -- the act that comes is the clear run's
  same-act : (values : List ℕ) → AreShared q values o.inputs → (t : ℕ) →
      (coming q o t).act ≡ clear_act o.next (deals_among q o.masks) values t
  same-act values a t = ap (λ x. (o.next t x).act) (beside values a t).opened

  pub same-rounds : (values : List ℕ) → AreShared q values o.inputs → HaveSameRounds q o values
  same-rounds values a r = (
    λ h. (sym (ap is_end (same-act values a r)) ∙ h.ends, λ k lt. sym (ap is_end (same-act values a k)) ∙ h.goes k lt),
    λ h. record { ends = ap is_end (same-act values a r) ∙ h.0; goes = λ k lt. ap is_end (same-act values a k) ∙ h.1 k lt },
  )
