-- A shared run beside the clear run on the values of the lines that its inputs are on.
use Rattle.std.proofs.Common.{◌≡◌, ℕ, zero, suc, ◌+◌, List, [], ◌++◌, map, length, slice_index, refl, sym, ◌∙◌, ap}
use Rattle.std.proofs.Common.{subst, append-nil, add-zero}
use Rattle.std.specs.Int.{bit_at}
use Rattle.beet_field.specs.Trio.{member, trio_of}
use Rattle.beet_field.specs.declared.point.Point.{Point}
use Rattle.beet_field.specs.declared.point.Point.TheVariants.{One, Two, Three}
use Rattle.beet_shamir.specs.Line.{point_of, reshared}
use Rattle.beet_gates.specs.Clear.{Values, with_lets, product_of, act_on, batch_on, is_end, clear_at, clear_act}
use Rattle.beet_gates.specs.Deals.{deals_of}
use Rattle.beet_gates.specs.Each.{each}
use Rattle.beet_gates.specs.declared.Act.{Act}
use Rattle.beet_gates.specs.declared.Act.TheVariants.{Deal, Mul, Reveal, End}
use Rattle.beet_gates.specs.declared.Batch.{Batch}
use Rattle.beet_gates.specs.Draws.{pair_at}
use Rattle.beet_gates.proofs.Lists.{map-places, map-same}
use Rattle.beet_sharing.specs.Runs.{Setup, Shared, act_among, batch_among, coming, gained, hidden_at, number_drawn}
use Rattle.beet_sharing.specs.Runs.{opened_at, product_at, shared_at, with_batch_lets}
use Rattle.beet_sharing.specs.Lines.{OnLines, IsAtOne, HaveSameRounds, slopes_at, slopes_gained, with_slopes}
use Rattle.beet_sharing.proofs.Lined.{Lined, lined, on-lines, lined-same, lined-nil, lined-append, lined-each}
use Rattle.beet_sharing.proofs.Lined.{lined-lets, member-trio, member-each, products-together, opened-line}
use Rattle.beet_gates.proofs.Acts.{bit-small, product-small}

-- the shared run and the clear run have come equally far
pub record Beside (slopes : List ℕ) (c : Values) (s : Shared) : Type 0 where
  pub lines : Lined c.wires slopes (member s.wires)
  pub opened : s.opened ≡ c.opened
  pub dealt : s.dealt ≡ c.dealt

-- with the lets of a batch the wires are on lines too
pub lets-on-lines : (b : Batch) (values slopes : List ℕ) (s : Shared) → OnLines values slopes s.wires →
    OnLines (with_lets values b.lets.items) (with_slopes slopes b.lets.items) (with_batch_lets b s).wires
lets-on-lines b values slopes s l =
    on-lines _ _ _ (lined-same _ _ (λ i. with_lets (member s.wires i) b.lets.items) _
    (member-each (λ points. with_lets points b.lets.items) s.wires)
    (lined-lets b.lets.items values slopes (member s.wires) (lined values slopes s.wires l)))

module _ (o : Setup) where
  -- what one server deals
  dealt-lined : (s : Shared) (j : Point) →
      Lined (each (bit_at (slice_index (member o.masks j) s.dealt)) 61) (each (number_drawn o s j) 61)
      (λ i. each (hidden_at o s Deal j i) 61)
  dealt-lined s j =
      lined-each 61 (bit_at (slice_index (member o.masks j) s.dealt)) (number_drawn o s j) (hidden_at o s Deal j)
      (λ k h. bit-small (slice_index (member o.masks j) s.dealt) k) (λ i k h. refl)

  -- what all three deal
  deals-lined : (s : Shared) → Lined (deals_of o.masks s.dealt) (slopes_gained o s Deal) (gained o s Deal)
  deals-lined s =
      lined-append _ _ _ _ _ _ (dealt-lined s One) (lined-append _ _ _ _ _ _ (dealt-lined s Two) (dealt-lined s Three))

  products-lined : (slopes values : List ℕ) (s : Shared) (pairs : List (ℕ × ℕ)) → Lined values slopes (member s.wires) →
      Lined (map (product_of values) pairs) (slopes_gained o s (Mul (record { items = pairs })))
      (gained o s (Mul (record { items = pairs })))
  products-lined slopes values s pairs l =
      let act : Act = Mul (record { items = pairs }) in
      subst (λ v. Lined v (slopes_gained o s act) (gained o s act)) (sym (map-places (product_of values) (0, 0) pairs))
      (lined-each (length pairs) (λ k. product_of values (pair_at pairs k)) (λ k. reshared (trio_of (λ j. number_drawn o s j k)))
      (product_at o s act)
      (λ k h. product-small (slice_index values (pair_at pairs k).0) (slice_index values (pair_at pairs k).1))
      (λ i k h. ap (λ v. point_of v (reshared (trio_of (λ j. number_drawn o s j k))) i)
      (products-together values slopes (member s.wires) (pair_at pairs k) l)))

  -- an act leads both on
  acts : (a : Act) (slopes : List ℕ) (c : Values) (s : Shared) → Beside slopes c s →
      Beside (slopes ++ slopes_gained o s a) (act_on (deals_of o.masks) a c) (act_among o a s)
  acts Deal slopes c s b = record {
    lines =
        lined-same _ _ (λ i. member s.wires i ++ gained o s Deal i) _ (member-trio (λ i. member s.wires i ++ gained o s Deal i))
        (lined-append _ _ _ _ _ _ b.lines
        (subst (λ n. Lined (deals_of o.masks n) (slopes_gained o s Deal) (gained o s Deal)) b.dealt (deals-lined s)));
    opened = append-nil s.opened ∙ b.opened;
    dealt = ap (λ n. n + 1) b.dealt;
  }
  acts (Mul pairs) slopes c s b = record {
    lines =
        lined-same _ _ (λ i. member s.wires i ++ gained o s (Mul pairs) i) _
        (member-trio (λ i. member s.wires i ++ gained o s (Mul pairs) i))
        (lined-append _ _ _ _ _ _ b.lines (products-lined slopes c.wires s pairs.items b.lines));
    opened = append-nil s.opened ∙ b.opened;
    dealt = add-zero s.dealt ∙ b.dealt;
  }
  acts (Reveal shown) slopes c s b = record {
    lines =
        lined-same _ _ (λ i. member s.wires i ++ []) _ (member-trio (λ i. member s.wires i ++ []))
        (subst (λ v. Lined v (slopes ++ []) (λ i. member s.wires i ++ [])) (append-nil c.wires)
        (lined-append _ _ _ _ _ _ b.lines lined-nil));
    opened = λ j. b.opened j ++ map-same (opened_at s.wires) (slice_index c.wires)
        (opened-line c.wires slopes (member s.wires) b.lines) shown.items j;
    dealt = add-zero s.dealt ∙ b.dealt;
  }
  acts End slopes c s b = record {
    lines =
        lined-same _ _ (λ i. member s.wires i ++ []) _ (member-trio (λ i. member s.wires i ++ []))
        (subst (λ v. Lined v (slopes ++ []) (λ i. member s.wires i ++ [])) (append-nil c.wires)
        (lined-append _ _ _ _ _ _ b.lines lined-nil));
    opened = append-nil s.opened ∙ b.opened;
    dealt = add-zero s.dealt ∙ b.dealt;
  }

  -- lets and an act
  batches : (b : Batch) (slopes : List ℕ) (c : Values) (s : Shared) → Beside slopes c s →
      Beside (with_slopes slopes b.lets.items ++ slopes_gained o s b.act) (batch_on (deals_of o.masks) b c) (batch_among o b s)
  batches b slopes c s at =
      subst (λ g. Beside (with_slopes slopes b.lets.items ++ g) (batch_on (deals_of o.masks) b c) (batch_among o b s)) (gained-same b.act)
      (acts b.act (with_slopes slopes b.lets.items) (record c { wires = with_lets c.wires b.lets.items }) (with_batch_lets b s) (record {
        lines =
            lined-same _ _ (λ i. with_lets (member s.wires i) b.lets.items) _
            (member-each (λ points. with_lets points b.lets.items) s.wires)
            (lined-lets b.lets.items c.wires slopes (member s.wires) at.lines);
        opened = at.opened;
        dealt = at.dealt;
      }))
    where
      gained-same : (a : Act) → slopes_gained o (with_batch_lets b s) a ≡ slopes_gained o s a
      gained-same Deal = refl
      gained-same (Mul pairs) = refl
      gained-same (Reveal shown) = refl
      gained-same End = refl

  beside : (values slopes : List ℕ) → OnLines values slopes o.inputs → (t : ℕ) →
      Beside (slopes_at o slopes t) (clear_at o.next (deals_of o.masks) values t) (shared_at o t)
  beside values slopes l zero = record { lines = lined values slopes o.inputs l; opened = refl; dealt = refl }
  beside values slopes l (suc t) =
      let now = beside values slopes l t in
      let c = clear_at o.next (deals_of o.masks) values t in
      let s = shared_at o t in
      subst (λ x. Beside (slopes_at o slopes (suc t)) (batch_on (deals_of o.masks) (o.next t x) c) (shared_at o (suc t))) now.opened
      (batches (o.next t s.opened) (slopes_at o slopes t) c s now)

  -- after each batch the points of each wire are those of the line with the clear value
  pub at-one : (values slopes : List ℕ) → OnLines values slopes o.inputs → (t : ℕ) → IsAtOne o values slopes t
  at-one values slopes l t =
      let now = beside values slopes l t in
      record { lines = on-lines _ _ _ now.lines; opened = now.opened; dealt = now.dealt }

  -- the act that comes is the clear run's
  pub same-act : (values slopes : List ℕ) → OnLines values slopes o.inputs → (t : ℕ) →
      (coming o t).act ≡ clear_act o.next (deals_of o.masks) values t
  same-act values slopes l t = ap (λ x. (o.next t x).act) (beside values slopes l t).opened

  pub same-rounds : (values slopes : List ℕ) → OnLines values slopes o.inputs → HaveSameRounds o values
  same-rounds values slopes l r = (
    λ h. (sym (ap is_end (same-act values slopes l r)) ∙ h.ends, λ k lt. sym (ap is_end (same-act values slopes l k)) ∙ h.goes k lt),
    λ h. record { ends = ap is_end (same-act values slopes l r) ∙ h.0; goes = λ k lt. ap is_end (same-act values slopes l k) ∙ h.1 k lt },
  )
