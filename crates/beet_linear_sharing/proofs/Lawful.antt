-- A lawful script beside any numbers that its batches may open, batch by batch: nothing here is of three servers, of
-- five, or of plain values.
use Rattle.std.proofs.Common.{◌≡◌, ℕ, zero, suc, ◌+◌, ◌-◌, ◌<◌, ◌≤◌, true, false, List, [], ◌++◌, length, refl, sym, ◌∙◌, ap, subst, arith}
use Rattle.beet_gates.specs.Clear.{is_end}
use Rattle.beet_gates.specs.Scripts.{Standing, BatchStands, IsWithin, LawFrom, acted, after, revealed, start_among}
use Rattle.beet_gates.specs.declared.Batch.{Batch}
use Rattle.beet_gates.proofs.Laws.{law-now, law-next, law-last}
use Rattle.beet_gates.specs.Draws.{draws_in}
use Rattle.beet_gates.proofs.Acts.{acted-coefficients, acted-done}

module _ (next : ℕ → List ℕ → Batch) (bounds : Standing) (dealers inputs most : ℕ) (opened : ℕ → List ℕ) where
  -- how far the script stands after t batches
  abbrev pub stands : ℕ → Standing
  stands zero = start_among dealers inputs
  stands (suc t) = after (stands t) (next t (opened t))

  -- the numbers are opened by the batches
  pub record AreOpened : Type 0 where
    pub starts : opened 0 ≡ []
    pub more : (t : ℕ) → List ℕ
    pub count : (t : ℕ) → length (more t) ≡ revealed (next t (opened t)).act
    pub grows : (t : ℕ) → opened (suc t) ≡ opened t ++ more t

  -- the end does not come after fewer than t batches
  abbrev pub Goes : ℕ → Type 0
  Goes t = (k : ℕ) → k < t → is_end (next k (opened k)).act ≡ false

  pub record Lawful (n t : ℕ) : Type 0 where
    pub at : (stands t).done ≡ t
    pub law : LawFrom next bounds n (stands t) (opened t)

  pub lawful-next : AreOpened → (n t : ℕ) → Lawful (suc n) t → is_end (next t (opened t)).act ≡ false → Lawful n (suc t)
  lawful-next are n t l going =
      let s = stands t in
      let now : next s.done (opened t) ≡ next t (opened t) = ap (λ k. next k (opened t)) l.at in
      record {
        at = acted-done (record s { wires = s.wires + length (next t (opened t)).lets.items }) (next t (opened t)).act going
            ∙ omega (arith, l.at);
        law = subst (λ o. LawFrom next bounds n (after s (next t (opened t))) o) (sym (are.grows t))
            ((rw now at (law-next next bounds n s (opened t) l.law)) going (are.more t) (are.count t));
      }

  record Along (t : ℕ) : Type 0 where
    few : t ≤ most
    lawful : Lawful (most - t) t

  along-next : AreOpened → (t n : ℕ) → most - t ≡ n → t ≤ most → Lawful n t → is_end (next t (opened t)).act ≡ false → Along (suc t)
  along-next are t zero e few l going =
      let last : is_end (next t (opened t)).act ≡ true = ap (λ k. is_end (next k (opened t)).act) (sym l.at)
      ∙ law-last next bounds (stands t) (opened t) l.law in
      cc (going, last)
  along-next are t (suc n) e few l going =
      let m : most - suc t ≡ n = omega (arith, e) in
      record { few = omega (arith, e, few); lawful = rw m (lawful-next are n t l going) }

  along : LawFrom next bounds most (start_among dealers inputs) [] → AreOpened → (t : ℕ) → Goes t → Along t
  along law are zero go =
      let e : most - 0 ≡ most = omega arith in
      record {
        few = omega arith;
        lawful = rw e
            (record { at = refl; law = subst (λ o. LawFrom next bounds most (start_among dealers inputs) o) (sym are.starts) law });
      }
  along law are (suc t) go =
      let a = along law are t (λ k lt. go k (omega (arith, lt))) in
      along-next are t (most - t) refl a.few a.lawful (go t (omega arith))

  -- the batch that comes stands, and what it draws is there
  pub comes : LawFrom next bounds most (start_among dealers inputs) [] → AreOpened → (t : ℕ) → Goes t →
      BatchStands (stands t) (next t (opened t)) × IsWithin bounds (after (stands t) (next t (opened t)))
  comes law are t go =
      let a = along law are t go in
      let now : next (stands t).done (opened t) ≡ next t (opened t) = ap (λ k. next k (opened t)) a.lawful.at in
      rw now at (law-now next bounds (most - t) (stands t) (opened t) a.lawful.law)

  pub draws-fit : LawFrom next bounds most (start_among dealers inputs) [] → AreOpened → (t : ℕ) → Goes t →
      (stands t).coefficients + draws_in (next t (opened t)).act ≤ bounds.coefficients
  draws-fit law are t go =
      let s = stands t in
      let c = comes law are t go in
      omega (
        arith,
        c.1.2,
        acted-coefficients (record s { wires = s.wires + length (next t (opened t)).lets.items })
            (next t (opened t)).act,
      )

  pub draws-more : (t : ℕ) → (stands (suc t)).coefficients ≡ (stands t).coefficients + draws_in (next t (opened t)).act
  draws-more t =
      let s = stands t in
      acted-coefficients (record s { wires = s.wires + length (next t (opened t)).lets.items }) (next t (opened t)).act
