-- A lawful script on plain values.
use Rattle.std.proofs.Common.{◌≡◌, ℕ, suc, ◌+◌, ◌*◌, ◌≤◌, true, false, List, [], ◌∷◌, ◌++◌, map, length, slice_index}
use Rattle.std.proofs.Common.{refl, sym, ◌∙◌, ap, arith, length-append, append-nil, add-one, inl, inr, ◌<◌}
use Rattle.std.specs.Int.{bit_at}
use Rattle.std.proofs.lemmas.List.{length-map}
use Rattle.std.proofs.lemmas.Bool.{cases_eq}
use Rattle.beet_field.specs.declared.trio.Trio.{Trio}
use Rattle.beet_gates.specs.declared.Act.{Act}
use Rattle.beet_gates.specs.declared.Act.TheVariants.{Deal, Mul, Reveal, End}
use Rattle.beet_gates.specs.declared.Batch.{Batch}
use Rattle.beet_gates.specs.declared.Linear.{Linear}
use Rattle.beet_gates.specs.Each.{each}
use Rattle.beet_gates.specs.Deals.{dealt_bits, deals_of}
use Rattle.beet_gates.specs.Clear.{Values, with_lets, let_of, product_of, act_on, batch_on, is_end, start_values}
use Rattle.beet_gates.specs.Clear.{clear_at, clear_act, EndsAfter}
use Rattle.beet_gates.specs.Scripts.{Standing, LawFrom, after, acted, deals_in, revealed, start_among}
use Rattle.beet_gates.proofs.EachFacts.{length-each}
use Rattle.beet_gates.proofs.Laws.{law-now, law-next, law-last}

pub length-with_lets : (wires : List ℕ) (lets : List Linear) → length (with_lets wires lets) ≡ length wires + length lets
length-with_lets wires [] = omega arith
length-with_lets wires (l ∷ ls) =
    omega (arith, length-with_lets (wires ++ (let_of wires l ∷ [])) ls, length-append wires (let_of wires l ∷ []))

pub length-dealt : (a b c : ℕ) → length (dealt_bits a b c) ≡ 183
length-dealt a b c =
    omega (
      arith,
      length-append (each (bit_at a) 61) (each (bit_at b) 61 ++ each (bit_at c) 61),
      length-append (each (bit_at b) 61) (each (bit_at c) 61),
      length-each (bit_at a) 61,
      length-each (bit_at b) 61,
      length-each (bit_at c) 61,
    )

-- each deal appends 61 bits for each server that deals
abbrev pub DealtBy : ℕ → (ℕ → List ℕ) → Type 0
DealtBy dealers deals = (n : ℕ) → length (deals n) ≡ 61 * dealers

pub by-three : (words : Trio (List ℕ)) → DealtBy 3 (deals_of words)
by-three words n = length-dealt (slice_index words.one n) (slice_index words.two n) (slice_index words.three n)

-- the standing counts the wires and the deals
pub record Counts (deals : ℕ → List ℕ) (s : Standing) (v : Values) : Type 0 where
  pub wires : s.wires ≡ length v.wires
  pub masks : s.masks ≡ v.dealt
  pub dealers : DealtBy s.dealers deals

-- opened numbers are only appended, as many as the act opens
pub opens-more : (deals : ℕ → List ℕ) (b : Batch) (v : Values) →
    (new : List ℕ) × (length new ≡ revealed b.act) × ((batch_on deals b v).opened ≡ v.opened ++ new)
opens-more deals b v = by_act b.act (record v { wires = with_lets v.wires b.lets.items }) where
  by_act : (a : Act) (w : Values) → (new : List ℕ) × (length new ≡ revealed a) × ((act_on deals a w).opened ≡ w.opened ++ new)
  by_act Deal w = ([], refl, sym (append-nil w.opened))
  by_act (Mul pairs) w = ([], refl, sym (append-nil w.opened))
  by_act (Reveal shown) w = (map (slice_index w.wires) shown.items, length-map shown.items (slice_index w.wires), refl)
  by_act End w = ([], refl, sym (append-nil w.opened))

module _ (deals : ℕ → List ℕ) where
  counts-act : (a : Act) (s : Standing) (v : Values) → Counts deals s v → Counts deals (acted s a) (act_on deals a v)
  counts-act Deal s v f = record {
    wires = omega (arith, f.wires, length-append v.wires (deals v.dealt), f.dealers v.dealt);
    masks = omega (arith, f.masks);
    dealers = f.dealers;
  }
  counts-act (Mul pairs) s v f = record {
    wires = omega (
      arith,
      f.wires,
      length-append v.wires (map (product_of v.wires) pairs.items),
      length-map pairs.items (product_of v.wires),
    );
    masks = f.masks;
    dealers = f.dealers;
  }
  counts-act (Reveal shown) s v f = record { wires = f.wires; masks = f.masks; dealers = f.dealers }
  counts-act End s v f = f

  -- a standing goes on counting
  pub counts-batch : (b : Batch) (s : Standing) (v : Values) → Counts deals s v → Counts deals (after s b) (batch_on deals b v)
  counts-batch b s v f =
      counts-act b.act (record s { wires = s.wires + length b.lets.items }) (record v { wires = with_lets v.wires b.lets.items })
      (record { wires = omega (arith, f.wires, length-with_lets v.wires b.lets.items); masks = f.masks; dealers = f.dealers })

module _ (words : Trio (List ℕ)) where
  pub opened-more : (b : Batch) (v : Values) →
      (new : List ℕ) × (length new ≡ revealed b.act) × ((batch_on (deals_of words) b v).opened ≡ v.opened ++ new)
  opened-more = opens-more (deals_of words)

-- a batch that is not the end is one more
pub done-after : (s : Standing) (b : Batch) → is_end b.act ≡ false → (after s b).done ≡ s.done + 1
done-after s b h = by_act b.act h where
  by_act : (a : Act) → is_end a ≡ false → (acted (record s { wires = s.wires + length b.lets.items }) a).done ≡ s.done + 1
  by_act Deal h = refl
  by_act (Mul pairs) h = refl
  by_act (Reveal shown) h = refl
  by_act End h = cc h

-- a batch with the end opens nothing
pub end-opens : (deals : ℕ → List ℕ) (b : Batch) (v : Values) → is_end b.act ≡ true → (batch_on deals b v).opened ≡ v.opened
end-opens deals b v e = by_act b.act (record v { wires = with_lets v.wires b.lets.items }) e where
  by_act : (a : Act) (w : Values) → is_end a ≡ true → (act_on deals a w).opened ≡ w.opened
  by_act Deal w h = refl
  by_act (Mul pairs) w h = refl
  by_act (Reveal shown) w h = cc h
  by_act End w h = refl

-- a run that has done some batches, none of which was the end, and has at most n before its end
pub record Underway (next : ℕ → List ℕ → Batch) (deals : ℕ → List ℕ) (bounds : Standing) (inputs : List ℕ) (n done : ℕ)
    (v : Values) : Type 0 where
  pub standing : Standing
  pub at : standing.done ≡ done
  pub counts : Counts deals standing v
  pub law : LawFrom next bounds n standing v.opened
  pub values : v ≡ clear_at next deals inputs done
  pub going : (k : ℕ) → k < done → is_end (clear_act next deals inputs k) ≡ false

module _ (next : ℕ → List ℕ → Batch) (deals : ℕ → List ℕ) (bounds : Standing) (inputs : List ℕ) where
  pub begins : (dealers rounds : ℕ) → DealtBy dealers deals → LawFrom next bounds rounds (start_among dealers (length inputs)) [] →
      Underway next deals bounds inputs rounds 0 (start_values inputs)
  begins dealers rounds many law = record {
    standing = start_among dealers (length inputs);
    at = refl;
    counts = record { wires = refl; masks = refl; dealers = many };
    law = law;
    values = refl;
    going = λ k l. absurd (omega arith);
  }

  module _ (done : ℕ) (v : Values) (b : Batch) (e : b ≡ next done v.opened) where
    -- the batch that comes is that of the run
    coming : v ≡ clear_at next deals inputs done → b ≡ next done (clear_at next deals inputs done).opened
    coming is = e ∙ ap (λ (w : Values). next done w.opened) is

    stepped : v ≡ clear_at next deals inputs done → batch_on deals b v ≡ clear_at next deals inputs (suc done)
    stepped is = λ i. batch_on deals (coming is i) (is i)

    -- the words that it takes are there
    pub words-there : (n : ℕ) → Underway next deals bounds inputs n done v → v.dealt + deals_in b.act ≤ bounds.masks
    words-there n u =
        let now : next u.standing.done v.opened ≡ b = ap (λ k. next k v.opened) u.at ∙ sym e in
        let within = (rw now at (law-now next bounds n u.standing v.opened u.law)).1 in
        by_act b.act within.1 where
          by_act : (a : Act) → (acted (record u.standing { wires = u.standing.wires + length b.lets.items }) a).masks
              ≤ bounds.masks → v.dealt + deals_in a ≤ bounds.masks
          by_act Deal h = omega (arith, h, u.counts.masks)
          by_act (Mul pairs) h = omega (arith, h, u.counts.masks)
          by_act (Reveal shown) h = omega (arith, h, u.counts.masks)
          by_act End h = omega (arith, h, u.counts.masks)

    -- a batch that is not the end leads on
    pub goes-on : (n : ℕ) → Underway next deals bounds inputs (suc n) done v → is_end b.act ≡ false →
        Underway next deals bounds inputs n (done + 1) (batch_on deals b v)
    goes-on n u more =
        let now : next u.standing.done v.opened ≡ b = ap (λ k. next k v.opened) u.at ∙ sym e in
        let o = opens-more deals b v in
        record {
          standing = after u.standing b;
          at = done-after u.standing b more ∙ ap (λ m. m + 1) u.at;
          counts = counts-batch deals b u.standing v u.counts;
          law = rw o.2 ((rw now at (law-next next bounds n u.standing v.opened u.law)) more o.0 o.1);
          values = rw add-one (stepped u.values);
          going = λ k l. elim (cases_eq k done) [
            | inl same ↦ rw same (ap (λ (c : Batch). is_end c.act) (sym (coming u.values)) ∙ more)
            | inr other ↦ u.going k (omega (arith, other, l))
          ];
        }

    -- the end is the last batch
    pub record Ended : Type 0 where
      pub ends : EndsAfter next deals inputs done
      pub values : batch_on deals b v ≡ clear_at next deals inputs (suc done)
      pub opened : (batch_on deals b v).opened ≡ (clear_at next deals inputs done).opened

    pub ends : (n : ℕ) → Underway next deals bounds inputs n done v → is_end b.act ≡ true → Ended
    ends n u last = record {
      ends = (ap (λ (c : Batch). is_end c.act) (sym (coming u.values)) ∙ last, u.going);
      values = stepped u.values;
      opened = end-opens deals b v last ∙ ap (λ (w : Values). w.opened) u.values;
    }

    -- where no more may come, it is the end
    pub ends-at-last : Underway next deals bounds inputs 0 done v → Ended
    ends-at-last u =
        let now : next u.standing.done v.opened ≡ b = ap (λ k. next k v.opened) u.at ∙ sym e in
        ends 0 u (rw now at (law-last next bounds u.standing v.opened u.law))
