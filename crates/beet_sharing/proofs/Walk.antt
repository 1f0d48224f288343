-- A lawful script's run among three servers, batch by batch: what stands, what is drawn and dealt, and how long messages are.
use Rattle.std.proofs.Common.{◌≡◌, ℕ, zero, suc, ◌+◌, ◌*◌, ◌-◌, ◌<◌, ◌≤◌, inl, inr, true, false, [], ◌++◌, length}
use Rattle.std.proofs.Common.{slice_index, refl, sym, ◌∙◌, ap, arith, length-append}
use Rattle.std.proofs.lemmas.Bool.{cases_eq}
use Rattle.std.proofs.lemmas.List.{length-map}
use Rattle.beet_field.specs.Trio.{member}
use Rattle.beet_field.specs.declared.point.Point.{Point}
use Rattle.beet_field.specs.declared.point.Point.TheVariants.{One, Two, Three}
use Rattle.beet_field.specs.declared.TheConstants.{MOST_NUMBERS}
use Rattle.beet_gates.specs.Clear.{is_end, with_lets}
use Rattle.beet_gates.specs.Each.{each}
use Rattle.beet_gates.specs.Scripts.{Standing, ActBelow, BatchStands, IsWithin, LawFrom, acted, after, deals_in}
use Rattle.beet_gates.specs.Scripts.{revealed, size_of, start_of}
use Rattle.beet_gates.specs.declared.Act.{Act}
use Rattle.beet_gates.specs.declared.Act.TheVariants.{Deal, Mul, Reveal, End}
use Rattle.beet_gates.specs.declared.Batch.{Batch}
use Rattle.beet_gates.proofs.ClearFacts.{length-with_lets}
use Rattle.beet_gates.proofs.EachFacts.{length-each}
use Rattle.beet_gates.proofs.Laws.{law-now, law-next, law-last}
use Rattle.beet_gates.specs.Draws.{draws_in}
use Rattle.beet_sharing.specs.Runs.{Setup, Shared, act_among, batch_among, coming, gained, hidden_at, message}
use Rattle.beet_sharing.specs.Runs.{opened_at, opened_by, product_at, sent_for, shared_at, standing_at, with_batch_lets}
use Rattle.beet_sharing.specs.Rounds.{HasInputs}
use Rattle.beet_sharing.proofs.Lined.{member-trio, member-each}
use Rattle.beet_gates.proofs.Acts.{acted-coefficients, acted-done}

-- the standing after t batches of a run
abbrev pub stands_at : Setup → ℕ → ℕ → Standing
stands_at o inputs zero = start_of inputs
stands_at o inputs (suc t) = after (stands_at o inputs t) (coming o t)

-- the end does not come after fewer than t batches
abbrev pub Goes : Setup → ℕ → Type 0
Goes o t = (k : ℕ) → k < t → is_end (coming o k).act ≡ false

-- a lawful run of at most so many batches after t of them
pub record Walks (o : Setup) (bounds : Standing) (most t : ℕ) : Type 0 where
  pub standing : Standing
  pub dealers : standing.dealers ≡ 3
  pub at : standing.done ≡ t
  pub few : t ≤ most
  pub law : LawFrom o.next bounds (most - t) standing (shared_at o t).opened
  pub wires : (i : Point) → length (member (shared_at o t).wires i) ≡ standing.wires
  pub masks : (shared_at o t).dealt ≡ standing.masks
  pub coefficients : (shared_at o t).drawn ≡ standing.coefficients
  pub opened : length (shared_at o t).opened ≡ standing.opened

pub goes-less : (o : Setup) (t k : ℕ) → k ≤ t → Goes o t → Goes o k
goes-less o t k le go j lt = go j (omega (arith, le, lt))

pub goes-on : (o : Setup) (t : ℕ) → Goes o t → is_end (coming o t).act ≡ false → Goes o (suc t)
goes-on o t go more k lt = elim (cases_eq k t) [
  | inl same ↦ rw same more
  | inr other ↦ go k (omega (arith, other, lt))
]

-- what an act gives and opens
length-gained : (o : Setup) (s : Shared) (a : Act) (i : Point) → (n : Standing) → n.dealers ≡ 3 →
    (acted n a).wires ≡ n.wires + length (gained o s a i)
length-gained o s Deal i n three =
    let bits : 61 * n.dealers ≡ 61 * 3 = ap (λ k. 61 * k) three in
    omega (
      arith,
      bits,
      length-append (each (hidden_at o s Deal One i) 61) (each (hidden_at o s Deal Two i) 61 ++ each (hidden_at o s Deal Three i) 61),
      length-append (each (hidden_at o s Deal Two i) 61) (each (hidden_at o s Deal Three i) 61),
      length-each (hidden_at o s Deal One i) 61,
      length-each (hidden_at o s Deal Two i) 61,
      length-each (hidden_at o s Deal Three i) 61,
    )
length-gained o s (Mul pairs) i n three = omega (arith, length-each (product_at o s (Mul pairs) i) (length pairs.items))
length-gained o s (Reveal shown) i n three = omega arith
length-gained o s End i n three = omega arith

pub length-opened_by : (s : Shared) (a : Act) → length (opened_by s a) ≡ revealed a
length-opened_by s Deal = refl
length-opened_by s (Mul pairs) = refl
length-opened_by s (Reveal shown) = length-map shown.items (opened_at s.wires)
length-opened_by s End = refl

-- a standing counts what a run has
record Counts (n : Standing) (s : Shared) : Type 0 where
  dealers : n.dealers ≡ 3
  wires : (i : Point) → length (member s.wires i) ≡ n.wires
  masks : s.dealt ≡ n.masks
  coefficients : s.drawn ≡ n.coefficients
  opened : length s.opened ≡ n.opened

acted-masks : (n : Standing) (a : Act) → (acted n a).masks ≡ n.masks + deals_in a
acted-masks n Deal = refl
acted-masks n (Mul pairs) = omega arith
acted-masks n (Reveal shown) = omega arith
acted-masks n End = omega arith

acted-opened : (n : Standing) (a : Act) → (acted n a).opened ≡ n.opened + revealed a
acted-opened n Deal = omega arith
acted-opened n (Mul pairs) = omega arith
acted-opened n (Reveal shown) = refl
acted-opened n End = omega arith

acted-dealers : (n : Standing) (a : Act) → (acted n a).dealers ≡ n.dealers
acted-dealers n Deal = refl
acted-dealers n (Mul pairs) = refl
acted-dealers n (Reveal shown) = refl
acted-dealers n End = refl

counts-act : (o : Setup) (n : Standing) (s : Shared) (a : Act) → Counts n s → Counts (acted n a) (act_among o a s)
counts-act o n s a c = record {
  dealers = acted-dealers n a ∙ c.dealers;
  wires = λ i. ap length (member-trio (λ j. member s.wires j ++ gained o s a j) i)
      ∙ omega (arith, length-append (member s.wires i) (gained o s a i), c.wires i, length-gained o s a i n c.dealers);
  masks = omega (arith, c.masks, acted-masks n a);
  coefficients = omega (arith, c.coefficients, acted-coefficients n a);
  opened = omega (arith, length-append s.opened (opened_by s a), length-opened_by s a, c.opened, acted-opened n a);
}

length-lets : (b : Batch) (s : Shared) (i : Point) →
    length (member (with_batch_lets b s).wires i) ≡ length (member s.wires i) + length b.lets.items
length-lets b s i =
    ap length (member-each (λ points. with_lets points b.lets.items) s.wires i) ∙ length-with_lets (member s.wires i) b.lets.items

counts-batch : (o : Setup) (n : Standing) (s : Shared) (b : Batch) → Counts n s → Counts (after n b) (batch_among o b s)
counts-batch o n s b c = counts-act o (record n { wires = n.wires + length b.lets.items }) (with_batch_lets b s) b.act (record {
  dealers = c.dealers;
  wires = λ i. omega (arith, length-lets b s i, c.wires i);
  masks = c.masks;
  coefficients = c.coefficients;
  opened = c.opened;
})

counts-at : (o : Setup) (inputs : ℕ) → HasInputs o inputs → (t : ℕ) → Counts (stands_at o inputs t) (shared_at o t)
counts-at o inputs h zero = record { dealers = refl; wires = h; masks = refl; coefficients = refl; opened = refl }
counts-at o inputs h (suc t) = counts-batch o (stands_at o inputs t) (shared_at o t) (coming o t) (counts-at o inputs h t)

-- the numbers opened after one batch more
opened-more : (o : Setup) (t : ℕ) → (shared_at o (suc t)).opened ≡ (shared_at o t).opened ++ opened_by (standing_at o t) (coming o t).act
opened-more o t = refl

-- the law after t batches
pub record Lawful (o : Setup) (bounds : Standing) (inputs n t : ℕ) : Type 0 where
  pub at : (stands_at o inputs t).done ≡ t
  pub law : LawFrom o.next bounds n (stands_at o inputs t) (shared_at o t).opened

pub lawful-next : (o : Setup) (bounds : Standing) (inputs n t : ℕ) → Lawful o bounds inputs (suc n) t → is_end (coming o t).act ≡ false →
    Lawful o bounds inputs n (suc t)
lawful-next o bounds inputs n t l more =
    let s = stands_at o inputs t in
    let opened = (shared_at o t).opened in
    let now : o.next s.done opened ≡ coming o t = ap (λ k. o.next k opened) l.at in
    let new = opened_by (standing_at o t) (coming o t).act in
    record {
      at = acted-done (record s { wires = s.wires + length (coming o t).lets.items }) (coming o t).act more ∙ omega (arith, l.at);
      law = (rw now at (law-next o.next bounds n s opened l.law)) more new (length-opened_by (standing_at o t) (coming o t).act);
    }

-- where no batch is left, the end comes
pub lawful-last : (o : Setup) (bounds : Standing) (inputs t : ℕ) → Lawful o bounds inputs 0 t → is_end (coming o t).act ≡ true
lawful-last o bounds inputs t l =
    let s = stands_at o inputs t in
    let opened = (shared_at o t).opened in
    ap (λ k. is_end (o.next k opened).act) (sym l.at) ∙ law-last o.next bounds s opened l.law

pub lawful-start : (o : Setup) (bounds : Standing) (most inputs : ℕ) → LawFrom o.next bounds most (start_of inputs) [] →
    Lawful o bounds inputs most 0
lawful-start o bounds most inputs law = record { at = refl; law = law }

-- the law holds on, as long as the end has not come
pub record Along (o : Setup) (bounds : Standing) (inputs most t : ℕ) : Type 0 where
  pub few : t ≤ most
  pub lawful : Lawful o bounds inputs (most - t) t

along-next : (o : Setup) (bounds : Standing) (inputs most t : ℕ) → (n : ℕ) → most - t ≡ n → t ≤ most → Lawful o bounds inputs n t →
    is_end (coming o t).act ≡ false → Along o bounds inputs most (suc t)
along-next o bounds inputs most t zero e few l more = cc (more, lawful-last o bounds inputs t l)
along-next o bounds inputs most t (suc n) e few l more =
    let m : most - suc t ≡ n = omega (arith, e) in
    record { few = omega (arith, e, few); lawful = rw m (lawful-next o bounds inputs n t l more) }

pub along : (o : Setup) (bounds : Standing) (most inputs : ℕ) → LawFrom o.next bounds most (start_of inputs) [] → (t : ℕ) → Goes o t →
    Along o bounds inputs most t
along o bounds most inputs law zero go =
    let e : most - 0 ≡ most = omega arith in
    record { few = omega arith; lawful = rw e (lawful-start o bounds most inputs law) }
along o bounds most inputs law (suc t) go =
    let a = along o bounds most inputs law t (goes-less o (suc t) t (omega arith) go) in
    along-next o bounds inputs most t (most - t) refl a.few a.lawful (go t (omega arith))

-- a lawful run after t batches, none of which is the end
pub walks : (o : Setup) (bounds : Standing) (most inputs : ℕ) → LawFrom o.next bounds most (start_of inputs) [] →
    HasInputs o inputs → (t : ℕ) → Goes o t →
    Walks o bounds most t
walks o bounds most inputs law h t go =
    let a = along o bounds most inputs law t go in
    let c = counts-at o inputs h t in
    record {
      standing = stands_at o inputs t;
      dealers = c.dealers;
      at = a.lawful.at;
      few = a.few;
      law = a.lawful.law;
      wires = c.wires;
      masks = c.masks;
      coefficients = c.coefficients;
      opened = c.opened;
    }

module _ (o : Setup) (bounds : Standing) (most t : ℕ) (w : Walks o bounds most t) where
  -- the batch that comes stands, and stays within the bounds
  pub coming-stands : BatchStands w.standing (coming o t) × IsWithin bounds (after w.standing (coming o t))
  coming-stands =
      let now : o.next w.standing.done (shared_at o t).opened ≡ coming o t = ap (λ k. o.next k (shared_at o t).opened) w.at in
      rw now at (law-now o.next bounds (most - t) w.standing (shared_at o t).opened w.law)

  -- the points with the lets of the batch
  pub standing-wires : (i : Point) → length (member (standing_at o t).wires i) ≡ w.standing.wires + length (coming o t).lets.items
  standing-wires i = omega (arith, length-lets (coming o t) (shared_at o t) i, w.wires i)

  -- the numbers that a server draws are there
  pub draws-fit : (shared_at o t).drawn + draws_in (coming o t).act ≤ bounds.coefficients
  draws-fit =
      let s : Standing = record w.standing { wires = w.standing.wires + length (coming o t).lets.items } in
      omega (arith, coming-stands.1.2, w.coefficients, acted-coefficients s (coming o t).act)

  -- and so are the words that it deals
  pub deals-fit : (shared_at o t).dealt + deals_in (coming o t).act ≤ bounds.masks
  deals-fit =
      let s : Standing = record w.standing { wires = w.standing.wires + length (coming o t).lets.items } in
      omega (arith, coming-stands.1.1, w.masks, acted-masks s (coming o t).act)

  -- the points after the batch are within the bounds
  pub wires-fit : (i : Point) → length (member (shared_at o (suc t)).wires i) ≤ bounds.wires
  wires-fit i =
      let c : Counts w.standing (shared_at o t) = record {
        dealers = w.dealers;
        wires = w.wires;
        masks = w.masks;
        coefficients = w.coefficients;
        opened = w.opened;
      } in
      omega (arith, coming-stands.1.0, (counts-batch o w.standing (shared_at o t) (coming o t) c).wires i)

  -- each message has a number, where the end has not come
  pub size-some : is_end (coming o t).act ≡ false → 0 < size_of (coming o t).act
  size-some more = by_act (coming o t).act more coming-stands.0.1 where
    by_act : (a : Act) → is_end a ≡ false → ActBelow (w.standing.wires + length (coming o t).lets.items) a → 0 < size_of a
    by_act Deal h b = omega arith
    by_act (Mul pairs) h b = b.0
    by_act (Reveal shown) h b = b.0
    by_act End h b = cc h

  -- no more numbers to a message than one may have
  pub size-small : size_of (coming o t).act ≤ MOST_NUMBERS
  size-small = coming-stands.0.2.1

-- a message has as many numbers as its act says
pub sent-length : (o : Setup) (s : Shared) (a : Act) (from to : Point) → length (sent_for o s a from to) ≡ size_of a
sent-length o s Deal from to = length-each (hidden_at o s Deal from to) 61
sent-length o s (Mul pairs) from to = length-each (hidden_at o s (Mul pairs) from to) (length pairs.items)
sent-length o s (Reveal shown) from to = length-map shown.items (slice_index (member s.wires from))
sent-length o s End from to = refl

pub message-length : (o : Setup) (from to : Point) (t : ℕ) → length (message o from to t) ≡ size_of (coming o t).act
message-length o from to t = sent-length o (standing_at o t) (coming o t).act from to
