-- Two runs that differ in points of server 3: which wires a batch may name so that they open the same numbers.
use Rattle.std.proofs.Common.{◌≡◌, ◌≢◌, ℕ, zero, suc, ◌+◌, ◌-◌, ◌*◌, ◌%◌, ◌<◌, ◌≤◌, ◌⊎◌, inl, inr, List, [], ◌∷◌, ◌++◌}
use Rattle.std.proofs.Common.{length, slice_index, refl, sym, ◌∙◌, ap, subst, arith, length-append}
use Rattle.std.proofs.lemmas.Bool.{cases_lt}
use Rattle.std.proofs.Math.ListN.{get_or-append}
use Rattle.std.proofs.Math.Seq.{get_or-append_right}
use Rattle.beet_field.specs.Field.{p, mul_of}
use Rattle.beet_field.specs.declared.point.Point.{Point}
use Rattle.beet_field.specs.declared.point.Point.TheVariants.{One, Two, Three}
use Rattle.beet_shamir.specs.Line.{point_of, reshared}
use Rattle.beet_gates.specs.Clear.{weighed, let_of, with_lets, product_of}
use Rattle.beet_gates.specs.Each.{each}
use Rattle.beet_gates.specs.Scripts.{revealed}
use Rattle.beet_gates.specs.declared.Act.{Act}
use Rattle.beet_gates.specs.declared.Act.TheVariants.{Deal, Mul, Reveal, End}
use Rattle.beet_gates.specs.declared.Batch.{Batch}
use Rattle.beet_gates.specs.declared.Linear.{Linear}
use Rattle.beet_gates.proofs.EachFacts.{length-each, each-same}
use Rattle.beet_gates.specs.Draws.{pair_at}
use Rattle.beet_mask.specs.Mask.{mask_wires_of}
use Rattle.beet_sharing.specs.Runs.{Setup, Shared, act_among, batch_among, gained, hidden_at, number_drawn, product_at}
use Rattle.beet_sharing.specs.Runs.{with_batch_lets}
use Rattle.beet_field.specs.Trio.{trio_of}
use Rattle.beet_sharing.specs.Steps.{gained_among}

-- how many points of wires an act gives among three servers
abbrev pub gained_in : Act → ℕ
gained_in = gained_among 3

-- the setup with these points of server 3
abbrev pub with_third : List ℕ → Setup → Setup
with_third points o = record o { inputs = record o.inputs { three = points } }

-- the run with these points of server 3
abbrev pub third_in : List ℕ → Shared → Shared
third_in points s = record s { wires = record s.wires { three = points } }

-- the wires after a batch, of n before it
abbrev pub wires_after : ℕ → Batch → ℕ
wires_after n b = n + length b.lets.items + gained_in b.act

abbrev pub wires_after_all : ℕ → List Batch → ℕ
wires_after_all n [] = n
wires_after_all n (b ∷ bs) = wires_after_all (wires_after n b) bs

-- the wires of a mask, which has as many with any gates
abbrev pub mask_wires : ℕ
mask_wires = mask_wires_of 3

module _ (start : ℕ) where
  -- a wire of the mask that begins at `start` or of the comparison with it, other than the masked difference
  abbrev pub IsOwn : ℕ → Type 0
  IsOwn w = (start ≤ w) × (w ≢ start + (mask_wires + 60))

  -- each term names such a wire, or has the factor 0
  abbrev pub TermsOwn : List (ℕ × ℕ) → Type 0
  TermsOwn [] = Unit {0}
  TermsOwn (t ∷ ts) = ((t.0 ≡ 0) ⊎ IsOwn t.1) × TermsOwn ts

  -- each let that gives such a wire is over such wires, where the first gives the wire n
  abbrev pub LetsOwn : ℕ → List Linear → Type 0
  LetsOwn n [] = Unit {0}
  LetsOwn n (l ∷ ls) = (IsOwn n → TermsOwn l.terms) × LetsOwn (n + 1) ls

  abbrev pub PairsOwn : List (ℕ × ℕ) → Type 0
  PairsOwn [] = Unit {0}
  PairsOwn (x ∷ xs) = IsOwn x.0 × IsOwn x.1 × PairsOwn xs

  -- products are of such wires; any wire may be opened
  abbrev pub ActOwn : Act → Type 0
  ActOwn Deal = Unit {0}
  ActOwn (Mul pairs) = PairsOwn pairs.items
  ActOwn (Reveal shown) = Unit {0}
  ActOwn End = Unit {0}

  abbrev pub BatchOwn : ℕ → Batch → Type 0
  BatchOwn n b = LetsOwn n b.lets.items × ActOwn b.act

  -- a block of such batches, of which the last, and no other, opens a number
  unfoldable pub BlockOwn : ℕ → List Batch → Type 0
  BlockOwn n [] = ⊥
  BlockOwn n (b ∷ []) = BatchOwn n b × (revealed b.act ≡ 1)
  BlockOwn n (b ∷ c ∷ bs) = BatchOwn n b × (revealed b.act ≡ 0) × BlockOwn (wires_after n b) (c ∷ bs)

  -- two lists agree on such wires
  abbrev pub Agree : List ℕ → List ℕ → Type 0
  Agree xs ys = (w : ℕ) → IsOwn w → slice_index xs w ≡ slice_index ys w

  agree-append : (xs ys new other : List ℕ) → length ys ≡ length xs → Agree xs ys →
      ((k : ℕ) → IsOwn (length xs + k) → slice_index new k ≡ slice_index other k) → Agree (xs ++ new) (ys ++ other)
  agree-append xs ys new other len same more w own = elim (cases_lt w (length xs)) [
    | inl h ↦ get_or-append xs new 0 w h ∙ same w own ∙ sym (get_or-append ys other 0 w (omega arith))
    | inr h ↦
        let e : length xs + (w - length xs) ≡ w = omega arith in
        get_or-append_right xs new w 0 h ∙ more (w - length xs) (subst IsOwn (sym e) own)
        ∙ sym (get_or-append_right ys other w 0 (omega arith) ∙ ap (λ n. slice_index other (w - n)) len)
  ]

  weighed-agree : (xs ys : List ℕ) → Agree xs ys → (ts : List (ℕ × ℕ)) → TermsOwn ts → weighed xs ts ≡ weighed ys ts
  unfolding weighed
  weighed-agree xs ys same [] h = refl
  weighed-agree xs ys same (t ∷ ts) h = elim h.0 [
    | inl z ↦
        let left : t.0 * slice_index xs t.1 ≡ 0 = rw z (omega arith) in
        let right : t.0 * slice_index ys t.1 ≡ 0 = rw z (omega arith) in
        omega (arith, left, right, weighed-agree xs ys same ts h.1)
    | inr own ↦ λ j. t.0 * same t.1 own j + weighed-agree xs ys same ts h.1 j
  ]

  let-agree : (xs ys : List ℕ) → Agree xs ys → (l : Linear) → TermsOwn l.terms → let_of xs l ≡ let_of ys l
  let-agree xs ys same l h = ap (λ n. (l.constant + n) % p) (weighed-agree xs ys same l.terms h)

  pub record Lets (n : ℕ) (xs ys : List ℕ) : Type 0 where
    pub long : length xs ≡ n
    pub as_long : length ys ≡ n
    pub same : Agree xs ys

  lets-agree : (ls : List Linear) (n : ℕ) (xs ys : List ℕ) → LetsOwn n ls → Lets n xs ys →
      Lets (n + length ls) (with_lets xs ls) (with_lets ys ls)
  lets-agree [] n xs ys h a = record { long = omega (arith, a.long); as_long = omega (arith, a.as_long); same = a.same }
  lets-agree (l ∷ ls) n xs ys h a =
      let e : n + suc (length ls) ≡ n + 1 + length ls = omega arith in
      rw e (lets-agree ls (n + 1) (xs ++ let_of xs l ∷ []) (ys ++ let_of ys l ∷ []) h.1 (record {
        long = omega (arith, a.long, length-append xs (let_of xs l ∷ []));
        as_long = omega (arith, a.as_long, length-append ys (let_of ys l ∷ []));
        same = agree-append xs ys (let_of xs l ∷ []) (let_of ys l ∷ []) (omega (arith, a.long, a.as_long)) a.same new;
      })) where
        new : (k : ℕ) → IsOwn (length xs + k) → slice_index (let_of xs l ∷ []) k ≡ slice_index (let_of ys l ∷ []) k
        new zero own = let-agree xs ys a.same l (h.0 (let e : length xs + 0 ≡ n = omega (arith, a.long) in subst IsOwn e own))
        new (suc k) own = refl

  pair-own : (pairs : List (ℕ × ℕ)) (k : ℕ) → k < length pairs → PairsOwn pairs → IsOwn (pair_at pairs k).0 × IsOwn (pair_at pairs k).1
  pair-own [] k lt h = absurd (omega arith)
  pair-own (x ∷ xs) zero lt h = (h.0, h.1)
  pair-own (x ∷ xs) (suc k) lt h = pair-own xs k (omega arith) h.2

  -- two runs have come equally far, to n wires, and agree but for points of server 3
  pub record Alike (n : ℕ) (s t : Shared) : Type 0 where
    pub third : List ℕ
    pub is : t ≡ third_in third s
    pub lets : Lets n third s.wires.three

  module _ (o : Setup) (points : List ℕ) where
    products-alike : (n : ℕ) (s : Shared) (third : List ℕ) (pairs : List (ℕ × ℕ)) → Lets n third s.wires.three →
        PairsOwn pairs → (i : Point) →
        gained (with_third points o) (third_in third s) (Mul (record { items = pairs })) i ≡ gained o s (Mul (record { items = pairs })) i
    products-alike n s third pairs a h i =
        let act : Act = Mul (record { items = pairs }) in
        each-same (product_at (with_third points o) (third_in third s) act i) (product_at o s act i) (length pairs)
        (λ k lt.
        let own = pair-own pairs k lt h in
        let x = pair_at pairs k in
        λ j. point_of (reshared (record {
          one = product_of s.wires.one x;
          two = product_of s.wires.two x;
          three = mul_of (a.same x.0 own.0 j) (a.same x.1 own.1 j);
        })) (reshared (trio_of (λ m. number_drawn o s m k))) i)

    lets-append : (n m : ℕ) (xs ys new : List ℕ) → length new ≡ m → Lets n xs ys → Lets (n + m) (xs ++ new) (ys ++ new)
    lets-append n m xs ys new e a = record {
      long = omega (arith, a.long, length-append xs new, e);
      as_long = omega (arith, a.as_long, length-append ys new, e);
      same = agree-append xs ys new new (omega (arith, a.long, a.as_long)) a.same (λ k own. refl);
    }

    gained-length : (act : Act) (s : Shared) (i : Point) → length (gained o s act i) ≡ gained_in act
    gained-length Deal s i =
        let one = each (hidden_at o s Deal One i) 61 in
        let two = each (hidden_at o s Deal Two i) 61 in
        let three = each (hidden_at o s Deal Three i) 61 in
        omega (
          arith,
          length-append one (two ++ three),
          length-append two three,
          length-each (hidden_at o s Deal One i) 61,
          length-each (hidden_at o s Deal Two i) 61,
          length-each (hidden_at o s Deal Three i) 61,
        )
    gained-length (Mul pairs) s i = length-each (product_at o s (Mul pairs) i) (length pairs.items)
    gained-length (Reveal shown) s i = refl
    gained-length End s i = refl

    -- an act leads both on
    act-alike : (act : Act) (n : ℕ) (s : Shared) (third : List ℕ) → Lets n third s.wires.three → ActOwn act →
        Alike (n + gained_in act) (act_among o act s) (act_among (with_third points o) act (third_in third s))
    act-alike act n s third a h = record {
      third = third ++ gained o s act Three;
      is = by_act act h;
      lets = lets-append n (gained_in act) third s.wires.three (gained o s act Three) (gained-length act s Three) a;
    } where
      by_act : (act : Act) → ActOwn act →
          act_among (with_third points o) act (third_in third s) ≡ third_in (third ++ gained o s act Three) (act_among o act s)
      by_act Deal h = refl
      by_act (Mul pairs) h = λ j. record {
        wires = record {
          one = s.wires.one ++ products-alike n s third pairs.items a h One j;
          two = s.wires.two ++ products-alike n s third pairs.items a h Two j;
          three = third ++ products-alike n s third pairs.items a h Three j;
        };
        opened = s.opened ++ [];
        drawn = s.drawn + length pairs.items;
        dealt = s.dealt + 0;
      }
      by_act (Reveal shown) h = refl
      by_act End h = refl

    -- a batch leads both on
    pub batch-alike : (b : Batch) (n : ℕ) (s t : Shared) → BatchOwn n b → Alike n s t →
        Alike (wires_after n b) (batch_among o b s) (batch_among (with_third points o) b t)
    batch-alike b n s t h a =
        subst (λ x. Alike (wires_after n b) (batch_among o b s) (batch_among (with_third points o) b x)) (sym a.is)
        (act-alike b.act (n + length b.lets.items) (with_batch_lets b s) (with_lets a.third b.lets.items)
        (lets-agree b.lets.items n a.third s.wires.three h.0 a.lets) h.1)
