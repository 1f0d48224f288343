-- Two runs that look alike to servers that watch.
use Rattle.std.proofs.Common.{◌≡◌, ◌≤◌, ◌<◌, ◌+◌, ◌*◌, inl, inr, ℕ, zero, suc, true, false, List, [], ◌∷◌, ◌++◌, length, slice_index, map}
use Rattle.std.proofs.Common.{sym, refl, ap, subst, ◌∙◌, arith}
use Rattle.std.specs.Int.{bit_at}
use Rattle.std.proofs.lemmas.Bool.{cases_Bool}
use Rattle.std.proofs.lemmas.List.{append_cancel_left}
use Rattle.beet_gates.specs.Clear.{Values, with_lets, product_of, act_on}
use Rattle.beet_gates.specs.Each.{each}
use Rattle.beet_gates.specs.Scripts.{deals_in}
use Rattle.beet_gates.specs.declared.Act.{Act}
use Rattle.beet_gates.specs.declared.Act.TheVariants.{Deal, Mul, Reveal, End}
use Rattle.beet_gates.specs.declared.Batch.{Batch}
use Rattle.beet_gates.proofs.EachFacts.{each-same}
use Rattle.beet_gates.specs.Draws.{draws_in, pair_at}
use Rattle.beet_linear_sharing.specs.Sharings.{Sharing, IsAmong, joined}
use Rattle.beet_linear_sharing.specs.Runs.{Setup, Shared, act_among, coming, deals_among, gained, hidden_at, message, number_drawn}
use Rattle.beet_linear_sharing.specs.Runs.{product_at, secret_hidden, sent_for, shared_at, standing_at, with_batch_lets}
use Rattle.beet_linear_sharing.specs.Polynomials.{AreShared, IsAtOne}
use Rattle.beet_coalition.specs.Coalitions.{Coalition, GateMapped, moved_of, number_at, secret_at}
use Rattle.beet_coalition.specs.Premise.{MayMap, Secrets, begin_in, clear_of}
use Rattle.beet_linear_sharing.proofs.Laws.{SharingLaws}
use Rattle.beet_coalition.proofs.Laws.{CoalitionLaws}
use Rattle.beet_linear_sharing.proofs.AtOne.{at-one}
use Rattle.beet_linear_sharing.proofs.Closure.{shared-lets}
use Rattle.beet_gates.proofs.Acts.{secret_small}
use Rattle.beet_gates.proofs.Lists.{over_wires}

-- the values in the batch that comes, once its lets are there
abbrev pub standing_of : Sharing → (ℕ → List ℕ → Batch) → Secrets → ℕ → Values
standing_of q next w t =
    let v = clear_of q next w t in record v { wires = with_lets v.wires (next t v.opened).lets.items }

-- what the servers that watch see of two runs
pub record Alike (q : Sharing) (c : Coalition) (r r' : Shared) : Type 0 where
  pub opened : r'.opened ≡ r.opened
  pub hidden : r'.hidden ≡ r.hidden
  pub dealt : r'.dealt ≡ r.dealt
  pub mine : (i : ℕ) → IsAmong q.servers i → c.watches i ≡ true → r'.wires i ≡ r.wires i

pub joined-same : (f g : ℕ → List ℕ) (js : List ℕ) → ((j : ℕ) → IsAmong js j → f j ≡ g j) → joined f js ≡ joined g js
joined-same f g [] same = refl
joined-same f g (j ∷ []) same = same j (inl refl)
joined-same f g (j ∷ k ∷ js) same =
    let rest = joined-same f g (k ∷ js) (λ i am. same i (inr am)) in
    let here = same j (inl refl) in λ x. here x ++ rest x

module _ (q : Sharing) (c : Coalition) (laws : SharingLaws q) (watch : CoalitionLaws q c) where
  pub alike_lets : (b : Batch) (r r' : Shared) → Alike q c r r' → Alike q c (with_batch_lets b r) (with_batch_lets b r')
  alike_lets b r r' g = record {
    opened = g.opened;
    hidden = g.hidden;
    dealt = g.dealt;
    mine = λ i am is. ap (λ points. with_lets points b.lets.items) (g.mine i am is);
  }

  -- one batch, whose lets are among the wires
  module _ (o o' : Setup) (s s' : Shared) (alike : Alike q c s s') where
    abbrev pub SameHidden : Act → Type 0
    SameHidden a = (j i k : ℕ) → IsAmong q.servers j → IsAmong q.servers i → c.watches i ≡ true → k < draws_in a →
        hidden_at q o' s' a j i k ≡ hidden_at q o s a j i k

    gained_same : (a : Act) → SameHidden a → (i : ℕ) → IsAmong q.servers i → c.watches i ≡ true → gained q o' s' a i ≡ gained q o s a i
    gained_same Deal h i am is =
        joined-same (λ j. each (hidden_at q o' s' Deal j i) 61) (λ j. each (hidden_at q o s Deal j i) 61) q.servers
        (λ j at. each-same (hidden_at q o' s' Deal j i) (hidden_at q o s Deal j i) 61 (λ k lt. h j i k at am is lt))
    gained_same (Mul pairs) h i am is =
        each-same (product_at q o' s' (Mul pairs) i) (product_at q o s (Mul pairs) i) (length pairs.items)
        (λ k lt. laws.reshared_same (λ j. hidden_at q o' s' (Mul pairs) j i k) (λ j. hidden_at q o s (Mul pairs) j i k)
        (λ j at. h j i k at am is lt))
    gained_same (Reveal shown) h i am is = refl
    gained_same End h i am is = refl

    pub alike_act : (a : Act) → SameHidden a → (act_among q o' a s').opened ≡ (act_among q o a s).opened →
        Alike q c (act_among q o a s) (act_among q o' a s')
    alike_act a h opened = record {
      opened = opened;
      hidden = ap (λ n. n + draws_in a) alike.hidden;
      dealt = ap (λ n. n + deals_in a) alike.dealt;
      mine = λ i am is. let e = alike.mine i am is in let g = gained_same a h i am is in λ x. e x ++ g x;
    }

    -- wires with the same values and the same points at the servers that watch have the same points at all
    revealed : (shown values values' : List ℕ) → AreShared q values s.wires → AreShared q values' s'.wires →
        map (slice_index values') shown ≡ map (slice_index values) shown → (j : ℕ) → IsAmong q.servers j →
        map (slice_index (s'.wires j)) shown ≡ map (slice_index (s.wires j)) shown
    revealed shown values values' g g' same j at =
        over_wires shown (slice_index values) (slice_index values') (slice_index (s.wires j)) (slice_index (s'.wires j))
        (λ w e.
        let v : ℕ = slice_index values w in
        let one = g.shared w in
        let two = g'.shared w in
        let mine : (i : ℕ) → IsAmong q.servers i → c.watches i ≡ true → q.share v two.numbers i ≡ q.share v one.numbers i =
        λ i am is. ap (λ z. q.share z two.numbers i) (sym e) ∙ sym (two.points i am) ∙ ap (λ l. slice_index l w) (alike.mine i am is)
        ∙ one.points i am in
        two.points j at ∙ ap (λ z. q.share z two.numbers j) e ∙ watch.points_same v two.numbers one.numbers mine j at
        ∙ sym (one.points j at))
        same

    pub sent_same : (a : Act) → SameHidden a → (v v' : Values) → AreShared q v.wires s.wires → AreShared q v'.wires s'.wires →
        v'.opened ≡ v.opened → (act_on (deals_among q o'.masks) a v').opened ≡ (act_on (deals_among q o.masks) a v).opened →
        (j i : ℕ) → IsAmong q.servers j → IsAmong q.servers i → c.watches i ≡ true → sent_for q o' s' a j i ≡ sent_for q o s a j i
    sent_same Deal h v v' g g' before after j i at am is =
        each-same (hidden_at q o' s' Deal j i) (hidden_at q o s Deal j i) 61 (λ k lt. h j i k at am is lt)
    sent_same (Mul pairs) h v v' g g' before after j i at am is =
        each-same (hidden_at q o' s' (Mul pairs) j i) (hidden_at q o s (Mul pairs) j i) (length pairs.items) (λ k lt. h j i k at am is lt)
    sent_same (Reveal shown) h v v' g g' before after j i at am is =
        revealed shown.items v.wires v'.wires g g'
        (append_cancel_left v.opened _ _ (ap (λ l. l ++ map (slice_index v'.wires) shown.items) (sym before) ∙ after)) j at
    sent_same End h v v' g g' before after j i at am is = refl

    abbrev pub SameWords : Act → Type 0
    SameWords a = (i : ℕ) → IsAmong q.servers i → c.watches i ≡ true → 0 < deals_in a → slice_index (o'.masks i) s'.dealt
        ≡ slice_index (o.masks i) s.dealt

    own_secret : (a : Act) → SameWords a → (i k : ℕ) → IsAmong q.servers i → c.watches i ≡ true → secret_hidden o' s' a i k
        ≡ secret_hidden o s a i k
    own_secret Deal word i k am is = let e = word i am is (omega arith) in λ x. bit_at (e x) k
    own_secret (Mul pairs) word i k am is = let e = alike.mine i am is in λ x. product_of (e x) (pair_at pairs.items k)
    own_secret (Reveal shown) word i k am is = refl
    own_secret End word i k am is = refl

    abbrev pub AreMoved : Act → Type 0
    AreMoved a = (j : ℕ) → IsAmong q.servers j → c.watches j ≡ false → (k m : ℕ) → k < draws_in a → m < q.degree →
        number_drawn q o' s' j k m ≡ moved_of c m (number_drawn q o s j k m) (secret_hidden o s a j k) (secret_hidden o' s' a j k)

    abbrev pub OwnSame : Type 0
    OwnSame = (j : ℕ) → IsAmong q.servers j → c.watches j ≡ true → o'.numbers j ≡ o.numbers j

    -- numbers that are moved show the servers that watch what they did
    pub hidden_same : (a : Act) → OwnSame → SameWords a → AreMoved a → SameHidden a
    hidden_same a own word moves j i k at am is lt = elim (cases_Bool (c.watches j)) [
      | inl mine ↦
          let e = own_secret a word j k at mine in
          let n = own j at mine in
          λ x. q.share (e x) (λ m. slice_index (n x) (q.degree * (alike.hidden x + k) + m)) i
      | inr other ↦
          let x : ℕ = secret_hidden o s a j k in
          let y : ℕ = secret_hidden o' s' a j k in
          laws.share_same y i (number_drawn q o' s' j k)
          (λ m. moved_of c m (number_drawn q o s j k m) x y) (λ m small. moves j at other k m lt small)
          ∙ watch.moved_same i x y (number_drawn q o s j k) am is (secret_small a (s'.wires j) (slice_index (o'.masks j) s'.dealt) k)
    ]

  -- the whole run
  module _ (next : ℕ → List ℕ → Batch) (w w' : Secrets) (numbers numbers' : ℕ → List ℕ) (rounds : ℕ) (may : MayMap q c next rounds w w')
      (mapped : GateMapped q c rounds (begin_in next w numbers) (begin_in next w' numbers')) where
    abbrev first : Setup
    first = begin_in next w numbers

    abbrev second : Setup
    second = begin_in next w' numbers'

    one : (t : ℕ) → IsAtOne q first w.values t
    one t = at-one q laws first w.values may.shared t

    two : (t : ℕ) → IsAtOne q second w'.values t
    two t = at-one q laws second w'.values may.shared' t

    opened_same : (t : ℕ) → t ≤ rounds → (shared_at q second t).opened ≡ (shared_at q first t).opened
    opened_same t le = (two t).opened ∙ may.opens t le ∙ sym (one t).opened

    stands : (t : ℕ) → AreShared q (standing_of q next w t).wires (standing_at q first t).wires
    stands t =
        subst (λ l. AreShared q (standing_of q next w t).wires (λ i. with_lets ((shared_at q first t).wires i) (next t l).lets.items))
        (sym (one t).opened)
        (shared-lets q laws (next t (clear_of q next w t).opened).lets.items (clear_of q next w t).wires (shared_at q first t).wires
        (one t).shared)

    stands' : (t : ℕ) → AreShared q (standing_of q next w' t).wires (standing_at q second t).wires
    stands' t =
        subst (λ l. AreShared q (standing_of q next w' t).wires (λ i. with_lets ((shared_at q second t).wires i) (next t l).lets.items))
        (sym (two t).opened)
        (shared-lets q laws (next t (clear_of q next w' t).opened).lets.items (clear_of q next w' t).wires (shared_at q second t).wires
        (two t).shared)

    -- a batch that both runs reach alike
    module _ (t : ℕ) (alike : Alike q c (shared_at q first t) (shared_at q second t)) where
      pub same_batch : coming q second t ≡ coming q first t
      same_batch = λ i. next t (alike.opened i)

      pub standing_alike : Alike q c (standing_at q first t) (standing_at q second t)
      standing_alike =
          subst (λ b. Alike q c (standing_at q first t) (with_batch_lets b (shared_at q second t))) (sym same_batch)
          (alike_lets (coming q first t) (shared_at q first t) (shared_at q second t) alike)

      module _ (lt : t < rounds) where
        hidden_now : SameHidden first second (standing_at q first t) (standing_at q second t) standing_alike (coming q first t).act
        hidden_now =
            hidden_same first second (standing_at q first t) (standing_at q second t) standing_alike (coming q first t).act mapped.own
            (λ i am is some. ap (λ n. slice_index (w'.masks i) n) (alike.dealt ∙ (one t).dealt)
            ∙ may.words t i lt am is (subst (λ l. 0 < deals_in (next t l).act) (one t).opened some)
            ∙ ap (λ n. slice_index (w.masks i) n) (sym (one t).dealt))
            (λ j at other k m below small. mapped.moves j at other t k m lt below small
            ∙ (λ x. moved_of c m (number_at q first t j k m) (secret_at q first t j k)
            (secret_hidden second (standing_at q second t) (same_batch x).act j k)))

        opened_now : (act_among q second (coming q first t).act (standing_at q second t)).opened
            ≡ (act_among q first (coming q first t).act (standing_at q first t)).opened
        opened_now = (λ i. (act_among q second (sym same_batch i).act (standing_at q second t)).opened) ∙ opened_same (suc t) (omega arith)

        pub alike_after : Alike q c (shared_at q first (suc t)) (shared_at q second (suc t))
        alike_after =
            subst (λ b. Alike q c (shared_at q first (suc t)) (act_among q second b.act (standing_at q second t))) (sym same_batch)
            (alike_act first second (standing_at q first t) (standing_at q second t) standing_alike (coming q first t).act hidden_now
            opened_now)

        pub messages_now : (from i : ℕ) → IsAmong q.servers from → IsAmong q.servers i → c.watches i ≡ true → message q second from i t
            ≡ message q first from i t
        messages_now from i at am is =
            let act : (next t (clear_of q next w t).opened).act ≡ (coming q first t).act = λ x. (next t (sym (one t).opened x)).act in
            let act' : (next t (clear_of q next w' t).opened).act ≡ (coming q first t).act =
            (λ x. (next t (sym (two t).opened x)).act) ∙ (λ x. (same_batch x).act) in
            let opens : (act_on (deals_among q w'.masks) (coming q first t).act (standing_of q next w' t)).opened
            ≡ (act_on (deals_among q w.masks) (coming q first t).act (standing_of q next w t)).opened =
            (λ x. (act_on (deals_among q w'.masks) (sym act' x) (standing_of q next w' t)).opened) ∙ may.opens (suc t) (omega arith)
            ∙ (λ x. (act_on (deals_among q w.masks) (act x) (standing_of q next w t)).opened) in
            (λ x. sent_for q second (standing_at q second t) (same_batch x).act from i)
            ∙ sent_same first second (standing_at q first t) (standing_at q second t) standing_alike (coming q first t).act hidden_now
            (standing_of q next w t) (standing_of q next w' t) (stands t) (stands' t) (may.opens t (omega arith)) opens from i at am is

    pub alike_at : (t : ℕ) → t ≤ rounds → Alike q c (shared_at q first t) (shared_at q second t)
    alike_at zero le = record { opened = refl; hidden = refl; dealt = refl; mine = may.inputs }
    alike_at (suc t) le = alike_after t (alike_at t (omega arith)) (omega arith)

    pub messages_at : (t from i : ℕ) → t < rounds → IsAmong q.servers from → IsAmong q.servers i → c.watches i ≡ true →
        message q second from i t ≡ message q first from i t
    messages_at t from i lt at am is = messages_now t (alike_at t (omega arith)) lt from i at am is

    pub standing_alike_at : (t : ℕ) → t ≤ rounds → Alike q c (standing_at q first t) (standing_at q second t)
    standing_alike_at t le = standing_alike t (alike_at t le)
