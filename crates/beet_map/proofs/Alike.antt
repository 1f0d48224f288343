-- Two runs that look alike to one server.
use Rattle.std.proofs.Common.{◌≡◌, ◌≢◌, ◌≤◌, ◌<◌, ◌+◌, ℕ, zero, suc, List, [], ◌++◌, length, slice_index, map, sym}
use Rattle.std.proofs.Common.{refl, ap, subst, ◌∙◌, ⊎_elim, arith, append-nil}
use Rattle.std.specs.Int.{bit_at}
use Rattle.std.proofs.lemmas.List.{append_cancel_left}
use Rattle.beet_field.specs.Trio.{member, of_each, trio_of}
use Rattle.beet_field.specs.declared.point.Point.{Point}
use Rattle.beet_field.specs.declared.point.Point.TheVariants.{One, Two, Three}
use Rattle.beet_field.specs.declared.trio.Trio.{Trio}
use Rattle.beet_shamir.specs.Line.{point_of, reshared}
use Rattle.beet_gates.specs.Clear.{Values, with_lets, product_of, act_on}
use Rattle.beet_gates.specs.Deals.{deals_of}
use Rattle.beet_gates.specs.Each.{each}
use Rattle.beet_gates.specs.Scripts.{deals_in}
use Rattle.beet_gates.specs.declared.Act.{Act}
use Rattle.beet_gates.specs.declared.Act.TheVariants.{Deal, Mul, Reveal, End}
use Rattle.beet_gates.specs.declared.Batch.{Batch}
use Rattle.beet_gates.proofs.EachFacts.{each-same}
use Rattle.beet_gates.specs.Draws.{draws_in, pair_at}
use Rattle.beet_sharing.proofs.LinesLaw.{at-one}
use Rattle.beet_sharing.proofs.Lined.{member-trio}
use Rattle.beet_sharing.specs.Lines.{OnLines, IsAtOne, slopes_at}
use Rattle.beet_sharing.specs.Runs.{Setup, Shared, act_among, coming, gained, hidden_at, message, number_drawn}
use Rattle.beet_sharing.specs.Runs.{product_at, secret_hidden, sent_for, shared_at, standing_at, with_batch_lets}
use Rattle.beet_map.specs.Secrets.{Secrets, begin_in, shares_of, slopes_of, values_of}
use Rattle.beet_map.specs.Mapped.{GateMapped, moved_of, number_at, secret_at}
use Rattle.beet_map.proofs.Moves.{moved_same, reshared_point, same_or, slope_same}
use Rattle.beet_map.specs.Premise.{MayMap, clear_of}
use Rattle.beet_gates.proofs.Acts.{secret_small}
use Rattle.beet_gates.proofs.Lists.{over_wires}

-- the values in the batch that comes, once its lets are there
abbrev pub standing_of : (ℕ → List ℕ → Batch) → Secrets → ℕ → Values
standing_of next w t = let v = clear_of next w t in record v { wires = with_lets v.wires (next t v.opened).lets.items }

-- what server `me` sees of two runs
pub record Alike (me : Point) (r r' : Shared) : Type 0 where
  pub opened : r'.opened ≡ r.opened
  pub drawn : r'.drawn ≡ r.drawn
  pub dealt : r'.dealt ≡ r.dealt
  pub mine : member r'.wires me ≡ member r.wires me

pub member_each : (f : List ℕ → List ℕ) (t : Trio (List ℕ)) (i : Point) → member (of_each f t) i ≡ f (member t i)
member_each f t One = refl
member_each f t Two = refl
member_each f t Three = refl

pub alike_lets : (me : Point) (b : Batch) (r r' : Shared) → Alike me r r' → Alike me (with_batch_lets b r) (with_batch_lets b r')
alike_lets me b r r' g = record {
  opened = g.opened;
  drawn = g.drawn;
  dealt = g.dealt;
  mine = member_each (λ points. with_lets points b.lets.items) r'.wires me ∙ (λ i. with_lets (g.mine i) b.lets.items)
      ∙ sym (member_each (λ points. with_lets points b.lets.items) r.wires me);
}

-- one batch, whose lets are among the wires
module _ (me : Point) (o o' : Setup) (s s' : Shared) (alike : Alike me s s') where
  -- where the same numbers are gained and opened, the runs stay alike
  pub alike_act : (a : Act) → gained o' s' a me ≡ gained o s a me → (act_among o' a s').opened ≡ (act_among o a s).opened →
      Alike me (act_among o a s) (act_among o' a s')
  alike_act a same opened = record {
    opened = opened;
    drawn = ap (λ n. n + draws_in a) alike.drawn;
    dealt = ap (λ n. n + deals_in a) alike.dealt;
    mine = member-trio (λ i. member s'.wires i ++ gained o' s' a i) me ∙ (λ i. alike.mine i ++ same i)
        ∙ sym (member-trio (λ i. member s.wires i ++ gained o s a i) me);
  }

  -- the same point at `me` of each line with a secret as its value and a number drawn as its slope
  abbrev pub SameHidden : Act → Type 0
  SameHidden a = (j : Point) (k : ℕ) → k < draws_in a → hidden_at o' s' a j me k ≡ hidden_at o s a j me k

  pub gained_same : (a : Act) → SameHidden a → gained o' s' a me ≡ gained o s a me
  gained_same Deal h =
      let bits : (j : Point) → each (hidden_at o' s' Deal j me) 61 ≡ each (hidden_at o s Deal j me) 61 =
      λ j. each-same (hidden_at o' s' Deal j me) (hidden_at o s Deal j me) 61 (λ k lt. h j k lt) in
      λ i. bits One i ++ (bits Two i ++ bits Three i)
  gained_same (Mul pairs) h =
      each-same (product_at o' s' (Mul pairs) me) (product_at o s (Mul pairs) me) (length pairs.items) (λ k lt.
      reshared_point (λ j. secret_hidden o' s' (Mul pairs) j k) (λ j. number_drawn o' s' j k) me
      ∙ (λ i. reshared (record { one = h One k lt i; two = h Two k lt i; three = h Three k lt i }))
      ∙ sym (reshared_point (λ j. secret_hidden o s (Mul pairs) j k) (λ j. number_drawn o s j k) me))
  gained_same (Reveal shown) h = refl
  gained_same End h = refl

  -- lines with the same point at `me` and the same value have the same points at each server
  revealed : (shown values values' slopes slopes' : List ℕ) → OnLines values slopes s.wires → OnLines values' slopes' s'.wires →
      map (slice_index values') shown ≡ map (slice_index values) shown → (j : Point) →
      map (slice_index (member s'.wires j)) shown ≡ map (slice_index (member s.wires j)) shown
  revealed shown values values' slopes slopes' g g' same j =
      over_wires shown (slice_index values) (slice_index values') (slice_index (member s.wires j)) (slice_index (member s'.wires j))
      (λ w e.
      let v : ℕ = slice_index values w in
      let a : ℕ = slice_index slopes' w in
      let b : ℕ = slice_index slopes w in
      let mine : point_of v a me ≡ point_of v b me =
      ap (λ z. point_of z a me) (sym e) ∙ sym (g'.points me w) ∙ ap (λ l. slice_index l w) alike.mine ∙ g.points me w in
      g'.points j w ∙ ap (λ z. point_of z a j) e ∙ slope_same me j v a b mine ∙ sym (g.points j w))
      same

-- an opening adds no wires
lines_before : (o : Setup) (s : Shared) (shown values slopes : List ℕ) →
    OnLines values slopes (trio_of (λ i. member s.wires i ++ [])) → OnLines values slopes s.wires
lines_before o s shown values slopes g =
    let is : (i : Point) → member (trio_of (λ i. member s.wires i ++ [])) i ≡ member s.wires i =
    λ i. member-trio (λ i. member s.wires i ++ []) i ∙ append-nil (member s.wires i) in
    record {
      paired = g.paired;
      lengths = λ i. ap length (sym (is i)) ∙ g.lengths i;
      points = λ i w. ap (λ l. slice_index l w) (sym (is i)) ∙ g.points i w;
      elements = g.elements;
    }

-- a run and its values, before and after an act
pub record Stands (o : Setup) (s : Shared) (a : Act) (v : Values) : Type 0 where
  pub slopes : List ℕ
  pub lines : OnLines (act_on (deals_of o.masks) a v).wires slopes (act_among o a s).wires

module _ (me : Point) (o o' : Setup) (s s' : Shared) (alike : Alike me s s') (v v' : Values) where
  -- each message to `me`
  pub sent_same : (a : Act) → SameHidden me o o' s s' alike a → Stands o s a v → Stands o' s' a v' →
      v'.opened ≡ v.opened → (act_on (deals_of o'.masks) a v').opened ≡ (act_on (deals_of o.masks) a v).opened →
      (j : Point) → sent_for o' s' a j me ≡ sent_for o s a j me
  sent_same Deal h g g' before after j = each-same (hidden_at o' s' Deal j me) (hidden_at o s Deal j me) 61 (λ k lt. h j k lt)
  sent_same (Mul pairs) h g g' before after j =
      each-same (hidden_at o' s' (Mul pairs) j me) (hidden_at o s (Mul pairs) j me) (length pairs.items) (λ k lt. h j k lt)
  sent_same (Reveal shown) h g g' before after j =
      revealed me o o' s s' alike shown.items v.wires v'.wires g.slopes g'.slopes
      (lines_before o s shown.items v.wires g.slopes g.lines) (lines_before o' s' shown.items v'.wires g'.slopes g'.lines)
      (append_cancel_left v.opened _ _ (ap (λ l. l ++ map (slice_index v'.wires) shown.items) (sym before) ∙ after)) j
  sent_same End h g g' before after j = refl

-- the numbers of one batch
module _ (me : Point) (o o' : Setup) (s s' : Shared) (alike : Alike me s s') (own : member o'.numbers me ≡ member o.numbers me) where
  abbrev pub SameWord : Act → Type 0
  SameWord a = 0 < deals_in a → slice_index (member o'.masks me) s'.dealt ≡ slice_index (member o.masks me) s.dealt

  own_secret : (a : Act) → SameWord a → (k : ℕ) → secret_hidden o' s' a me k ≡ secret_hidden o s a me k
  own_secret Deal word k = λ i. bit_at (word (omega arith) i) k
  own_secret (Mul pairs) word k = λ i. product_of (alike.mine i) (pair_at pairs.items k)
  own_secret (Reveal shown) word k = refl
  own_secret End word k = refl

  abbrev pub AreMoved : Act → Type 0
  AreMoved a = (j : Point) → j ≢ me → (k : ℕ) → k < draws_in a →
      number_drawn o' s' j k ≡ moved_of me (number_drawn o s j k) (secret_hidden o s a j k) (secret_hidden o' s' a j k)

  -- numbers that are moved show `me` what they did
  pub hidden_same : (a : Act) → SameWord a → AreMoved a → SameHidden me o o' s s' alike a
  hidden_same a word moves j k lt = ⊎_elim
      (λ (e : j ≡ me). subst (λ x. hidden_at o' s' a x me k ≡ hidden_at o s a x me k) (sym e)
      (λ i. point_of (own_secret a word k i) (slice_index (own i) (alike.drawn i + k)) me))
      (λ (ne : j ≢ me). ap (λ z. point_of (secret_hidden o' s' a j k) z me) (moves j ne k lt)
      ∙ moved_same me (number_drawn o s j k) (secret_hidden o s a j k) (secret_hidden o' s' a j k)
      (secret_small a (member s'.wires j) (slice_index (member o'.masks j) s'.dealt) k))
      (same_or j me)

-- the whole run
module _ (next : ℕ → List ℕ → Batch) (me : Point) (w w' : Secrets) (numbers numbers' : Trio (List ℕ)) (rounds : ℕ)
    (may : MayMap next me rounds w w')
    (mapped : GateMapped me rounds (begin_in next w numbers) (begin_in next w' numbers')) where
  abbrev first : Setup
  first = begin_in next w numbers

  abbrev second : Setup
  second = begin_in next w' numbers'

  at_one : (t : ℕ) → IsAtOne first (values_of w.inputs) (slopes_of w.inputs) t
  at_one t = at-one first (values_of w.inputs) (slopes_of w.inputs) may.lines t

  at_one' : (t : ℕ) → IsAtOne second (values_of w'.inputs) (slopes_of w'.inputs) t
  at_one' t = at-one second (values_of w'.inputs) (slopes_of w'.inputs) may.lines' t

  opened_same : (t : ℕ) → t ≤ rounds → (shared_at second t).opened ≡ (shared_at first t).opened
  opened_same t le = (at_one' t).opened ∙ may.opens t le ∙ sym (at_one t).opened

  -- a batch that both runs reach alike
  module _ (t : ℕ) (alike : Alike me (shared_at first t) (shared_at second t)) where
    pub same_batch : coming second t ≡ coming first t
    same_batch = λ i. next t (alike.opened i)

    pub standing_alike : Alike me (standing_at first t) (standing_at second t)
    standing_alike =
        subst (λ b. Alike me (standing_at first t) (with_batch_lets b (shared_at second t))) (sym same_batch)
        (alike_lets me (coming first t) (shared_at first t) (shared_at second t) alike)

    module _ (lt : t < rounds) where
      hidden_now : SameHidden me first second (standing_at first t) (standing_at second t) standing_alike (coming first t).act
      hidden_now =
          hidden_same me first second (standing_at first t) (standing_at second t) standing_alike mapped.own (coming first t).act
          (λ some. ap (λ n. slice_index (member w'.masks me) n) (alike.dealt ∙ (at_one t).dealt)
          ∙ may.words t lt (subst (λ l. 0 < deals_in (next t l).act) (at_one t).opened some)
          ∙ ap (λ n. slice_index (member w.masks me) n) (sym (at_one t).dealt))
          (λ j ne k below. mapped.moves j ne t k lt below
          ∙ (λ i. moved_of me (number_at first t j k) (secret_at first t j k)
          (secret_hidden second (standing_at second t) (same_batch i).act j k)))

      opened_now : (act_among second (coming first t).act (standing_at second t)).opened
          ≡ (act_among first (coming first t).act (standing_at first t)).opened
      opened_now = (λ i. (act_among second (sym same_batch i).act (standing_at second t)).opened) ∙ opened_same (suc t) (omega arith)

      pub alike_after : Alike me (shared_at first (suc t)) (shared_at second (suc t))
      alike_after =
          let gains = gained_same me first second (standing_at first t) (standing_at second t) standing_alike
          (coming first t).act hidden_now in
          subst (λ b. Alike me (shared_at first (suc t)) (act_among second b.act (standing_at second t))) (sym same_batch)
          (alike_act me first second (standing_at first t) (standing_at second t) standing_alike (coming first t).act gains opened_now)

      stands : Stands first (standing_at first t) (coming first t).act (standing_of next w t)
      stands =
          let g = at_one (suc t) in
          let is : (next t (clear_of next w t).opened).act ≡ (coming first t).act = λ i. (next t (sym (at_one t).opened i)).act in
          record {
            slopes = slopes_at first (slopes_of w.inputs) (suc t);
            lines = subst (λ a. OnLines (act_on (deals_of w.masks) a (standing_of next w t)).wires
                (slopes_at first (slopes_of w.inputs) (suc t)) (shared_at first (suc t)).wires) is g.lines;
          }

      stands' : Stands second (standing_at second t) (coming first t).act (standing_of next w' t)
      stands' =
          let g = at_one' (suc t) in
          let is : (next t (clear_of next w' t).opened).act ≡ (coming second t).act = λ i. (next t (sym (at_one' t).opened i)).act in
          subst (λ b. Stands second (standing_at second t) b.act (standing_of next w' t)) same_batch
          (record {
            slopes = slopes_at second (slopes_of w'.inputs) (suc t);
            lines = subst (λ a. OnLines (act_on (deals_of w'.masks) a (standing_of next w' t)).wires
                (slopes_at second (slopes_of w'.inputs) (suc t)) (shared_at second (suc t)).wires) is g.lines;
          })

      pub messages_now : (from : Point) → message second from me t ≡ message first from me t
      messages_now from =
          let is : (next t (clear_of next w t).opened).act ≡ (coming first t).act = λ i. (next t (sym (at_one t).opened i)).act in
          let is' : (next t (clear_of next w' t).opened).act ≡ (coming first t).act =
          (λ i. (next t (sym (at_one' t).opened i)).act) ∙ (λ i. (same_batch i).act) in
          let opens : (act_on (deals_of w'.masks) (coming first t).act (standing_of next w' t)).opened
          ≡ (act_on (deals_of w.masks) (coming first t).act (standing_of next w t)).opened =
          (λ i. (act_on (deals_of w'.masks) (sym is' i) (standing_of next w' t)).opened) ∙ may.opens (suc t) (omega arith)
          ∙ (λ i. (act_on (deals_of w.masks) (is i) (standing_of next w t)).opened) in
          (λ i. sent_for second (standing_at second t) (same_batch i).act from me)
          ∙ sent_same me first second (standing_at first t) (standing_at second t) standing_alike (standing_of next w t)
          (standing_of next w' t)
          (coming first t).act hidden_now stands stands' (may.opens t (omega arith)) opens from

  pub alike_at : (t : ℕ) → t ≤ rounds → Alike me (shared_at first t) (shared_at second t)
  alike_at zero le = record {
    opened = refl;
    drawn = refl;
    dealt = refl;
    mine = member-trio (shares_of w'.inputs) me ∙ may.inputs ∙ sym (member-trio (shares_of w.inputs) me);
  }
  alike_at (suc t) le = alike_after t (alike_at t (omega arith)) (omega arith)

  -- each message to `me` is the same in both runs
  pub messages_at : (t : ℕ) → t < rounds → (from : Point) → message second from me t ≡ message first from me t
  messages_at t lt from = messages_now t (alike_at t (omega arith)) lt from

  pub standing_alike_at : (t : ℕ) → t ≤ rounds → Alike me (standing_at first t) (standing_at second t)
  standing_alike_at t le = standing_alike t (alike_at t le)
