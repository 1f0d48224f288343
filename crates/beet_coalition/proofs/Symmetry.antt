-- The map the other way round.
use Rattle.std.proofs.Common.{◌≡◌, ◌≤◌, ◌<◌, ◌+◌, ◌*◌, ℕ, zero, suc, List, slice_index, sym, refl, ap, subst, ◌∙◌, arith}
use Rattle.beet_gates.specs.Clear.{act_on}
use Rattle.beet_gates.specs.Scripts.{deals_in}
use Rattle.beet_gates.specs.declared.Batch.{Batch}
use Rattle.beet_gates.specs.Draws.{draws_in}
use Rattle.beet_linear_sharing.specs.Sharings.{Sharing}
use Rattle.beet_linear_sharing.specs.Runs.{Setup, coming, deals_among, shared_at, standing_at}
use Rattle.beet_coalition.specs.Coalitions.{Coalition, GateMapped, moved_of, number_at, secret_at}
use Rattle.beet_coalition.specs.Premise.{MayMap, Secrets, begin_in, clear_of}
use Rattle.beet_linear_sharing.proofs.Laws.{SharingLaws}
use Rattle.beet_coalition.proofs.Laws.{CoalitionLaws, moved_back}
use Rattle.beet_coalition.proofs.Alike.{alike_at, same_batch, standing_of}
use Rattle.beet_coalition.specs.Pairs.{AreElements, SameNumbers}
use Rattle.beet_coalition.proofs.Unique.{only_one}
use Rattle.beet_gates.proofs.Acts.{level_act, secret_small}

module _ (q : Sharing) (c : Coalition) (laws : SharingLaws q) (watch : CoalitionLaws q c) (next : ℕ → List ℕ → Batch) (rounds : ℕ)
    (w w' : Secrets) where
  level_at : ((t : ℕ) → t ≤ rounds → (clear_of q next w' t).opened ≡ (clear_of q next w t).opened) → (t : ℕ) → t ≤ rounds →
      (clear_of q next w' t).dealt ≡ (clear_of q next w t).dealt
  level_at opens zero le = refl
  level_at opens (suc t) le =
      (λ i. (act_on (deals_among q w'.masks) (next t (opens t (omega arith) i)).act (standing_of q next w' t)).dealt)
      ∙ level_act (deals_among q w.masks) (deals_among q w'.masks) (next t (clear_of q next w t).opened).act (standing_of q next w t)
      (standing_of q next w' t)
      (level_at opens t (omega arith))

  pub may_back : MayMap q c next rounds w w' → MayMap q c next rounds w' w
  may_back m = record {
    shared = m.shared';
    shared' = m.shared;
    inputs = λ i am is. sym (m.inputs i am is);
    opens = λ t le. sym (m.opens t le);
    words = λ t i lt am is some.
        let e = level_at m.opens t (omega arith) in
        (λ x. slice_index (w.masks i) (e x))
        ∙ sym (m.words t i lt am is (subst (λ l. 0 < deals_in (next t l).act) (m.opens t (omega arith)) some))
        ∙ (λ x. slice_index (w'.masks i) (sym e x));
  }

  pub map_back : MayMap q c next rounds w w' → (d d' : ℕ → List ℕ) → AreElements q d →
      GateMapped q c rounds (begin_in next w d) (begin_in next w' d') →
      GateMapped q c rounds (begin_in next w' d') (begin_in next w d)
  map_back may d d' small m =
      let first : Setup = begin_in next w d in
      let second : Setup = begin_in next w' d' in
      record {
        own = λ j at mine. sym (m.own j at mine);
        lengths = λ j at. sym (m.lengths j at);
        moves = λ j at other t k n lt below few.
            let is : coming q second t ≡ coming q first t =
            same_batch q c laws watch next w w' d d' rounds may m t
            (alike_at q c laws watch next w w' d d' rounds may m t (omega arith)) in
            moved_back c n (number_at q first t j k n) (secret_at q first t j k) (secret_at q second t j k)
            (secret_small (coming q first t).act ((standing_at q first t).wires j) (slice_index (w.masks j) (standing_at q first t).dealt)
            k)
            (secret_small (coming q second t).act ((standing_at q second t).wires j)
            (slice_index (w'.masks j) (standing_at q second t).dealt) k)
            (small j (q.degree * ((shared_at q first t).hidden + k) + n) at)
            ∙ ap (λ z. moved_of c n z (secret_at q second t j k) (secret_at q first t j k)) (sym (m.moves j at other t k n lt (subst (λ b. k
            < draws_in b.act) is below) few));
        rest = λ j at other n le.
            let g = alike_at q c laws watch next w w' d d' rounds may m rounds (omega arith) in
            sym (m.rest j at other n (subst (λ u. q.degree * u ≤ n) g.hidden le));
      }

-- the numbers of the first world are the only ones that lead to those of the second
pub only_one_back : (q : Sharing) (c : Coalition) (laws : SharingLaws q) (watch : CoalitionLaws q c) (next : ℕ → List ℕ → Batch)
    (rounds : ℕ) (w w' : Secrets) →
    MayMap q c next rounds w w' → (d e d' : ℕ → List ℕ) →
    AreElements q d → AreElements q e → GateMapped q c rounds (begin_in next w d) (begin_in next w' d') →
    GateMapped q c rounds (begin_in next w e) (begin_in next w' d') → SameNumbers q e d
only_one_back q c laws watch next rounds w w' may d e d' small small' m m' =
    only_one q c laws watch next rounds w' w (may_back q c laws watch next rounds w w' may) d' d e
    (map_back q c laws watch next rounds w w' may d d' small m) (map_back q c laws watch next rounds w w' may e d' small' m')
