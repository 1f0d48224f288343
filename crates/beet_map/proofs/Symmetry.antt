-- The map the other way round.
use Rattle.std.proofs.Common.{◌≡◌, ◌≤◌, ◌<◌, ◌+◌, ℕ, zero, suc, List, slice_index, sym, refl, ap, subst, ◌∙◌, arith}
use Rattle.beet_field.specs.Field.{IsElement}
use Rattle.beet_field.specs.Trio.{member}
use Rattle.beet_field.specs.declared.point.Point.{Point}
use Rattle.beet_field.specs.declared.trio.Trio.{Trio}
use Rattle.beet_gates.specs.Clear.{act_on}
use Rattle.beet_gates.specs.Deals.{deals_of}
use Rattle.beet_gates.specs.Scripts.{deals_in}
use Rattle.beet_gates.specs.declared.Batch.{Batch}
use Rattle.beet_gates.specs.Draws.{draws_in}
use Rattle.beet_sharing.specs.Runs.{Setup, coming, shared_at, standing_at}
use Rattle.beet_map.specs.Secrets.{Secrets, begin_in}
use Rattle.beet_map.specs.Mapped.{GateMapped, moved_of, number_at, secret_at}
use Rattle.beet_map.proofs.Moves.{moved_back}
use Rattle.beet_map.specs.Premise.{MayMap, clear_of}
use Rattle.beet_map.proofs.Alike.{alike_at, same_batch, standing_of}
use Rattle.beet_map.proofs.Unique.{only_one}
use Rattle.beet_gates.proofs.Acts.{level_act, secret_small}

-- runs on values that have come as far, with the same numbers opened, deal as many words in the next batch
pub level_next : (next : ℕ → List ℕ → Batch) (w w' : Secrets) (t : ℕ) → (clear_of next w' t).opened ≡ (clear_of next w t).opened →
    (clear_of next w' t).dealt ≡ (clear_of next w t).dealt → (clear_of next w' (suc t)).dealt ≡ (clear_of next w (suc t)).dealt
level_next next w w' t opens e =
    (λ i. (act_on (deals_of w'.masks) (next t (opens i)).act (standing_of next w' t)).dealt)
    ∙ level_act (deals_of w.masks) (deals_of w'.masks) (next t (clear_of next w t).opened).act (standing_of next w t)
    (standing_of next w' t) e

level_at : (next : ℕ → List ℕ → Batch) (rounds : ℕ) (w w' : Secrets) →
    ((t : ℕ) → t ≤ rounds → (clear_of next w' t).opened ≡ (clear_of next w t).opened) →
    (t : ℕ) → t ≤ rounds → (clear_of next w' t).dealt ≡ (clear_of next w t).dealt
level_at next rounds w w' opens zero le = refl
level_at next rounds w w' opens (suc t) le =
    level_next next w w' t (opens t (omega arith)) (level_at next rounds w w' opens t (omega arith))

pub may_back : (next : ℕ → List ℕ → Batch) (me : Point) (rounds : ℕ) (w w' : Secrets) → MayMap next me rounds w w' →
    MayMap next me rounds w' w
may_back next me rounds w w' m = record {
  lines = m.lines';
  lines' = m.lines;
  inputs = sym m.inputs;
  opens = λ t le. sym (m.opens t le);
  words = λ t lt some.
      let e = level_at next rounds w w' m.opens t (omega arith) in
      (λ i. slice_index (member w.masks me) (e i))
      ∙ sym (m.words t lt (subst (λ l. 0 < deals_in (next t l).act) (m.opens t (omega arith)) some))
      ∙ (λ i. slice_index (member w'.masks me) (sym e i));
}

-- numbers of the field
abbrev pub AreElements : Trio (List ℕ) → Type 0
AreElements numbers = (j : Point) (n : ℕ) → IsElement (slice_index (member numbers j) n)

pub map_back : (next : ℕ → List ℕ → Batch) (me : Point) (rounds : ℕ) (w w' : Secrets) → MayMap next me rounds w w' →
    (d d' : Trio (List ℕ)) → AreElements d →
    GateMapped me rounds (begin_in next w d) (begin_in next w' d') → GateMapped me rounds (begin_in next w' d') (begin_in next w d)
map_back next me rounds w w' may d d' small m =
    let first : Setup = begin_in next w d in
    let second : Setup = begin_in next w' d' in
    record {
      own = sym m.own;
      lengths = λ j. sym (m.lengths j);
      moves = λ j ne t k lt below.
          let is : coming second t ≡ coming first t =
          same_batch next me w w' d d' rounds may m t (alike_at next me w w' d d' rounds may m t (omega arith)) in
          moved_back me (number_at first t j k) (secret_at first t j k) (secret_at second t j k)
          (secret_small (coming first t).act (member (standing_at first t).wires j)
          (slice_index (member w.masks j) (standing_at first t).dealt) k)
          (secret_small (coming second t).act (member (standing_at second t).wires j)
          (slice_index (member w'.masks j) (standing_at second t).dealt) k)
          (small j ((shared_at first t).drawn + k))
          ∙ ap (λ z. moved_of me z (secret_at second t j k) (secret_at first t j k))
          (sym (m.moves j ne t k lt (subst (λ b. k < draws_in b.act) is below)));
      rest = λ j ne n le.
          let g = alike_at next me w w' d d' rounds may m rounds (omega arith) in
          sym (m.rest j ne n (subst (λ u. u ≤ n) g.drawn le));
    }

-- the numbers of the first world are the only ones that lead to those of the second
pub only_one_back : (next : ℕ → List ℕ → Batch) (me : Point) (rounds : ℕ) (w w' : Secrets) →
    MayMap next me rounds w w' → (d e d' : Trio (List ℕ)) →
    AreElements d → AreElements e → GateMapped me rounds (begin_in next w d) (begin_in next w' d') →
    GateMapped me rounds (begin_in next w e) (begin_in next w' d') → e ≡ d
only_one_back next me rounds w w' may d e d' small small' m m' =
    only_one next me rounds w' w (may_back next me rounds w w' may) d' d e
    (map_back next me rounds w w' may d d' small m) (map_back next me rounds w w' may e d' small' m')
