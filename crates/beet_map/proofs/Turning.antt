-- One batch of the walk through both worlds.
use Rattle.std.proofs.Common.{◌≡◌, ◌≢◌, ◌≤◌, ◌<◌, ◌+◌, ℕ, suc, List, length, slice_index, sym, ap, subst, ◌∙◌, ⊎_elim, arith}
use Rattle.beet_field.specs.Trio.{member}
use Rattle.beet_field.specs.declared.point.Point.{Point}
use Rattle.beet_field.specs.declared.point.Point.TheVariants.{One, Two, Three}
use Rattle.beet_field.specs.declared.trio.Trio.{Trio}
use Rattle.beet_gates.specs.Scripts.{deals_in}
use Rattle.beet_gates.specs.declared.Batch.{Batch}
use Rattle.beet_gates.specs.Draws.{draws_in, secret_of}
use Rattle.beet_sharing.specs.Runs.{Setup, Shared, act_among, coming, shared_at, standing_at, with_batch_lets}
use Rattle.beet_map.specs.Secrets.{Secrets, begin_in}
use Rattle.beet_map.specs.Mapped.{GateMapped, moved_of}
use Rattle.beet_map.specs.Premise.{MayMap, HasRoom}
use Rattle.beet_map.specs.Steps.{HasEnough, MovesBatch, dealing}
use Rattle.beet_map.proofs.Moves.{same_or}
use Rattle.beet_map.proofs.Alike.{Alike}
use Rattle.beet_map.proofs.Extending.{Extends, stands_alike, stays_at, extended}

-- what a batch leads to, in runs that have come to round t: both are ready for it, also with the numbers still to be moved,
-- and both come to the next round, whichever numbers are moved as the batch moves them
pub record Turned (next : ℕ → List ℕ → Batch) (me : Point) (w w' : Secrets) (drawn numbers : Trio (List ℕ)) (t : ℕ)
    (here there : Shared) (b : Batch) : Type 0 where
  pub first : HasEnough b.act w.masks drawn (with_batch_lets b here)
  pub moving : HasEnough b.act w.masks numbers (with_batch_lets b here)
  pub next_first : act_among (dealing w.masks drawn) b.act (with_batch_lets b here) ≡ shared_at (begin_in next w drawn) (t + 1)
  pub second : (e : Trio (List ℕ)) → MovesBatch me b.act w (with_batch_lets b here) w' (with_batch_lets b there) numbers e →
      HasEnough b.act w'.masks e (with_batch_lets b there)
  pub next_second : (e : Trio (List ℕ)) → MovesBatch me b.act w (with_batch_lets b here) w' (with_batch_lets b there) numbers e →
      act_among (dealing w'.masks e) b.act (with_batch_lets b there) ≡ shared_at (begin_in next w' e) (t + 1)
  pub mapped : (e : Trio (List ℕ)) → MovesBatch me b.act w (with_batch_lets b here) w' (with_batch_lets b there) numbers e →
      GateMapped me (t + 1) (begin_in next w drawn) (begin_in next w' e)

module _ (next : ℕ → List ℕ → Batch) (me : Point) (rounds : ℕ) (w w' : Secrets) (may : MayMap next me rounds w w')
    (drawn numbers : Trio (List ℕ)) (t : ℕ) (lt : t < rounds)
    (room : HasRoom rounds (begin_in next w drawn) w')
    (mapped : GateMapped me t (begin_in next w drawn) (begin_in next w' numbers)) (here there : Shared)
    (first : here ≡ shared_at (begin_in next w drawn) t) (second : there ≡ shared_at (begin_in next w' numbers) t)
    (b : Batch) (is : b ≡ next t here.opened) where
  abbrev o : Setup
  o = begin_in next w drawn

  abbrev o' : Setup
  o' = begin_in next w' numbers

  alike : Alike me (shared_at o t) (shared_at o' t)
  alike = stands_alike next me rounds w w' may drawn numbers t lt mapped t (omega arith)

  batch_is : b ≡ coming o t
  batch_is = is ∙ (λ i. next t (first i).opened)

  batch_is' : b ≡ coming o' t
  batch_is' = batch_is ∙ (λ i. next t (sym alike.opened i))

  abbrev stand : Shared
  stand = with_batch_lets b here

  abbrev stand' : Shared
  stand' = with_batch_lets b there

  stands : stand ≡ standing_at o t
  stands = λ i. with_batch_lets (batch_is i) (first i)

  stands' : stand' ≡ standing_at o' t
  stands' = λ i. with_batch_lets (batch_is' i) (second i)

  draws_first : (j : Point) → stand.drawn + draws_in b.act ≤ length (member drawn j)
  draws_first j = subst (λ n. n ≤ length (member drawn j)) (λ i. (sym stands i).drawn + draws_in (sym batch_is i).act) (room.numbers t j lt)

  draws_moved : (j : Point) → stand.drawn + draws_in b.act ≤ length (member numbers j)
  draws_moved j = subst (λ n. stand.drawn + draws_in b.act ≤ n) (sym (mapped.lengths j)) (draws_first j)

  deals_first : stand.dealt + deals_in b.act ≤ length w.masks.one
  deals_first = subst (λ n. n ≤ length w.masks.one) (λ i. (sym stands i).dealt + deals_in (sym batch_is i).act) (room.words t lt)

  deals_second : stand.dealt + deals_in b.act ≤ length w'.masks.one
  deals_second = subst (λ n. n ≤ length w'.masks.one) (λ i. (sym stands i).dealt + deals_in (sym batch_is i).act) (room.words' t lt)

  ready_move : HasEnough b.act w.masks numbers stand
  ready_move = record { words = deals_first; one = draws_moved One; two = draws_moved Two; three = draws_moved Three }

  ready_first : HasEnough b.act w.masks drawn stand
  ready_first = record { words = deals_first; one = draws_first One; two = draws_first Two; three = draws_first Three }

  next_first : act_among (dealing w.masks drawn) b.act stand ≡ shared_at o (t + 1)
  next_first =
      let s : t + 1 ≡ suc t = omega arith in
      subst (λ n. act_among (dealing w.masks drawn) b.act stand ≡ shared_at o n) (sym s) (λ i. act_among o (batch_is i).act (stands i))

  module _ (e : Trio (List ℕ)) (moves : MovesBatch me b.act w stand w' stand' numbers e) where
    same_lengths : (j : Point) → length (member e j) ≡ length (member numbers j)
    same_lengths j = ⊎_elim
        (λ (x : j ≡ me). subst (λ p. length (member e p) ≡ length (member numbers p)) (sym x) (ap length moves.own))
        (λ (ne : j ≢ me). (moves.others j ne).same_length)
        (same_or j me)

    drawn_is : stand'.drawn ≡ stand.drawn
    drawn_is = (λ i. (stands' i).drawn) ∙ alike.drawn ∙ (λ i. (sym stands i).drawn)

    dealt_is : stand'.dealt ≡ stand.dealt
    dealt_is = (λ i. (stands' i).dealt) ∙ alike.dealt ∙ (λ i. (sym stands i).dealt)

    draws_second : (j : Point) → stand'.drawn + draws_in b.act ≤ length (member e j)
    draws_second j = let a = draws_moved j in let c = same_lengths j in let d = drawn_is in omega arith

    ready_second : HasEnough b.act w'.masks e stand'
    ready_second = record {
      words = let a = deals_second in let d = dealt_is in omega arith;
      one = draws_second One;
      two = draws_second Two;
      three = draws_second Three;
    }

    unmoved : (j : Point) (n : ℕ) → (j ≢ me → slice_index (member e j) n ≡ slice_index (member numbers j) n) →
        slice_index (member e j) n ≡ slice_index (member numbers j) n
    unmoved j n other = ⊎_elim
        (λ (x : j ≡ me). subst (λ p. slice_index (member e p) n ≡ slice_index (member numbers p) n) (sym x)
        (ap (λ l. slice_index l n) moves.own))
        other
        (same_or j me)

    extends : Extends me o o' t e
    extends = record {
      own = moves.own;
      lengths = same_lengths;
      moves = λ j ne k below.
          let m = moves.others j ne in
          let from : slice_index (member numbers j) (stand.drawn + k) ≡ slice_index (member drawn j) ((shared_at o t).drawn + k) =
          (λ i. slice_index (member numbers j) ((stands i).drawn + k)) ∙ mapped.rest j ne ((shared_at o t).drawn + k) (omega arith) in
          (λ i. slice_index (member e j) ((sym stands i).drawn + k)) ∙ m.moves k (subst (λ c. k < draws_in c.act) (sym batch_is) below)
          ∙ (λ i. moved_of me (from i)
          (secret_of (batch_is i).act (member (stands i).wires j) (slice_index (member w.masks j) (stands i).dealt) k)
          (secret_of (batch_is' i).act (member (stands' i).wires j) (slice_index (member w'.masks j) (stands' i).dealt) k));
      below = λ j n low. unmoved j n (λ ne. (moves.others j ne).below n (subst (λ s. n < s.drawn) (sym stands) low));
      beyond = λ j n high. unmoved j n
          (λ ne. (moves.others j ne).beyond n (subst (λ m. m ≤ n) (λ i. (sym stands i).drawn + draws_in (sym batch_is i).act) high));
    }

    next_mapped : GateMapped me (t + 1) o (begin_in next w' e)
    next_mapped =
        let s : t + 1 ≡ suc t = omega arith in
        subst (λ n. GateMapped me n o (begin_in next w' e)) (sym s) (extended next me rounds w w' may drawn numbers t lt mapped e extends)

    next_second : act_among (dealing w'.masks e) b.act stand' ≡ shared_at (begin_in next w' e) (t + 1)
    next_second =
        let s : t + 1 ≡ suc t = omega arith in
        let same = stays_at next me rounds w w' may drawn numbers t lt mapped e extends t (omega arith) in
        subst (λ n. act_among (dealing w'.masks e) b.act stand' ≡ shared_at (begin_in next w' e) n) (sym s)
        ((λ i. act_among (begin_in next w' e) (batch_is' i).act (stands' i))
        ∙ (λ i. act_among (begin_in next w' e) (next t (sym same i).opened).act
        (with_batch_lets (next t (sym same i).opened) (sym same i))))

  pub turned : Turned next me w w' drawn numbers t here there b
  turned = record {
    first = ready_first;
    moving = ready_move;
    next_first = next_first;
    second = ready_second;
    next_second = next_second;
    mapped = next_mapped;
  }
