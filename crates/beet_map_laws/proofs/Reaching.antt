-- Numbers of a second world, mapped batch by batch.
use Rattle.std.proofs.Common.{◌≡◌, ◌≢◌, ◌≤◌, ◌<◌, ◌+◌, ℕ, zero, suc, List, length, slice_index, sym, refl, subst, arith}
use Rattle.beet_field.specs.Field.{IsElement}
use Rattle.beet_field.specs.Trio.{member}
use Rattle.beet_field.specs.declared.point.Point.{Point}
use Rattle.beet_field.specs.declared.trio.Trio.{Trio}
use Rattle.beet_gates.specs.declared.Batch.{Batch}
use Rattle.beet_gates.specs.Draws.{draws_in}
use Rattle.beet_gates.proofs.Splices.{spliced, spliced-below, spliced-beyond, spliced-elements, spliced-length}
use Rattle.beet_gates.proofs.Splices.{spliced-moves}
use Rattle.beet_sharing.specs.Runs.{Setup, coming, shared_at}
use Rattle.beet_map.specs.Mapped.{GateMapped, moved_of, number_at, secret_at}
use Rattle.beet_map.specs.Premise.{MayMap}
use Rattle.beet_map.specs.Secrets.{Secrets, begin_in}
use Rattle.beet_map.proofs.Extending.{Extends, extended}
use Rattle.beet_map.proofs.Symmetry.{AreElements}
use Rattle.beet_map_laws.proofs.AllBut.{all_but, all_but-each, all_but-own}

pub moved-small : (s : Point) (number x y : ℕ) → IsElement (moved_of s number x y)
moved-small s number x y = omega arith

module _ (next : ℕ → List ℕ → Batch) (me : Point) (rounds : ℕ) (w w' : Secrets) (may : MayMap next me rounds w w') (numbers : Trio (List ℕ))
    (fits : (t : ℕ) (j : Point) → t < rounds →
    (shared_at (begin_in next w numbers) t).drawn + draws_in (coming (begin_in next w numbers) t).act ≤ length (member numbers j)) where
  abbrev first : Setup
  first = begin_in next w numbers

  abbrev second : Trio (List ℕ) → Setup
  second d = begin_in next w' d

  -- the numbers of one more batch
  module _ (t : ℕ) (lt : t < rounds) (d : Trio (List ℕ)) (m : GateMapped me t first (second d)) where
    abbrev drawn : ℕ
    drawn = (shared_at first t).drawn

    abbrev count : ℕ
    count = draws_in (coming first t).act

    abbrev rule : Point → ℕ → ℕ
    rule j k = moved_of me (number_at first t j k) (secret_at first t j k) (secret_at (second d) t j k)

    abbrev list : Point → List ℕ
    list j = spliced (rule j) drawn count (member d j)

    abbrev extension : Trio (List ℕ)
    extension = all_but me list d

    fit : (j : Point) → drawn + count ≤ length (member d j)
    fit j = subst (λ n. drawn + count ≤ n) (sym (m.lengths j)) (fits t j lt)

    extends : Extends me first (second d) t extension
    extends = record {
      own = all_but-own me list d;
      lengths = all_but-each (λ j l. length l ≡ length (member d j)) me list d refl
          (λ j ne. spliced-length (rule j) drawn count (member d j));
      moves = λ j ne k below.
          all_but-each (λ i l. i ≢ me → slice_index l (drawn + k) ≡ rule i k) me list d (λ other. absurd (other refl))
          (λ i other same. spliced-moves (rule i) drawn count (member d i) (fit i) k below) j ne;
      below = λ j n low.
          all_but-each (λ i l. slice_index l n ≡ slice_index (member d i) n) me list d refl
          (λ i ne. spliced-below (rule i) drawn count (member d i) n low) j;
      beyond = λ j n high.
          all_but-each (λ i l. slice_index l n ≡ slice_index (member d i) n) me list d refl
          (λ i ne. spliced-beyond (rule i) drawn count (member d i) n high) j;
    }

    elements : AreElements d → AreElements extension
    elements few j n =
        all_but-each (λ i l. IsElement (slice_index l n)) me list d (few me n)
        (λ i ne. spliced-elements (rule i) drawn count (member d i) (fit i)
        (λ k. moved-small me (number_at first t i k) (secret_at first t i k) (secret_at (second d) t i k)) (few i) n) j

  pub record Reached (t : ℕ) : Type 0 where
    pub reached : Trio (List ℕ)
    pub mapped : GateMapped me t first (second reached)
    pub are_elements : AreElements reached

  pub reach : AreElements numbers → (t : ℕ) → t ≤ rounds → Reached t
  reach few zero le = record {
    reached = numbers;
    mapped = record {
      own = refl;
      lengths = λ j. refl;
      moves = λ j ne u k early below. absurd (omega arith);
      rest = λ j ne n high. refl;
    };
    are_elements = few;
  }
  reach few (suc t) le =
      let r = reach few t (omega arith) in
      let lt : t < rounds = omega arith in
      record {
        reached = extension t lt r.reached r.mapped;
        mapped = extended next me rounds w w' may numbers r.reached t lt r.mapped (extension t lt r.reached r.mapped)
            (extends t lt r.reached r.mapped);
        are_elements = elements t lt r.reached r.mapped r.are_elements;
      }
