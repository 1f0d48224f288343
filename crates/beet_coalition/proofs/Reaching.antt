-- Numbers of a second world, mapped batch by batch.
use Rattle.std.proofs.Common.{◌≡◌, ◌≤◌, ◌<◌, ◌+◌, ◌*◌, ℕ, zero, suc, inl, inr, true, false, List, length, slice_index, sym, refl, ap, subst}
use Rattle.std.proofs.Common.{◌∙◌, arith, mul-add}
use Rattle.std.specs.Prelude.{if◌then◌else◌}
use Rattle.std.proofs.lemmas.Bool.{cases_Bool}
use Rattle.beet_field.specs.Field.{IsElement}
use Rattle.beet_gates.specs.declared.Batch.{Batch}
use Rattle.beet_gates.specs.Draws.{draws_in}
use Rattle.beet_gates.proofs.Splices.{spliced, spliced-below, spliced-beyond, spliced-elements, spliced-length, spliced-moves}
use Rattle.beet_linear_sharing.specs.Sharings.{Sharing, IsAmong}
use Rattle.beet_linear_sharing.specs.Runs.{Setup, coming, shared_at}
use Rattle.beet_coalition.specs.Coalitions.{Coalition, GateMapped, moved_of, number_at, secret_at}
use Rattle.beet_coalition.specs.Premise.{MayMap, Secrets, begin_in}
use Rattle.beet_coalition.specs.Pairs.{AreElements, HasNumbers}
use Rattle.beet_linear_sharing.proofs.Laws.{SharingLaws, IsPlace, place-same, place-within, same-place}
use Rattle.beet_coalition.proofs.Laws.{CoalitionLaws, moved_small}
use Rattle.beet_coalition.proofs.Extending.{Extends, extended}

module _ (q : Sharing) (c : Coalition) (laws : SharingLaws q) (watch : CoalitionLaws q c) (next : ℕ → List ℕ → Batch) (rounds : ℕ)
    (w w' : Secrets)
    (may : MayMap q c next rounds w w') (numbers : ℕ → List ℕ)
    (fits : HasNumbers q rounds (begin_in next w numbers)) where
  abbrev first : Setup
  first = begin_in next w numbers

  abbrev second : (ℕ → List ℕ) → Setup
  second d = begin_in next w' d

  -- the numbers of one more batch
  module _ (t : ℕ) (lt : t < rounds) (d : ℕ → List ℕ) (m : GateMapped q c t first (second d)) where
    abbrev hidden : ℕ
    hidden = (shared_at q first t).hidden

    abbrev count : ℕ
    count = draws_in (coming q first t).act

    abbrev move : ℕ → ℕ → ℕ → ℕ
    move j k n = moved_of c n (number_at q first t j k n) (secret_at q first t j k) (secret_at q (second d) t j k)

    -- by the place of a number among those of the batch
    abbrev rule : ℕ → ℕ → ℕ
    rule j o = move j (laws.place_of o).secret (laws.place_of o).number

    abbrev list : ℕ → List ℕ
    list j = spliced (rule j) (q.degree * hidden) (q.degree * count) (d j)

    abbrev extension : ℕ → List ℕ
    extension j = if c.watches j then d j else list j

    stays : (j : ℕ) → c.watches j ≡ true → extension j ≡ d j
    stays j mine = rw mine refl

    goes : (j : ℕ) → c.watches j ≡ false → extension j ≡ list j
    goes j other = rw other refl

    fit : (j : ℕ) → IsAmong q.servers j → q.degree * hidden + q.degree * count ≤ length (d j)
    fit j at =
        let e : length (d j) ≡ length (numbers j) = m.lengths j at in
        omega (arith, e, fits t j at lt, mul-add q.degree hidden count)

    -- what holds of the list that stays and of the one that is moved
    both : (P : List ℕ → Type 0) (j : ℕ) → P (d j) → (c.watches j ≡ false → P (list j)) → P (extension j)
    both P j own other = elim (cases_Bool (c.watches j)) [
      | inl mine ↦ subst P (sym (stays j mine)) own
      | inr away ↦ subst P (sym (goes j away)) (other away)
    ]

    extends : Extends q c first (second d) t extension
    extends = record {
      own = λ j at mine. stays j mine;
      lengths = λ j at. both (λ l. length l
          ≡ length (d j)) j refl (λ away. spliced-length (rule j) (q.degree * hidden) (q.degree * count) (d j));
      moves = λ j at other k n below small.
          let o : ℕ = q.degree * k + n in
          let place : q.degree * (hidden + k) + n ≡ q.degree * hidden + o = omega (arith, mul-add q.degree hidden k) in
          let is : IsPlace q o = laws.place_of o in
          let k_is : is.secret ≡ k = place-same q is.secret is.number k n is.small small is.is in
          let n_is : is.number ≡ n = same-place q is.secret is.number k n is.small small is.is in
          ap (λ l. slice_index l (q.degree * (hidden + k) + n)) (goes j other) ∙ ap (λ x. slice_index (list j) x) place
          ∙ spliced-moves (rule j) (q.degree * hidden) (q.degree * count) (d j) (fit j at) o (place-within q k n count below small)
          ∙ (λ x. move j (k_is x) (n_is x));
      below = λ j n at low. both (λ l. slice_index l n
          ≡ slice_index (d j) n) j refl (λ away. spliced-below (rule j) (q.degree * hidden) (q.degree * count) (d j) n low);
      beyond = λ j n at high.
          both (λ l. slice_index l n ≡ slice_index (d j) n) j refl
          (λ away. spliced-beyond (rule j) (q.degree * hidden) (q.degree
          * count) (d j) n (omega (arith, high, mul-add q.degree hidden count)));
    }

    elements : AreElements q d → AreElements q extension
    elements few j n at =
        both (λ l. IsElement (slice_index l n)) j (few j n at)
        (λ away. spliced-elements (rule j) (q.degree * hidden) (q.degree * count) (d j) (fit j at)
        (λ o. moved_small c (laws.place_of o).number (number_at q first t j (laws.place_of o).secret (laws.place_of o).number)
        (secret_at q first t j (laws.place_of o).secret) (secret_at q (second d) t j (laws.place_of o).secret))
        (λ x. few j x at) n)

  pub record Reached (t : ℕ) : Type 0 where
    pub reached : ℕ → List ℕ
    pub mapped : GateMapped q c t first (second reached)
    pub are_elements : AreElements q reached

  pub reach : AreElements q numbers → (t : ℕ) → t ≤ rounds → Reached t
  reach few zero le = record {
    reached = numbers;
    mapped = record {
      own = λ j at mine. refl;
      lengths = λ j at. refl;
      moves = λ j at other u k n early below small. absurd (omega arith);
      rest = λ j at other n high. refl;
    };
    are_elements = few;
  }
  reach few (suc t) le =
      let r = reach few t (omega arith) in
      let lt : t < rounds = omega arith in
      record {
        reached = extension t lt r.reached r.mapped;
        mapped = extended q c laws watch next rounds w w' may numbers r.reached t lt r.mapped (extension t lt r.reached r.mapped)
            (extends t lt r.reached r.mapped);
        are_elements = elements t lt r.reached r.mapped r.are_elements;
      }
