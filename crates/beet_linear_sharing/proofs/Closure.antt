-- Lists of shared wires: what is appended, lets, deals, products.
use Rattle.std.proofs.Common.{◌≡◌, ℕ, zero, suc, ◌+◌, ◌-◌, ◌*◌, ◌%◌, ◌<◌, inl, inr, List, [], ◌∷◌, ◌++◌, length, slice_index}
use Rattle.std.proofs.Common.{refl, sym, ◌∙◌, ap, subst, arith, length-append}
use Rattle.std.proofs.Math.ListN.{get_or-append}
use Rattle.std.proofs.Math.Seq.{get_or-append_right}
use Rattle.beet_field.specs.Field.{p, IsElement, mul_of}
use Rattle.beet_gates.specs.Clear.{weighed, let_of, with_lets, product_of}
use Rattle.beet_gates.specs.Each.{each}
use Rattle.beet_gates.specs.declared.Linear.{Linear}
use Rattle.beet_gates.proofs.EachFacts.{length-each, item-each}
use Rattle.beet_linear_sharing.specs.Sharings.{Sharing, IsAmong, joined}
use Rattle.beet_linear_sharing.specs.Polynomials.{IsShared, AreShared}
use Rattle.beet_linear_sharing.proofs.Laws.{SharingLaws}
use Rattle.beet_gates.proofs.EachFacts.{below_or, each-past}

module _ (q : Sharing) (laws : SharingLaws q) where
  -- the same value and points by another name
  pub is-same : (v v' : ℕ) (f g : ℕ → ℕ) → v' ≡ v → ((i : ℕ) → IsAmong q.servers i → g i ≡ f i) → IsShared q v f → IsShared q v' g
  is-same v v' f g e same s =
      record { numbers = s.numbers; points = λ i am. same i am ∙ s.points i am ∙ (λ j. q.share (sym e j) s.numbers i) }

  is-none : IsShared q 0 (λ i. 0)
  is-none = record { numbers = λ m. 0; points = λ i am. sym (laws.nothing i am) }

  pub shared-nil : AreShared q [] (λ i. [])
  shared-nil = record { lengths = λ i am. refl; shared = λ w. is-none; elements = λ w. omega arith }

  pub shared-append : (v v' : List ℕ) (f g : ℕ → List ℕ) → AreShared q v f → AreShared q v' g → AreShared q (v ++ v') (λ i. f i ++ g i)
  shared-append v v' f g a b = record {
    lengths = λ i am. omega (arith, length-append (f i) (g i), length-append v v', a.lengths i am, b.lengths i am);
    shared = λ w. elim (below_or w (length v)) [
      | inl x ↦
          is-same (slice_index v w) (slice_index (v ++ v') w) (λ i. slice_index (f i) w) (λ i. slice_index (f i ++ g i) w)
          (get_or-append v v' 0 w x) (λ i am. get_or-append (f i) (g i) 0 w (omega (arith, x, a.lengths i am))) (a.shared w)
      | inr x ↦
          is-same (slice_index v' (w - length v)) (slice_index (v ++ v') w) (λ i. slice_index (g i) (w - length v))
          (λ i. slice_index (f i ++ g i) w)
          (get_or-append_right v v' w 0 x)
          (λ i am. get_or-append_right (f i) (g i) w 0 (omega (arith, x, a.lengths i am))
          ∙ ap (λ n. slice_index (g i) (w - n)) (a.lengths i am))
          (b.shared (w - length v))
    ];
    elements = λ w. elim (below_or w (length v)) [
      | inl x ↦ subst (λ z. z < p) (sym (get_or-append v v' 0 w x)) (a.elements w)
      | inr x ↦ subst (λ z. z < p) (sym (get_or-append_right v v' w 0 x)) (b.elements (w - length v))
    ];
  }

  pub shared-each : (n : ℕ) (value : ℕ → ℕ) (points : ℕ → ℕ → ℕ) → ((k : ℕ) → IsElement (value k)) →
      ((k : ℕ) → k < n → IsShared q (value k) (λ i. points i k)) → AreShared q (each value n) (λ i. each (points i) n)
  shared-each n value points small are = record {
    lengths = λ i am. length-each (points i) n ∙ sym (length-each value n);
    shared = λ w. elim (below_or w n) [
      | inl x ↦
          is-same (value w) (slice_index (each value n) w) (λ i. points i w) (λ i. slice_index (each (points i) n) w)
          (item-each value n w x) (λ i am. item-each (points i) n w x) (are w x)
      | inr x ↦
          is-same 0 (slice_index (each value n) w) (λ i. 0) (λ i. slice_index (each (points i) n) w)
          (each-past value n w x) (λ i am. each-past (points i) n w x) is-none
    ];
    elements = λ w. elim (below_or w n) [
      | inl x ↦ subst (λ z. z < p) (sym (item-each value n w x)) (small w)
      | inr x ↦ subst (λ z. z < p) (sym (each-past value n w x)) (omega arith)
    ];
  }

  pub shared-joined : (js : List ℕ) (values : ℕ → List ℕ) (wires : ℕ → ℕ → List ℕ) → ((j : ℕ) → AreShared q (values j) (λ i. wires j i)) →
      AreShared q (joined values js) (λ i. joined (λ j. wires j i) js)
  shared-joined [] values wires are = shared-nil
  shared-joined (j ∷ []) values wires are = are j
  shared-joined (j ∷ k ∷ js) values wires are =
      shared-append (values j) (joined values (k ∷ js)) (λ i. wires j i) (λ i. joined (λ j. wires j i) (k ∷ js)) (are j)
      (shared-joined (k ∷ js) values wires are)

  -- a sum of multiples of wires
  weighed-shared : (v : List ℕ) (f : ℕ → List ℕ) → ((w : ℕ) → IsShared q (slice_index v w) (λ i. slice_index (f i) w)) →
      (ts : List (ℕ × ℕ)) →
      IsShared q (weighed v ts % p) (λ i. weighed (f i) ts % p)
  unfolding weighed
  weighed-shared v f are [] = record { numbers = λ m. 0; points = λ i am. sym (laws.nothing i am) }
  weighed-shared v f are (t ∷ ts) =
      let here = are t.1 in
      let rest = weighed-shared v f are ts in
      let x : ℕ = slice_index v t.1 in
      record {
        numbers = λ m. (t.0 * here.numbers m + rest.numbers m) % p;
        points = λ i am.
            let e : slice_index (f i) t.1 ≡ q.share x here.numbers i = here.points i am in
            let e' : weighed (f i) ts % p ≡ q.share (weighed v ts % p) rest.numbers i = rest.points i am in
            let both : (t.0 * slice_index (f i) t.1 + weighed (f i) ts) % p ≡ (t.0 * slice_index (f i) t.1 + weighed (f i) ts % p) % p =
            omega arith in
            let value : (t.0 * x + weighed v ts) % p ≡ (t.0 * x + weighed v ts % p) % p = omega arith in
            both ∙ (λ j. (t.0 * e j + e' j) % p) ∙ sym (laws.multiple t.0 x (weighed v ts % p) i here.numbers rest.numbers am)
            ∙ (λ j. q.share (sym value j) (λ m. (t.0 * here.numbers m + rest.numbers m) % p) i);
      }

  let-shared : (v : List ℕ) (f : ℕ → List ℕ) → ((w : ℕ) → IsShared q (slice_index v w) (λ i. slice_index (f i) w)) → (l : Linear) →
      IsShared q (let_of v l) (λ i. let_of (f i) l)
  let-shared v f are l =
      let s = weighed-shared v f are l.terms in
      record {
        numbers = s.numbers;
        points = λ i am.
            let both : (l.constant + weighed (f i) l.terms) % p ≡ (l.constant + weighed (f i) l.terms % p) % p = omega arith in
            let value : (l.constant + weighed v l.terms) % p ≡ (l.constant + weighed v l.terms % p) % p = omega arith in
            both ∙ (λ j. (l.constant + s.points i am j) % p) ∙ sym (laws.constant l.constant (weighed v l.terms % p) i s.numbers am)
            ∙ (λ j. q.share (sym value j) s.numbers i);
      }

  one-let : (v : List ℕ) (f : ℕ → List ℕ) → AreShared q v f → (l : Linear) → AreShared q (let_of v l ∷ []) (λ i. let_of (f i) l ∷ [])
  one-let v f a l = record { lengths = λ i am. refl; shared = at; elements = small } where
    at : (w : ℕ) → IsShared q (slice_index (let_of v l ∷ []) w) (λ i. slice_index (let_of (f i) l ∷ []) w)
    at zero = let-shared v f a.shared l
    at (suc w) = is-none

    small : (w : ℕ) → IsElement (slice_index (let_of v l ∷ []) w)
    small zero = omega arith
    small (suc w) = omega arith

  pub shared-lets : (ls : List Linear) (v : List ℕ) (f : ℕ → List ℕ) → AreShared q v f →
      AreShared q (with_lets v ls) (λ i. with_lets (f i) ls)
  shared-lets [] v f a = a
  shared-lets (l ∷ ls) v f a =
      shared-lets ls (v ++ let_of v l ∷ []) (λ i. f i ++ let_of (f i) l ∷ [])
      (shared-append v (let_of v l ∷ []) f (λ i. let_of (f i) l ∷ []) a (one-let v f a l))

  -- a product of wires, of which each server shares its local product anew
  pub product-shared : (v : List ℕ) (f : ℕ → List ℕ) → AreShared q v f → (pair : ℕ × ℕ) (r : ℕ → ℕ → ℕ) →
      IsShared q (product_of v pair) (λ i. q.reshared (λ j. q.share (product_of (f j) pair) (r j) i))
  product-shared v f a pair r =
      let one = a.shared pair.0 in
      let two = a.shared pair.1 in
      let products : q.reshared (λ j. product_of (f j) pair) ≡ product_of v pair =
      laws.reshared_same (λ j. product_of (f j) pair)
      (λ j. mul_of (q.share (slice_index v pair.0) one.numbers j) (q.share (slice_index v pair.1) two.numbers j))
      (λ j am. λ k. mul_of (one.points j am k) (two.points j am k))
      ∙ laws.products (slice_index v pair.0) (slice_index v pair.1) one.numbers two.numbers in
      record {
        numbers = λ m. q.reshared (λ j. r j m);
        points = λ i am. laws.reshares (λ j. product_of (f j) pair) r i am ∙ (λ k. q.share (products k) (λ m. q.reshared (λ j. r j m)) i);
      }

  pub opened-shared : (v : List ℕ) (f : ℕ → List ℕ) → AreShared q v f → (w : ℕ) → q.opened (λ i. slice_index (f i) w) ≡ slice_index v w
  opened-shared v f a w =
      let s = a.shared w in
      laws.opened_same (λ i. slice_index (f i) w) (λ i. q.share (slice_index v w) s.numbers i) s.points
      ∙ laws.opens (slice_index v w) s.numbers (a.elements w)
