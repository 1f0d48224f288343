-- Lists of points on lines: what is appended, lets, deals, products and openings.
use Rattle.std.proofs.Common.{◌≡◌, ℕ, zero, suc, ◌+◌, ◌-◌, ◌*◌, ◌%◌, ◌<◌, inl, inr, List, [], ◌∷◌, ◌++◌}
use Rattle.std.proofs.Common.{length, slice_index, refl, sym, ◌∙◌, ap, subst, arith, length-append}
use Rattle.std.proofs.Math.ListN.{get_or-append}
use Rattle.std.proofs.Math.Seq.{get_or-append_right}
use Rattle.beet_field.specs.Field.{p, IsElement, add_of, mul_of, sub_of}
use Rattle.beet_field.proofs.Modular.{mul_same}
use Rattle.beet_field.specs.Point.{number_of}
use Rattle.beet_field.specs.Trio.{member, trio_of, of_each}
use Rattle.beet_field.specs.declared.point.Point.{Point}
use Rattle.beet_field.specs.declared.point.Point.TheVariants.{One, Two, Three}
use Rattle.beet_field.specs.declared.trio.Trio.{Trio}
use Rattle.beet_shamir.specs.Line.{point_of, reshared}
use Rattle.beet_gates.specs.Clear.{weighed, let_of, with_lets, product_of}
use Rattle.beet_gates.specs.Each.{each}
use Rattle.beet_gates.specs.declared.Linear.{Linear}
use Rattle.beet_gates.proofs.EachFacts.{length-each, item-each}
use Rattle.beet_sharing.specs.Lines.{OnLines, slope_of, with_slopes}
use Rattle.beet_gates.proofs.EachFacts.{below_or, each-past}

-- the three points of each wire are those of the line with its value and its slope
pub record Lined (values slopes : List ℕ) (points : Point → List ℕ) : Type 0 where
  pub paired : length slopes ≡ length values
  pub lengths : (i : Point) → length (points i) ≡ length values
  pub on : (i : Point) (w : ℕ) → slice_index (points i) w ≡ point_of (slice_index values w) (slice_index slopes w) i
  pub elements : (w : ℕ) → IsElement (slice_index values w)

pub lined : (values slopes : List ℕ) (wires : Trio (List ℕ)) → OnLines values slopes wires → Lined values slopes (member wires)
lined values slopes wires l = record { paired = l.paired; lengths = l.lengths; on = l.points; elements = l.elements }

pub on-lines : (values slopes : List ℕ) (wires : Trio (List ℕ)) → Lined values slopes (member wires) → OnLines values slopes wires
on-lines values slopes wires l = record { paired = l.paired; lengths = l.lengths; points = l.on; elements = l.elements }

-- the same lists by another name
pub lined-same : (values slopes : List ℕ) (f g : Point → List ℕ) → ((i : Point) → g i ≡ f i) → Lined values slopes f → Lined values slopes g
lined-same values slopes f g same l = record {
  paired = l.paired;
  lengths = λ i. ap length (same i) ∙ l.lengths i;
  on = λ i w. ap (λ xs. slice_index xs w) (same i) ∙ l.on i w;
  elements = l.elements;
}

pub member-trio : {A : Type 0} (f : Point → A) → (i : Point) → member (trio_of f) i ≡ f i
member-trio f One = refl
member-trio f Two = refl
member-trio f Three = refl

pub member-each : {A B : Type 0} (f : A → B) → (t : Trio A) (i : Point) → member (of_each f t) i ≡ f (member t i)
member-each f t One = refl
member-each f t Two = refl
member-each f t Three = refl

-- past the end all are 0
none : (i : Point) → 0 ≡ point_of 0 0 i
none One = refl
none Two = refl
none Three = refl

pub lined-nil : Lined [] [] (λ i. [])
lined-nil = record { paired = refl; lengths = λ i. refl; on = λ i w. none i; elements = λ w. omega arith }

pub lined-append : (v s v' s' : List ℕ) (f g : Point → List ℕ) → Lined v s f → Lined v' s' g → Lined (v ++ v') (s ++ s') (λ i. f i ++ g i)
lined-append v s v' s' f g a b = record {
  paired = omega (arith, length-append s s', length-append v v', a.paired, b.paired);
  lengths = λ i. omega (arith, length-append (f i) (g i), length-append v v', a.lengths i, b.lengths i);
  on = λ i w. elim (below_or w (length v)) [
    | inl x ↦
        get_or-append (f i) (g i) 0 w (omega (arith, x, a.lengths i)) ∙ a.on i w
        ∙ (λ j. point_of (sym (get_or-append v v' 0 w x) j) (sym (get_or-append s s' 0 w (omega (arith, x, a.paired))) j) i)
    | inr x ↦
        get_or-append_right (f i) (g i) w 0 (omega (arith, x, a.lengths i))
        ∙ ap (λ n. slice_index (g i) (w - n)) (a.lengths i) ∙ b.on i (w - length v)
        ∙ (λ j. point_of (sym (get_or-append_right v v' w 0 x) j)
        (sym (get_or-append_right s s' w 0 (omega (arith, x, a.paired)) ∙ ap (λ n. slice_index s' (w - n)) a.paired) j) i)
  ];
  elements = λ w. elim (below_or w (length v)) [
    | inl x ↦ subst (λ z. z < p) (sym (get_or-append v v' 0 w x)) (a.elements w)
    | inr x ↦ subst (λ z. z < p) (sym (get_or-append_right v v' w 0 x)) (b.elements (w - length v))
  ];
}

-- lists that are given by a rule for the place
pub lined-each : (n : ℕ) (value slope : ℕ → ℕ) (points : Point → ℕ → ℕ) → ((k : ℕ) → k < n → IsElement (value k)) →
    ((i : Point) (k : ℕ) → k < n → points i k ≡ point_of (value k) (slope k) i) →
    Lined (each value n) (each slope n) (λ i. each (points i) n)
lined-each n value slope points small line = record {
  paired = length-each slope n ∙ sym (length-each value n);
  lengths = λ i. length-each (points i) n ∙ sym (length-each value n);
  on = λ i w. elim (below_or w n) [
    | inl x ↦ item-each (points i) n w x ∙ line i w x ∙ (λ j. point_of (sym (item-each value n w x) j) (sym (item-each slope n w x) j) i)
    | inr x ↦ each-past (points i) n w x ∙ none i ∙ (λ j. point_of (sym (each-past value n w x) j) (sym (each-past slope n w x) j) i)
  ];
  elements = λ w. elim (below_or w n) [
    | inl x ↦ subst (λ z. z < p) (sym (item-each value n w x)) (small w x)
    | inr x ↦ subst (λ z. z < p) (sym (each-past value n w x)) (omega arith)
  ];
}

-- a sum of multiples of points
weighed-line : (n : ℕ) (ws v s : List ℕ) →
    ((w : ℕ) → slice_index ws w ≡ add_of (slice_index v w) (mul_of (slice_index s w) n)) → (ts : List (ℕ × ℕ)) →
    weighed ws ts % p ≡ (weighed v ts + weighed s ts * n) % p
unfolding weighed
weighed-line n ws v s on [] = omega arith
weighed-line n ws v s on (t ∷ ts) =
    let x = slice_index v t.1 in
    let y = slice_index s t.1 in
    let e1 = mul_same t.0 (add_of x (mul_of y n)) t.0 (x + y * n) refl (omega arith) in
    let e2 = weighed-line n ws v s on ts in
    let e3 : t.0 * (x + y * n) + (weighed v ts + weighed s ts * n) ≡ t.0 * x + weighed v ts + (t.0 * y + weighed s ts) * n = omega arith in
    rw (on t.1) (omega (arith, e1, e2, e3))

let-line : (n : ℕ) (ws v s : List ℕ) → ((w : ℕ) → slice_index ws w ≡ add_of (slice_index v w) (mul_of (slice_index s w) n)) → (l : Linear) →
    let_of ws l ≡ add_of (let_of v l) (mul_of (slope_of s l) n)
let-line n ws v s on l =
    let e1 = weighed-line n ws v s on l.terms in
    let e2 = mul_same (slope_of s l) n (weighed s l.terms) n (omega arith) refl in
    omega (arith, e1, e2)

lined-let : (v s : List ℕ) (f : Point → List ℕ) (l : Linear) → Lined v s f →
    Lined (let_of v l ∷ []) (slope_of s l ∷ []) (λ i. let_of (f i) l ∷ [])
lined-let v s f l a = record { paired = refl; lengths = λ i. refl; on = line; elements = small } where
  line : (i : Point) (w : ℕ) →
      slice_index (let_of (f i) l ∷ []) w ≡ point_of (slice_index (let_of v l ∷ []) w) (slice_index (slope_of s l ∷ []) w) i
  line i zero = let-line (number_of i) (f i) v s (a.on i) l
  line i (suc w) = none i

  small : (w : ℕ) → IsElement (slice_index (let_of v l ∷ []) w)
  small zero = omega arith
  small (suc w) = omega arith

-- with lets
pub lined-lets : (ls : List Linear) (v s : List ℕ) (f : Point → List ℕ) → Lined v s f →
    Lined (with_lets v ls) (with_slopes s ls) (λ i. with_lets (f i) ls)
lined-lets [] v s f a = a
lined-lets (l ∷ ls) v s f a =
    lined-lets ls (v ++ let_of v l ∷ []) (s ++ slope_of s l ∷ []) (λ i. f i ++ let_of (f i) l ∷ [])
    (lined-append v s (let_of v l ∷ []) (slope_of s l ∷ []) f (λ i. let_of (f i) l ∷ []) a (lined-let v s f l a))

-- the local products of two lines, put together, give the product of their values
reshared-products : (v a w b : ℕ) →
    reshared (record {
      one = mul_of (add_of v (mul_of a 1)) (add_of w (mul_of b 1));
      two = mul_of (add_of v (mul_of a 2)) (add_of w (mul_of b 2));
      three = mul_of (add_of v (mul_of a 3)) (add_of w (mul_of b 3));
    }) ≡ mul_of v w
reshared-products v a w b =
    let e1 = mul_same (add_of v (mul_of a 1)) (add_of w (mul_of b 1)) (v + a) (w + b) (omega arith) (omega arith) in
    let e2 = mul_same (add_of v (mul_of a 2)) (add_of w (mul_of b 2)) (v + 2 * a) (w + 2 * b) (omega arith) (omega arith) in
    let e3 = mul_same (add_of v (mul_of a 3)) (add_of w (mul_of b 3)) (v + 3 * a) (w + 3 * b) (omega arith) (omega arith) in
    omega (arith, e1, e2, e3)

-- the products of the points of a pair, put together
pub products-together : (v s : List ℕ) (f : Point → List ℕ) (pair : ℕ × ℕ) → Lined v s f →
    reshared (trio_of (λ j. product_of (f j) pair)) ≡ product_of v pair
products-together v s f pair a =
    (λ j. reshared (record {
      one = mul_of (a.on One pair.0 j) (a.on One pair.1 j);
      two = mul_of (a.on Two pair.0 j) (a.on Two pair.1 j);
      three = mul_of (a.on Three pair.0 j) (a.on Three pair.1 j);
    }))
    ∙ reshared-products (slice_index v pair.0) (slice_index s pair.0) (slice_index v pair.1) (slice_index s pair.1)

-- the value of a line through its points at 1 and 2
recombined-line : (v s : ℕ) → IsElement v → sub_of (mul_of 2 (add_of v (mul_of s 1))) (add_of v (mul_of s 2)) ≡ v
recombined-line v s h = omega arith

pub opened-line : (v s : List ℕ) (f : Point → List ℕ) → Lined v s f → (w : ℕ) →
    sub_of (mul_of 2 (slice_index (f One) w)) (slice_index (f Two) w) ≡ slice_index v w
opened-line v s f a w =
    (λ j. sub_of (mul_of 2 (a.on One w j)) (a.on Two w j)) ∙ recombined-line (slice_index v w) (slice_index s w) (a.elements w)
