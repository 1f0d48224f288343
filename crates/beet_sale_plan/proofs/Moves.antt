-- Where the parts of a selection lead on plain values.
use Rattle.std.proofs.Common.{◌≡◌, ℕ, suc, ◌+◌, List, [], ◌∷◌, ◌++◌, map, length, slice_index, refl, ap, sym, ◌∙◌, arith}
use Rattle.std.proofs.Common.{append_assoc, append-nil, length-append}
use Rattle.beet_gates.specs.declared.Batch.{Batch}
use Rattle.beet_gates.specs.declared.Linear.{Linear}
use Rattle.beet_gates.specs.Batches.{reveal_batch}
use Rattle.beet_gates.specs.Clear.{Values, with_lets, let_of, product_of, act_on, batch_on, batches_on}
use Rattle.beet_gates.specs.Plans.{Plan}
use Rattle.beet_gates.proofs.PlanFacts.{opened-last}
use Rattle.beet_gates.proofs.PlanNumbers.{Leads, leads-then, leads-quiet}
use Rattle.beet_gates.proofs.Segments.{with_lets-append, batches_on-append}
use Rattle.beet_sale_plan.specs.Selections.{quietly, lets_before, multiplied, with_last}
use Rattle.beet_sale_plan.proofs.Ending.{EndsShown}

-- quiet batches
pub leads-quietly : {F : Type 0} (deals : ℕ → List ℕ) (bs : List Batch) (rest : Plan F) (v : Values) →
    Leads deals (quietly bs rest) v rest (batches_on deals bs v) [] (length bs)
leads-quietly deals [] rest v = record { finish = refl; count = omega arith; shown = refl }
leads-quietly deals (b ∷ bs) rest v =
    let n : 1 + length bs ≡ suc (length bs) = omega arith in
    let after = batch_on deals b v in
    rw n at (leads-then deals (quietly (b ∷ bs) rest) (quietly bs rest) rest v after (batches_on deals bs after) [] [] 1 (length bs)
    (leads-quiet deals b (quietly bs rest) v) (leads-quietly deals bs rest after))

-- another last item
pub with_last-append : {A : Type 0} (f : A → A) (xs : List A) (x : A) → with_last f (xs ++ x ∷ []) ≡ xs ++ f x ∷ []
with_last-append f [] x = refl
with_last-append {A} f (a ∷ []) x = refl
with_last-append {A} f (a ∷ b ∷ cs) x = ap (λ (l : List A). a ∷ l) (with_last-append f (b ∷ cs) x)

pub with_last-length : {A : Type 0} (f : A → A) (xs : List A) → length (with_last f xs) ≡ length xs
with_last-length f [] = refl
with_last-length f (a ∷ []) = refl
with_last-length f (a ∷ b ∷ cs) = ap suc (with_last-length f (b ∷ cs))

-- lets before a batch
pub lets_before-run : (deals : ℕ → List ℕ) (lets : List Linear) (b : Batch) (v : Values) →
    batch_on deals (lets_before lets b) v ≡ batch_on deals b (record v { wires = with_lets v.wires lets })
lets_before-run deals lets b v =
    ap (λ (l : List ℕ). act_on deals b.act (record v { wires = l })) (with_lets-append v.wires lets b.lets.items)

-- the last numbers of equal lists
last-same : (xs ys : List ℕ) (x y : ℕ) → xs ++ x ∷ [] ≡ ys ++ y ∷ [] → x ≡ y
last-same xs ys x y e =
    let n : length xs ≡ length ys = omega (arith, ap length e, length-append xs (x ∷ []), length-append ys (y ∷ [])) in
    sym (opened-last xs x) ∙ (λ i. slice_index (e i) (n i)) ∙ opened-last ys y

-- in place of the opening, products: the same wires, and the products after the further lets; the wire that would have
-- been opened holds the number
pub record Multiplied (after u : Values) (wire bit : ℕ) (lets : List Linear) (pairs : List (ℕ × ℕ)) : Type 0 where
  pub result : slice_index after.wires wire ≡ bit
  pub wires : u.wires ≡ with_lets after.wires lets ++ map (product_of (with_lets after.wires lets)) pairs
  pub dealt : u.dealt ≡ after.dealt

pub multiplied-run : (deals : ℕ → List ℕ) (bs : List Batch) (wire bit : ℕ) (lets : List Linear) (pairs : List (ℕ × ℕ)) (v : Values) →
    EndsShown bs wire → (batches_on deals bs v).opened ≡ v.opened ++ bit ∷ [] →
    Multiplied (batches_on deals bs v) (batches_on deals (with_last (multiplied lets pairs) bs) v) wire bit lets pairs
multiplied-run deals bs wire bit lets pairs v e o =
    let y = batches_on deals e.init v in
    let last = reveal_batch e.lets (wire ∷ []) in
    let w = batch_on deals last y in
    let here : batches_on deals bs v ≡ w =
    ap (λ (l : List Batch). batches_on deals l v) e.is ∙ batches_on-append deals e.init (last ∷ []) v in
    let there : batches_on deals (with_last (multiplied lets pairs) bs) v ≡ batch_on deals (multiplied lets pairs last) y =
    ap (λ (l : List Batch). batches_on deals (with_last (multiplied lets pairs) l) v) e.is
    ∙ ap (λ (l : List Batch). batches_on deals l v) (with_last-append (multiplied lets pairs) e.init last)
    ∙ batches_on-append deals e.init (multiplied lets pairs last ∷ []) v in
    let shown : y.opened ++ slice_index w.wires wire ∷ [] ≡ v.opened ++ bit ∷ [] = sym (ap (λ (s : Values). s.opened) here) ∙ o in
    let value : slice_index w.wires wire ≡ bit = last-same y.opened v.opened (slice_index w.wires wire) bit shown in
    let all : with_lets y.wires (e.lets ++ lets) ≡ with_lets w.wires lets = with_lets-append y.wires e.lets lets in
    rw (here, there) (record {
      result = value;
      wires = ap (λ (l : List ℕ). l ++ map (product_of l) pairs) all;
      dealt = refl;
    })

-- lets append as many wires
pub record Grown (wires : List ℕ) (lets : List Linear) : Type 0 where
  pub new : List ℕ
  pub is : with_lets wires lets ≡ wires ++ new
  pub many : length new ≡ length lets

pub with_lets-grow : (wires : List ℕ) (lets : List Linear) → Grown wires lets
with_lets-grow wires [] = record { new = []; is = sym (append-nil wires); many = refl }
with_lets-grow wires (l ∷ ls) =
    let x = let_of wires l in
    let rest = with_lets-grow (wires ++ x ∷ []) ls in
    record { new = x ∷ rest.new; is = rest.is ∙ append_assoc wires (x ∷ []) rest.new; many = ap suc rest.many }
